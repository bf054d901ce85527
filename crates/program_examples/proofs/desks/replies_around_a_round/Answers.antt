use Rattle.std.proofs.Common.{rules, ◌≡◌, ◌∙◌, List, length, sym, ap, subst, arith}
use Rattle.std.proofs.lemmas.Result.{IfOk-at_ok}
use Rattle.bolt_base.specs.Graph.{vertices}
use Rattle.bolt_base.specs.declared.answer.AnswerChange.{AnswerChange}
use Rattle.run_model.specs.Logs.{Round, with_changes}
use Rattle.run_model.specs.Program.{lanes}
use Rattle.run_model.specs.Rows.{answer}
use Rattle.run_model.proofs.RowLemmas.{values_whole}
use Rattle.board.specs.Log.{shows}
use Rattle.live_text.specs.Questions.{AreWithin}
use Rattle.live_text.specs.declared.question.Question.{Question}
use Rattle.program_examples.proofs.desks.replies_around_a_round.Goals as goal

pub ask_all-first-requires : goal.ask_all-first-requires
ask_all-first-requires g c =
    let n = lanes c.args.first.origin.program in
    let same : c.as_slice.result.now ≡ c.in_ok-three_questions.field-0 = search rules in
    subst (λ (qs : List Question). AreWithin n qs) (sym same)
    (IfOk-at_ok (λ qs. AreWithin n qs) c.in_ok-three_questions.was (c.three_questions.ensures n))

pub hold-requires-clause-room : goal.hold-requires-clause-room
hold-requires-clause-room g c =
    let o = c.args.publisher.now.origin in
    let size : length (answer o.program o.graph) ≡ vertices o.graph =
    (values_whole o.program o.graph o.program.rounds).each_vertex in
    let shown : with_changes (shows o c.args.publisher.now.log) c.empty_round.result.changes
    ≡ answer o.program o.graph =
    ap (λ (cs : List AnswerChange). with_changes (shows o c.args.publisher.now.log) cs)
    c.empty_round.ensures.changes ∙ ap (λ (l : List Round). shows o l) c.requires.new.0 in
    let long = ap length shown in
    omega (arith, size, long, c.requires.room)

pub ask_all-second-requires : goal.ask_all-second-requires
ask_all-second-requires g c =
    let n = lanes c.args.second.origin.program in
    let same : c.as_slice-2.result.now ≡ c.in_ok-three_questions-2.field-0 = search rules in
    subst (λ (qs : List Question). AreWithin n qs) (sym same)
    (IfOk-at_ok (λ qs. AreWithin n qs) c.in_ok-three_questions-2.was
    (c.three_questions-2.ensures n))
