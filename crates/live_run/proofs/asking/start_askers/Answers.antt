use Rattle.std.proofs.Common.{rules, arith, ◌≡◌, ◌+◌, ◌<◌, ◌≤◌, ◌∷◌, ◌++◌, [], List, ℕ, take, length}
use Rattle.std.proofs.Common.{length-append, get_or, sym, ap, subst}
use Rattle.std.specs.List.{All}
use Rattle.std.proofs.lemmas.List.{take_all}
use Rattle.run_model.specs.Program.{lanes}
use Rattle.board.specs.Post.{Post}
use Rattle.live_text.specs.Questions.{AreWithin}
use Rattle.live_text.specs.declared.question.Question.{Question}
use Rattle.live_run.specs.declared.asking.Turn.{Turn}
use Rattle.live_run.specs.Turns.{AllTurns, IsDeskOf, IsTurn}
use Rattle.live_run.proofs.Turning.{all_front, all_last, turn_of, turns_more}
use Rattle.live_run.proofs.asking.start_askers.Goals as goal

pub start_asker-requires-clause-within : goal.start_asker-requires-clause-within
start_asker-requires-clause-within g c κs within =
    let qss = c.args.questions.now in
    let fits : Post → Type 0 = λ d. All (AreWithin (lanes d.origin.program)) qss in
    let n = lanes c.in-Some.desk.origin.program in
    let rest = c.pop.new.self in
    let qs = c.index-questions-number.result in
    let popped : c.loop-number.desks ≡ rest ++ c.in-Some.desk ∷ [] = c.in-Some.ensures in
    let mine : fits c.in-Some.desk = all_last fits rest c.in-Some.desk
    (subst (All fits) popped c.loop-number.invariant.3) in
    subst (λ (x : List Question). AreWithin n x) (sym c.index-questions-number.is)
    (mine c.loop-number.number qs c.loop-number-test.true)

pub loop-number-preserved : goal.loop-number-preserved
loop-number-preserved g c =
    let inv = c.loop-number.invariant in
    let qss = c.args.questions.now in
    let k = c.loop-number.number in
    let qs = c.index-questions-number.result in
    let desk = c.in-Some.desk in
    let rest = c.pop.new.self in
    let fits : Post → Type 0 = λ d. All (AreWithin (lanes d.origin.program)) qss in
    let popped : c.loop-number.desks ≡ rest ++ desk ∷ [] = c.in-Some.ensures in
    let count = ap length popped in
    let long = length-append rest (desk ∷ []) in
    let all = inv.2 in (
      search rules,
      search rules,
      omega (arith, count, long, all),
      all_front fits rest desk (subst (All fits) popped inv.3),
      λ b o of. all_front (IsDeskOf b o) rest desk
          (subst (All (IsDeskOf b o)) popped (inv.4 b o of)),
      λ b o of.
          let mine : IsDeskOf b o desk = all_last (IsDeskOf b o) rest desk
          (subst (All (IsDeskOf b o)) popped (inv.4 b o of)) in
          let new : IsTurn b o (get_or qss k qs) c.start_asker.result =
          subst (λ (x : List Question). IsTurn b o x c.start_asker.result)
          c.index-questions-number.is
          (turn_of desk b o qs c.start_asker.result c.start_asker.ensures mine) in
          subst (λ (ts : List Turn). AllTurns b o (take (k + 1) qss) ts)
          (sym c.push_reserved.ensures.items)
          (turns_more b o qss k c.loop-number.turns.items qs c.start_asker.result
          c.loop-number-test.true (inv.5 b o of) new),
    )

pub returns : goal.returns
returns g c =
    let qss = c.args.questions.now in
    let done = c.loop-number-test.false in
    let most : length qss ≤ c.loop-number.number = omega (arith, done) in
    λ b o of. subst (λ (l : List (List Question)). AllTurns b o l c.loop-number.turns.items)
    (take_all c.loop-number.number qss most) (c.loop-number.invariant.5 b o of)
