use Rattle.std.proofs.Common.{rules, ◌≡◌, ◌∙◌, ◌<◌, ◌++◌, ◌∷◌, [], List, length, take, get_or}
use Rattle.std.proofs.Common.{sym, ap, subst, arith}
use Rattle.std.proofs.lemmas.Iterator.Adapters.{YieldsList-from_vec}
use Rattle.std.proofs.lemmas.Iterator.Consumers.{YieldsList-end}
use Rattle.std.proofs.lemmas.List.{length_push, take_all}
use Rattle.run_model.specs.Program.{lanes}
use Rattle.board.specs.Log.{rounds_of}
use Rattle.board.specs.Post.{Office}
use Rattle.board.specs.declared.kinds.Origin.{Origin}
use Rattle.live_text.specs.declared.question.Question.{Question}
use Rattle.live_course.specs.declared.made.DeskReplies.{DeskReplies}
use Rattle.live_course.specs.Replied.{AllReplied, IsReplied}
use Rattle.live_desks.specs.Shown.{edits_of}
use Rattle.live_desks.proofs.Finishing.{replied_here}
use Rattle.live_desks.proofs.Turns.{as_many, next_was_asked, replied_more}
use Rattle.live_desks.proofs.last.last_replies.Goals as goal

pub finish-requires-clause-book : goal.finish-requires-clause-book
finish-requires-clause-book g c =
    let office = c.args.publisher.now in
    let start = c.into_iter-one-iterator.ensures.into_iter_gives in
    let next = next_was_asked office.book office.origin c.args.questions.now c.args.asked.items
    c.requires.asked (YieldsList-from_vec {s = c.into_iter-one-iterator.result} c.args.asked.items
    start.0 (start.1 ∙ c.args.asked.ok.0)) c.loop-one.yielded c.loop-one.one-iterator
    c.loop-one.yielded_by c.next.result c.next.new.self c.in-Some.one c.in-Some.is
    c.next.ensures.steps in
    c.tell.ensures.receipt.0 ∙ ap (λ (o : Office). o.book) c.loop-one.invariant.0
    ∙ sym next.1.book

pub finish-requires-clause-lane : goal.finish-requires-clause-lane
finish-requires-clause-lane g c =
    let office = c.args.publisher.now in
    let start = c.into_iter-one-iterator.ensures.into_iter_gives in
    let next = next_was_asked office.book office.origin c.args.questions.now c.args.asked.items
    c.requires.asked (YieldsList-from_vec {s = c.into_iter-one-iterator.result} c.args.asked.items
    start.0 (start.1 ∙ c.args.asked.ok.0)) c.loop-one.yielded c.loop-one.one-iterator
    c.loop-one.yielded_by c.next.result c.next.new.self c.in-Some.one c.in-Some.is
    c.next.ensures.steps in
    subst (λ (o : Origin). 0 < lanes o.program) (sym next.1.origin) c.requires.lane

pub push_reserved-requires : goal.push_reserved-requires
push_reserved-requires g c =
    let office = c.args.publisher.now in
    let start = c.into_iter-one-iterator.ensures.into_iter_gives in
    let next = next_was_asked office.book office.origin c.args.questions.now c.args.asked.items
    c.requires.asked (YieldsList-from_vec {s = c.into_iter-one-iterator.result} c.args.asked.items
    start.0 (start.1 ∙ c.args.asked.ok.0)) c.loop-one.yielded c.loop-one.one-iterator
    c.loop-one.yielded_by c.next.result c.next.new.self c.in-Some.one c.in-Some.is
    c.next.ensures.steps in
    omega (arith, c.loop-one.invariant.1, c.loop-one.invariant.2, next.0)

pub loop-one-preserved : goal.loop-one-preserved
loop-one-preserved g c =
    let inv = c.loop-one.invariant in
    let office = c.args.publisher.now in
    let o = office.origin in
    let log = office.log in
    let qss = c.args.questions.now in
    let before = c.loop-one.yielded in
    let one = c.in-Some.one in
    let d = c.in_ok-finish.field-0 in
    let all = c.loop-one.all.items in
    let more = length_push before one in
    let start = c.into_iter-one-iterator.ensures.into_iter_gives in
    let next = next_was_asked office.book o qss c.args.asked.items c.requires.asked
    (YieldsList-from_vec {s = c.into_iter-one-iterator.result} c.args.asked.items start.0
    (start.1 ∙ c.args.asked.ok.0)) before c.loop-one.one-iterator c.loop-one.yielded_by
    c.next.result c.next.new.self one c.in-Some.is c.next.ensures.steps in
    let here : IsReplied o.program o.graph (edits_of log) (get_or qss (length before) []) d =
    replied_here office.book o (rounds_of c.tell.result.seen.log) log
    (get_or qss (length before) []) one d next.1
    (c.tell.ensures.receipt.1 ∙ ap (λ (x : Office). x.log) inv.0) c.in_ok-finish.ensures.replies
    c.in_ok-finish.ensures.prefix c.in_ok-finish.ensures.body c.in_ok-finish.ensures.right
    c.in_ok-finish.ensures.later in
    let longer : AllReplied o.program o.graph (edits_of log)
    (take (length (before ++ one ∷ [])) qss) (all ++ d ∷ []) =
    replied_more o.program o.graph (edits_of log) qss (length before)
    (length (before ++ one ∷ [])) all d next.0 more inv.3 here in (
      c.tell.ensures.same ∙ inv.0,
      search (rules, length_push),
      search rules,
      subst (λ (l : List DeskReplies). AllReplied o.program o.graph (edits_of log)
          (take (length (before ++ one ∷ [])) qss) l) (sym c.push_reserved.ensures.items) longer,
    )

pub returns-clause-replied : goal.returns-clause-replied
returns-clause-replied g c =
    let office = c.args.publisher.now in
    let o = office.origin in
    let qss = c.args.questions.now in
    let before = c.loop-one.yielded in
    let start = c.into_iter-one-iterator.ensures.into_iter_gives in
    let end = YieldsList-end (YieldsList-from_vec {s = c.into_iter-one-iterator.result}
    c.args.asked.items start.0 (start.1 ∙ c.args.asked.ok.0)) before c.loop-one.one-iterator
    c.loop-one.yielded_by c.next.result c.next.new.self c.in-None.is c.next.ensures.steps in
    let many = as_many office.book o qss c.args.asked.items c.requires.asked in
    let whole : take (length before) qss ≡ qss =
    take_all (length before) qss (omega (arith, end.1, many)) in
    subst (λ (l : List DeskReplies). AllReplied o.program o.graph (edits_of office.log) qss l)
    (sym c.from_vec.ensures)
    (subst (λ (l : List (List Question)). AllReplied o.program o.graph (edits_of office.log) l
    c.loop-one.all.items) whole c.loop-one.invariant.3)
