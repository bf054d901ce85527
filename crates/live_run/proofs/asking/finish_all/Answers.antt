use Rattle.std.proofs.Common.{rules, arith, ◌≡◌, ◌+◌, ◌<◌, ◌≤◌, ◌∙◌, ◌∷◌, ◌++◌, [], ℕ, List, take}
use Rattle.std.proofs.Common.{length, length-append, get_or, sym, ap, subst}
use Rattle.std.proofs.lemmas.Iterator.Adapters.{YieldsList-from_vec}
use Rattle.std.proofs.lemmas.Iterator.Consumers.{YieldsList-end, YieldsList-turn}
use Rattle.std.proofs.lemmas.List.{take_all}
use Rattle.live_text.specs.declared.question.Question.{Question}
use Rattle.live_desks.specs.Asked.{AllAsked, IsAsked}
use Rattle.live_desks.specs.declared.asking.Asked.{Asked}
use Rattle.live_run.specs.Turns.{IsTurn}
use Rattle.live_run.proofs.Turning.{asked_more, next_turn, turn_at, turns_length}
use Rattle.live_run.proofs.asking.finish_all.Goals as goal

pub bounds-questions-file : goal.bounds-questions-file
bounds-questions-file g c =
    let same : c.len-file.result ≡ length c.loop-turn.yielded = search rules in
    let start = c.into_iter-turn-iterator.ensures.into_iter_gives in
    let at = YieldsList-turn (YieldsList-from_vec {s = c.into_iter-turn-iterator.result}
    c.args.turns.items start.0 (start.1 ∙ c.args.turns.ok.0)) c.loop-turn.yielded
    c.loop-turn.turn-iterator c.loop-turn.yielded_by c.next.result c.next.new.self
    c.in-Some.turn c.in-Some.is c.next.ensures.steps in
    let long = turns_length c.requires.turns.0 c.requires.turns.1 c.args.questions.now
    c.args.turns.items c.requires.turns.2 in
    let lt = at.0 in
    omega (arith, long, lt, same)

pub overflow_cast-file : goal.overflow_cast-file
overflow_cast-file g c =
    let same : c.len-file.result ≡ length c.loop-turn.yielded = search rules in
    let start = c.into_iter-turn-iterator.ensures.into_iter_gives in
    let at = YieldsList-turn (YieldsList-from_vec {s = c.into_iter-turn-iterator.result}
    c.args.turns.items start.0 (start.1 ∙ c.args.turns.ok.0)) c.loop-turn.yielded
    c.loop-turn.turn-iterator c.loop-turn.yielded_by c.next.result c.next.new.self
    c.in-Some.turn c.in-Some.is c.next.ensures.steps in
    let long = turns_length c.requires.turns.0 c.requires.turns.1 c.args.questions.now
    c.args.turns.items c.requires.turns.2 in
    let lt = at.0 in
    let few = c.requires.few in
    let low : c.len-file.result ≤ 16 = omega (arith, long, lt, same, few) in
    search rules

pub finish-one-requires-clause-file : goal.finish-one-requires-clause-file
finish-one-requires-clause-file g c =
    let same : c.len-file.result ≡ length c.loop-turn.yielded = search rules in
    let start = c.into_iter-turn-iterator.ensures.into_iter_gives in
    let at = YieldsList-turn (YieldsList-from_vec {s = c.into_iter-turn-iterator.result}
    c.args.turns.items start.0 (start.1 ∙ c.args.turns.ok.0)) c.loop-turn.yielded
    c.loop-turn.turn-iterator c.loop-turn.yielded_by c.next.result c.next.new.self
    c.in-Some.turn c.in-Some.is c.next.ensures.steps in
    let long = turns_length c.requires.turns.0 c.requires.turns.1 c.args.questions.now
    c.args.turns.items c.requires.turns.2 in
    let lt = at.0 in
    let few = c.requires.few in
    omega (arith, long, lt, same, few)

pub finish-one-requires-clause-turn : goal.finish-one-requires-clause-turn
finish-one-requires-clause-turn g c =
    let same : c.len-file.result ≡ length c.loop-turn.yielded = search rules in
    let start = c.into_iter-turn-iterator.ensures.into_iter_gives in
    let at = YieldsList-turn (YieldsList-from_vec {s = c.into_iter-turn-iterator.result}
    c.args.turns.items start.0 (start.1 ∙ c.args.turns.ok.0)) c.loop-turn.yielded
    c.loop-turn.turn-iterator c.loop-turn.yielded_by c.next.result c.next.new.self
    c.in-Some.turn c.in-Some.is c.next.ensures.steps in
    (next_turn c.args.questions.now c.args.turns.items (length c.loop-turn.yielded)
    c.len-file.result c.in-Some.turn c.index-questions-file.result c.requires.turns at same
    c.index-questions-file.is).1

pub push_reserved-requires : goal.push_reserved-requires
push_reserved-requires g c =
    let inv = c.loop-turn.invariant in
    let start = c.into_iter-turn-iterator.ensures.into_iter_gives in
    let at = YieldsList-turn (YieldsList-from_vec {s = c.into_iter-turn-iterator.result}
    c.args.turns.items start.0 (start.1 ∙ c.args.turns.ok.0)) c.loop-turn.yielded
    c.loop-turn.turn-iterator c.loop-turn.yielded_by c.next.result c.next.new.self
    c.in-Some.turn c.in-Some.is c.next.ensures.steps in
    let long = turns_length c.requires.turns.0 c.requires.turns.1 c.args.questions.now
    c.args.turns.items c.requires.turns.2 in
    let lt = at.0 in
    let many = inv.0 in
    let room = inv.1 in
    omega (arith, long, lt, many, room)

pub loop-turn-preserved : goal.loop-turn-preserved
loop-turn-preserved g c =
    let inv = c.loop-turn.invariant in
    let same : c.len-file.result ≡ length c.loop-turn.yielded = search rules in
    let start = c.into_iter-turn-iterator.ensures.into_iter_gives in
    let at = YieldsList-turn (YieldsList-from_vec {s = c.into_iter-turn-iterator.result}
    c.args.turns.items start.0 (start.1 ∙ c.args.turns.ok.0)) c.loop-turn.yielded
    c.loop-turn.turn-iterator c.loop-turn.yielded_by c.next.result c.next.new.self
    c.in-Some.turn c.in-Some.is c.next.ensures.steps in
    let long = turns_length c.requires.turns.0 c.requires.turns.1 c.args.questions.now
    c.args.turns.items c.requires.turns.2 in
    let lt = at.0 in
    let qss = c.args.questions.now in
    let n = length c.loop-turn.yielded in
    let qs = c.index-questions-file.result in
    let low : n < length qss = omega (arith, long, lt) in
    let is : get_or qss n qs ≡ qs =
    ap (λ (k : ℕ). get_or qss k qs) (sym same) ∙ sym c.index-questions-file.is in
    let more = length-append c.loop-turn.yielded (c.in-Some.turn ∷ []) in (
      search rules,
      search rules,
      λ b o all.
          let mine : IsTurn b o qs c.in-Some.turn =
          subst (λ (x : List Question). IsTurn b o x c.in-Some.turn) is
          (turn_at b o qss c.args.turns.items n qs c.in-Some.turn all at.0 at.1) in
          let one : IsAsked b o (get_or qss n qs) c.finish-one.result =
          subst (λ (x : List Question). IsAsked b o x c.finish-one.result) (sym is)
          (c.finish-one.ensures b o mine) in
          subst (λ (xs : List Asked). AllAsked b o
          (take (length (c.loop-turn.yielded ++ c.in-Some.turn ∷ [])) qss) xs)
          (sym c.push_reserved.ensures.items)
          (subst (λ (k : ℕ). AllAsked b o (take k qss)
          (c.loop-turn.asked.items ++ c.finish-one.result ∷ [])) (sym more)
          (asked_more b o qss n c.loop-turn.asked.items qs c.finish-one.result low
          (inv.2 b o all) one)),
    )

pub returns : goal.returns
returns g c =
    let inv = c.loop-turn.invariant in
    let start = c.into_iter-turn-iterator.ensures.into_iter_gives in
    let end = YieldsList-end (YieldsList-from_vec {s = c.into_iter-turn-iterator.result}
    c.args.turns.items start.0 (start.1 ∙ c.args.turns.ok.0)) c.loop-turn.yielded
    c.loop-turn.turn-iterator c.loop-turn.yielded_by c.next.result c.next.new.self
    c.in-None.is c.next.ensures.steps in
    let qss = c.args.questions.now in
    λ b o all.
    let long = turns_length b o qss c.args.turns.items all in
    let same = end.1 in
    let most : length qss ≤ length c.loop-turn.yielded = omega (arith, long, same) in
    subst (λ (l : List (List Question)). AllAsked b o l c.loop-turn.asked.items)
    (take_all (length c.loop-turn.yielded) qss most) (inv.2 b o all)
