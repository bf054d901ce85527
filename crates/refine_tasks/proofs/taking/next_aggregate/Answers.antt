use Rattle.std.proofs.Common.{ℕ, ◌+◌, List, drop, ap, ◌∙◌, subst}
use Rattle.bolt_base.specs.Residue.{Amount}
use Rattle.agg_words.specs.Facts.{SeatFacts}
use Rattle.run_model.specs.Additions.{adds_of, items}
use Rattle.sum_steps.specs.Taken.{AreLeft}
use Rattle.sum_steps.proofs.Spreading.{taken_sums}
use Rattle.refine_tasks.proofs.TakingLemmas.{ahead_next, next_is_target, one_taken}
use Rattle.refine_tasks.proofs.taking.next_aggregate.Goals as goal

pub returns-then-targets-next-clause-taken : goal.returns-then-targets-next-clause-taken
returns-then-targets-next-clause-taken c s start vs before once =
    let p = c.args.program.now in
    let k = c.args.words.now.layout in
    let us : List ℕ = c.args.targets.now in
    let next : ℕ = c.args.next.now in
    let first = c.args.seat.now.view in
    let there = c.if-next-targets.true in
    let is = c.if-targets-next.true in
    let adds : List Amount = adds_of p s (items p s) in
    let ahead = ahead_next p s k us start next c.args.v vs first before once there is in
    let taken = c.take_target.ensures.left adds (drop (next + 1) us)
    (subst (λ (l : List ℕ). AreLeft p k adds l first) ahead before.left) in
    one_taken p s k us start next c.args.v vs first before once there is
    c.take_target.new.seat.view taken.left taken.grown
    (ap (λ (x : SeatFacts). x.view.marks) c.take_target.ensures.seat)

pub returns-then-targets-next-clause-agg : goal.returns-then-targets-next-clause-agg
returns-then-targets-next-clause-agg c s start vs before once =
    let p = c.args.program.now in
    let k = c.args.words.now.layout in
    let us : List ℕ = c.args.targets.now in
    let next : ℕ = c.args.next.now in
    let first = c.args.seat.now.view in
    let there = c.if-next-targets.true in
    let is = c.if-targets-next.true in
    let adds : List Amount = adds_of p s (items p s) in
    let ahead = ahead_next p s k us start next c.args.v vs first before once there is in
    let taken = c.take_target.ensures.left adds (drop (next + 1) us)
    (subst (λ (l : List ℕ). AreLeft p k adds l first) ahead before.left) in
    taken.sum
    ∙ taken_sums p s c.requires.sum c.args.old.now c.args.v
    (next_is_target p s k us start next c.args.v vs first before once there is)
