use Rattle.std.proofs.Common.{arith, ◌≡◌, ◌∙◌, ℕ, ◌+◌, List, ◌∷◌, get_or, drop, ap, refl}
use Rattle.std.proofs.Common.{subst, drop-cons, add-one}
use Rattle.std.proofs.lemmas.List.{drop_all}
use Rattle.agg_words.specs.Facts.{SeatFacts}
use Rattle.sum_steps.specs.Taken.{AreLeft}
use Rattle.sum_steps.proofs.taking.take_rest.Goals as goal

pub loop-place-init : goal.loop-place-init
loop-place-init c = record { table = refl; units = refl; marks = refl; left = λ amounts h. h }

pub take_target-requires-clause-words : goal.take_target-requires-clause-words
take_target-requires-clause-words c =
    let k : ℕ = c.loop-place.place in
    c.requires.words k 0 c.loop-place-test.true

pub loop-place-preserved : goal.loop-place-preserved
loop-place-preserved c =
    let us : List ℕ = c.args.targets.now in
    let k : ℕ = c.loop-place.place in
    let inv = c.loop-place.invariant in
    let seat = c.take_target.ensures.seat in
    let next : drop k us ≡ get_or us k 0 ∷ drop (k + 1) us = rw add-one
    (drop-cons us k 0 c.loop-place-test.true) in
    record {
      table = ap (λ (s : SeatFacts). s.table) seat ∙ inv.table;
      units = ap (λ (s : SeatFacts). s.view.units) seat ∙ inv.units;
      marks = ap (λ (s : SeatFacts). s.view.marks) seat ∙ inv.marks;
      left = λ amounts h.
          (c.take_target.ensures.left amounts (drop (k + 1) us)
          (subst (λ (l : List ℕ). AreLeft c.args.program.now c.args.words.now.layout amounts l
          c.loop-place.seat.view) next (inv.left amounts h))).left;
    }

pub returns-clause-left : goal.returns-clause-left
returns-clause-left c amounts h =
    let us : List ℕ = c.args.targets.now in
    let past = c.loop-place-test.false in
    subst (λ (l : List ℕ). AreLeft c.args.program.now c.args.words.now.layout amounts l
    c.loop-place.seat.view)
    (drop_all c.loop-place.place us (omega arith)) (c.loop-place.invariant.left amounts h)
