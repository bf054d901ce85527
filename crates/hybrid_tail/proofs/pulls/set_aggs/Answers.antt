use Rattle.std.proofs.Common.{◌≡◌, ◌<◌, ℕ, ℤ, List, [], length, get_or, set, sym, ap, ◌∙◌, arith}
use Rattle.std.proofs.lemmas.List.{get_or-map, get_or_read, take_all}
use Rattle.hybrid_tail.specs.Setting.{with_each}
use Rattle.hybrid_tail.proofs.SetLemmas.{each_more}
use Rattle.hybrid_tail.proofs.pulls.set_aggs.Goals as goal

pub loop-place-preserved : goal.loop-place-preserved
loop-place-preserved c f is =
    let us : List ℕ = c.args.chosen.now in
    let k : ℕ = c.loop-place.place in
    let small : k < length us = c.loop-place-test.true in
    let long = c.requires.long in
    let read : c.index-new-place.result ≡ f (get_or us k 0) =
    get_or_read c.args.new.now k c.index-new-place.result (omega arith) c.index-new-place.is []
    ∙ ap (λ (xs : List (List ℤ)). get_or xs k []) is ∙ get_or-map f us k 0 [] small in
    (λ j. set (c.loop-place.invariant f is j) (get_or us k 0) (read j))
    ∙ sym (each_more f us k c.args.aggs.now small)

pub returns : goal.returns
returns c f is =
    c.loop-place.invariant f is
    ∙ ap (λ (l : List ℕ). with_each f l c.args.aggs.now)
    (take_all c.loop-place.place c.args.chosen.now c.loop-place-test.false)
