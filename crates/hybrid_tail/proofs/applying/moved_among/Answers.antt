use Rattle.std.proofs.Common.{◌≡◌, ◌<◌, ℕ, Bool, List, [], length, get_or, filter, ap, ◌∙◌}
use Rattle.std.proofs.Common.{arith}
use Rattle.std.proofs.lemmas.List.{get_or_read, map-id, take_all}
use Rattle.run_model.specs.Rows.{Lists, at}
use Rattle.refine_rows.proofs.PickLemmas.{picked_in, picked_out}
use Rattle.hybrid_tail.proofs.MovedLemmas.{has_moved, moved_where, still_where}
use Rattle.hybrid_tail.proofs.applying.moved_among.Goals as goal
use Rattle.hybrid_tail.proofs.applying.moved_among.Goals.{then-not-same+in_ok-push, else-not-same}

pub loop-v-preserved : goal.loop-v-preserved
loop-v-preserved c =
    let last : Lists = c.args.last.now in
    let vals : Lists = c.args.vals.now in
    let test : (ℕ → Bool) = has_moved last vals in
    let xs : List ℕ = c.args.chosen.now in
    let k : ℕ = c.loop-v.v-index in
    let v : ℕ = get_or xs k 0 in
    let there : v < length vals = c.requires.below k 0 c.loop-v-test.true in
    let long = c.requires.long in
    let was : c.index-last-v.result ≡ at last v =
    get_or_read last v c.index-last-v.result (omega arith) c.index-last-v.is [] in
    let now : c.index-vals-v.result ≡ at vals v =
    get_or_read vals v c.index-vals-v.result there c.index-vals-v.is [] in
    elim c.if-not-same.branch [
      | then-not-same+in_ok-push w ↦ rw w.moved-is
          (picked_in (λ (u : ℕ). u) test xs k 0 c.loop-v-test.true c.loop-v.moved.items
          c.loop-v.invariant w.push.new.self.items
          (moved_where last vals v c.index-last-v.result c.index-vals-v.result c.same.result
          c.same.ensures was now w.if-not-same.true) w.in_ok-push.ensures.items)
      | else-not-same w ↦ rw w.moved-is
          (picked_out (λ (u : ℕ). u) test xs k 0 c.loop-v-test.true c.loop-v.moved.items
          c.loop-v.invariant
          (still_where last vals v c.index-last-v.result c.index-vals-v.result c.same.result
          c.same.ensures was now w.if-not-same.false))
    ]

pub returns : goal.returns
returns c =
    let test : (ℕ → Bool) = has_moved c.args.last.now c.args.vals.now in
    c.loop-v.invariant
    ∙ ap (filter test) (map-id _ ∙ take_all c.loop-v.v-index c.args.chosen.now
    c.loop-v-test.false)
