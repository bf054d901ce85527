use Rattle.std.proofs.Common.{◌≡◌, ◌<◌, ℕ, Bool, [], length, arith}
use Rattle.std.proofs.lemmas.List.{get_or_read}
use Rattle.run_model.specs.Rows.{Lists, at}
use Rattle.hybrid_tail.proofs.MovedLemmas.{has_moved, moved_where, range_in, range_out, still_where}
use Rattle.hybrid_tail.proofs.kept.moved_vertices.Goals as goal
use Rattle.hybrid_tail.proofs.kept.moved_vertices.Goals.{then-not-same+in_ok-push, else-not-same}

pub loop-v-preserved : goal.loop-v-preserved
loop-v-preserved c =
    let last : Lists = c.args.last.now in
    let vals : Lists = c.args.vals.now in
    let test : (ℕ → Bool) = has_moved last vals in
    let v : ℕ = c.loop-v.v in
    let there : v < length vals = let small = c.loop-v-test.true in omega arith in
    let long = c.requires.long in
    let was : c.index-last-v.result ≡ at last v =
    get_or_read last v c.index-last-v.result (omega arith) c.index-last-v.is [] in
    let now : c.index-vals-v.result ≡ at vals v =
    get_or_read vals v c.index-vals-v.result there c.index-vals-v.is [] in
    elim c.if-not-same.branch [
      | then-not-same+in_ok-push w ↦ rw w.moved-is
          (range_in test v c.loop-v.moved.items c.loop-v.invariant w.push.new.self.items
          (moved_where last vals v c.index-last-v.result c.index-vals-v.result c.same.result
          c.same.ensures was now w.if-not-same.true) w.in_ok-push.ensures.items)
      | else-not-same w ↦ rw w.moved-is
          (range_out test v c.loop-v.moved.items c.loop-v.invariant
          (still_where last vals v c.index-last-v.result c.index-vals-v.result c.same.result
          c.same.ensures was now w.if-not-same.false))
    ]
