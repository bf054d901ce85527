use Rattle.std.proofs.Common.{ap, sym, ◌∙◌, ◌≡◌, ◌<◌, ℕ, length, Some, None, Option, set, cond}
use Rattle.std.proofs.Common.{Bool, true, false, refl}
use Rattle.std.specs.Ordering.{nat_cmp}
use Rattle.std.specs.BTreeMap.{get, is_at}
use Rattle.std.proofs.lemmas.List.Elements.{All-push, All-nil}
use Rattle.swaps.specs.Swaps.{put_all}
use Rattle.swaps.proofs.SwapLemmas.{put_all-append}
use Rattle.adjacency.specs.Row.{RowMap}
use Rattle.adjacency.specs.Rows.{row_at, full_of}
use Rattle.adjacency.specs.Patched.{patched}
use Rattle.adjacency.specs.DraftedBy.{drafted_by}
use Rattle.adjacency.specs.declared.row_change.RowChange.{RowChange}
use Rattle.adjacency.proofs.DraftLemmas.{row_full}
use Rattle.adjacency.proofs.fresh.renewed_rows.Goals as goal

other_stays : (b : Bool) (o : Option RowChange) (c : RowChange) → cond b None o ≡ Some c → o
    ≡ Some c
other_stays true o c e = cc
other_stays false o c e = e

pub loop-at-init : goal.loop-at-init
loop-at-init g c = record {
  all = λ extra. rw c.new-fresh.ensures refl;
  inside = λ extra _. rw c.new-fresh.ensures
      (All-nil (λ (a : ℕ × RowMap). a.0 < length (full_of c.args.base.now extra)));
  left = λ u d e. e;
}

pub loop-at-preserved : goal.loop-at-preserved
loop-at-preserved g c = record {
  all = λ extra.
      let full = full_of c.args.base.now extra in
      let row : g.R.Arcs.arcs c.in_ok-row.row
      ≡ patched (row_at full c.in-Some.at) c.in-Some.change.patch =
      c.in_ok-row.ensures ∙ ap (λ r. patched r c.in-Some.change.patch)
      (sym (row_full c.args.base.now extra c.in-Some.at)) in
      let put : put_all c.push.new.self full
      ≡ set (put_all c.loop-at.fresh full) c.in-Some.at
      (patched (row_at full c.in-Some.at) c.in-Some.change.patch) =
      ap (λ xs. put_all xs full) c.in_ok-push.ensures
      ∙ put_all-append c.loop-at.fresh (c.in-Some.at, g.R.Arcs.arcs c.in_ok-row.row) full
      ∙ ap (set (put_all c.loop-at.fresh full) c.in-Some.at) row in
      ap (λ now. drafted_by full now c.pop_first.new.self.entries) put
      ∙ ap (drafted_by full (put_all c.loop-at.fresh full)) (sym c.in-Some.ensures.removal)
      ∙ c.loop-at.invariant.all extra;
  inside = λ extra draft.
      let full = full_of c.args.base.now extra in
      rw c.in_ok-push.ensures (All-push (λ (a : ℕ × RowMap). a.0 < length full) c.loop-at.fresh
      (c.in-Some.at, g.R.Arcs.arcs c.in_ok-row.row) (c.loop-at.invariant.inside extra draft)
      (draft.inside c.in-Some.at c.in-Some.change
      (c.loop-at.invariant.left c.in-Some.at c.in-Some.change c.in-Some.ensures.value)));
  left = λ u d e. c.loop-at.invariant.left u d
      (other_stays (is_at (nat_cmp c.in-Some.at) u) (get nat_cmp c.loop-at.changes u) d
      (sym (c.in-Some.ensures.updates.0 u) ∙ e));
}
