use Rattle.std.proofs.Common.{rules, ◌<◌, ◌+◌, ℕ, ℤ, FitsSigned, w64, sym}
use Rattle.std.proofs.Common.{◌∙◌, subst}
use Rattle.std.proofs.lemmas.Int.{to_z-of_z}
use Rattle.run_model.specs.Program.{number}
use Rattle.run_model.proofs.ByLane.{IsSoFar, one_more}
use Rattle.agg_history.specs.Pruned.{rows_of}
use Rattle.agg_history.specs.Puts.{laid_at}
use Rattle.refine_rows.proofs.ReadLemmas.{at_row, below_row, copied_list}
use Rattle.refine_rows.proofs.row_values.LaidRowValueRow.value.Goals as goal

pub val-requires-clause-vertex : goal.val-requires-clause-vertex
val-requires-clause-vertex c =
    let s = c.args.self.now in
    below_row (λ (u : ℕ). (laid_at s.overlay.now.puts (rows_of s.history.now) s.iteration u).1)
    s.overlay.now.vertices c.args.v c.requires.vertex

pub val-requires-clause-new : goal.val-requires-clause-new
val-requires-clause-new c =
    let s = c.args.self.now in
    let there = below_row (λ (u : ℕ).
    (laid_at s.overlay.now.puts (rows_of s.history.now) s.iteration u).1)
    s.overlay.now.vertices c.args.v c.requires.vertex in
    λ past. s.fits.new c.args.v past there

pub loop-lane-preserved : goal.loop-lane-preserved
loop-lane-preserved c =
    let s = c.args.self.now in
    let f : ℕ → ℤ = number (laid_at s.overlay.now.puts (rows_of s.history.now) s.iteration
    c.args.v).1 in
    let small : c.loop-lane.lane < s.lanes = c.loop-lane-test.true in
    let fits : FitsSigned w64 c.val.result = search rules in
    subst (IsSoFar f s.lanes (c.loop-lane.lane + 1)) (sym c.set.ensures)
    (one_more f s.lanes c.loop-lane.lane c.loop-lane.value _ c.loop-lane.invariant small
    (to_z-of_z w64 c.val.result fits ∙ c.val.ensures))

pub returns : goal.returns
returns c =
    let s = c.args.self.now in
    let there = below_row (λ (u : ℕ).
    (laid_at s.overlay.now.puts (rows_of s.history.now) s.iteration u).1)
    s.overlay.now.vertices c.args.v c.requires.vertex in
    record {
      value = copied_list s.lanes c.loop-lane.lane c.loop-lane.value
          (laid_at s.overlay.now.puts (rows_of s.history.now) s.iteration c.args.v).1
          (s.fits.each c.args.v there) c.loop-lane.invariant c.loop-lane-test.false
          ∙ sym (at_row (λ (u : ℕ). (laid_at s.overlay.now.puts (rows_of s.history.now) s.iteration
          u).1) s.overlay.now.vertices c.args.v c.requires.vertex);
    }
