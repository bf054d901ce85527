use Rattle.std.proofs.Common.{ℕ, ℤ, pos, length, get_or, set, sym, ap, ◌∙◌, arith, rules}
use Rattle.std.proofs.Common.{FitsSigned, w64}
use Rattle.std.proofs.lemmas.Int.{to_z-of_z}
use Rattle.std.proofs.lemmas.List.{ext_get_or, length-set, length-replicate}
use Rattle.std.proofs.lemmas.List.Edits.{fill_by_more}
use Rattle.bolt_base.specs.RowTable.{entry_at}
use Rattle.agg_history.proofs.history.make.agg_of.Goals as goal

pub loop-lane-init : goal.loop-lane-init
loop-lane-init c = record {
  width = ap length c.zeros-agg.ensures ∙ length-replicate c.lanes-lanes.result (pos 0)
      ∙ c.lanes-lanes.ensures.lanes;
  below = λ k h. absurd (omega arith);
}

pub loop-lane-preserved : goal.loop-lane-preserved
loop-lane-preserved c =
    let fits : FitsSigned w64 c.agg.result = search rules in
    let f : ℕ → ℤ = λ k. get_or (entry_at c.args.rows.now.rows c.args.i c.args.v).0 k (pos 0) in
    let new = c.set.ensures
    ∙ ap (set c.loop-lane.agg c.loop-lane.lane)
    (to_z-of_z w64 c.agg.result fits ∙ c.agg.ensures) in
    record {
      width = ap length new ∙ length-set c.loop-lane.agg c.loop-lane.lane (f c.loop-lane.lane)
          ∙ c.loop-lane.invariant.width;
      below = λ k h. ap (λ xs. get_or xs k (pos 0)) new
          ∙ fill_by_more f c.loop-lane.agg c.loop-lane.lane (pos 0)
          (omega (arith, c.loop-lane.invariant.width, c.lanes-lanes.ensures.lanes))
          c.loop-lane.invariant.below k h;
    }

pub returns : goal.returns
returns c = ext_get_or (pos 0) c.loop-lane.agg (entry_at c.args.rows.now.rows c.args.i c.args.v).0
    (c.loop-lane.invariant.width ∙ sym c.requires.wide)
    (λ k h. c.loop-lane.invariant.below k
    (omega (arith, c.loop-lane.invariant.width, c.lanes-lanes.ensures.lanes, c.requires.wide)))
