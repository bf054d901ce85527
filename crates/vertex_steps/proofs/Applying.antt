-- What apply reads lies in its bounds, whatever aggregate and value in their ranges a vertex has.
use Rattle.std.proofs.Common.{ℕ, ℤ, ◌<◌, List}
use Rattle.bolt_base.specs.Graph.{Graph, IsGood, vertices}
use Rattle.vertex_expr.specs.Box.{InBounds}
use Rattle.vertex_expr.specs.ProgramBounds.{aggregated, apply_bounds, lane_spans}
use Rattle.vertex_expr.specs.Span.{AreIn}
use Rattle.vertex_expr.specs.declared.program.ProgramEntries.{ProgramEntries}
use Rattle.range_check.specs.Breaks.{IsAccepted}
use Rattle.run_model.specs.Rows.{apply_env}
use Rattle.run_model.proofs.InRange.{init_in}

pub apply_inside : (p : ProgramEntries) (g : Graph) → IsAccepted p → IsGood p.limits g
    → (agg before : List ℤ) → AreIn (aggregated p) agg → AreIn (lane_spans p.ranges) before
    → (v : ℕ) → v < vertices g → InBounds (apply_bounds p) (apply_env p g agg before v)
apply_inside p g safe good agg before agg_in before_in v there =
    let first = init_in p g safe good v there in
    record {
      val = first.val;
      agg = agg_in;
      old = before_in;
      outdeg = tt;
      weight = tt;
      attr = first.attr;
      id = first.id;
    }
