-- The intervals of a program.
use Rattle.std.specs.Prelude.{ℕ, pos, ◌-◌, ◌*ℤ◌, List, [], map, Some, None}
use Rattle.std.specs.Int.{int_min, int_max}
use Rattle.vertex_expr.specs.Box.{Bounds, box}
use Rattle.vertex_expr.specs.Span.{Span}
use Rattle.vertex_expr.specs.Tree.{Tree}
use Rattle.vertex_expr.specs.Writable.{values_of}
use Rattle.vertex_expr.specs.declared.expr.Part.{Part}
use Rattle.vertex_expr.specs.declared.expr.Part.TheVariants.{Init, Contribute, Aggregate, Apply}
use Rattle.vertex_expr.specs.declared.program.Combine.{Combine}
use Rattle.vertex_expr.specs.declared.program.Combine.TheVariants.{Sum, Min, Max}
use Rattle.vertex_expr.specs.declared.program.LaneRange.{LaneRange}
use Rattle.vertex_expr.specs.declared.program.ProgramEntries.{ProgramEntries}

-- the declared ranges of the lanes
abbrev pub lane_spans : List LaneRange → List Span
lane_spans ranges = map (λ r. record { low = r.lo; high = r.hi }) ranges

-- what init reads: the attribute and the number of the vertex
abbrev pub init_bounds : ProgramEntries → Bounds
init_bounds p = record {
  val = [];
  agg = [];
  old = [];
  outdeg = None;
  weight = None;
  attr = record { low = p.limits.attr_lo; high = p.limits.attr_hi };
  id = record { low = pos 0; high = pos (p.limits.vertices - 1) };
}

-- what contribute reads: also the value and the out-degree of the source, at least 1 as it has this
-- edge, and the edge's weight
abbrev pub contribute_bounds : ProgramEntries → Bounds
contribute_bounds p = record {
  val = lane_spans p.ranges;
  agg = [];
  old = [];
  outdeg = Some (record { low = pos 1; high = pos p.limits.degree });
  weight = Some (record { low = p.limits.weight_lo; high = p.limits.weight_hi });
  attr = (init_bounds p).attr;
  id = (init_bounds p).id;
}

-- the intervals of the contributions
abbrev pub contributed : ProgramEntries → List Span
contributed p = map (box (values_of p.params) (contribute_bounds p)) p.contribute

-- what up to so many contributions of this interval come to
abbrev pub combined : Combine → ℕ → Span → Span
combined Sum degree s = record {
  low = int_min (pos 0) (pos degree *ℤ s.low);
  high = int_max (pos 0) (pos degree *ℤ s.high);
}
combined (Min e) degree s = record { low = int_min e s.low; high = e }
combined (Max e) degree s = record { low = e; high = int_max e s.high }

-- the intervals of the aggregates
abbrev pub aggregated : ProgramEntries → List Span
aggregated p = map (combined p.combine p.limits.degree) (contributed p)

-- what apply reads: also the aggregate, and the vertex's value at the iteration before
abbrev pub apply_bounds : ProgramEntries → Bounds
apply_bounds p = record {
  val = [];
  agg = aggregated p;
  old = lane_spans p.ranges;
  outdeg = None;
  weight = None;
  attr = (init_bounds p).attr;
  id = (init_bounds p).id;
}

-- what the expressions of a part read; the aggregate has none
abbrev pub bounds_in : ProgramEntries → Part → Bounds
bounds_in p Init = init_bounds p
bounds_in p Contribute = contribute_bounds p
bounds_in p Aggregate = init_bounds p
bounds_in p Apply = apply_bounds p

-- the expressions of a part
abbrev pub trees_in : ProgramEntries → Part → List Tree
trees_in p Init = p.init
trees_in p Contribute = p.contribute
trees_in p Aggregate = []
trees_in p Apply = p.apply

-- the intervals of a part, one for each lane
abbrev pub spans_in : ProgramEntries → Part → List Span
spans_in p Aggregate = aggregated p
spans_in p part = map (box (values_of p.params) (bounds_in p part)) (trees_in p part)
