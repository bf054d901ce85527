-- What the edges of a graph give in an iteration, by source where weights don't matter.
use Rattle.std.specs.Prelude.{◌≡◌, ℕ, ℤ, ◌<◌, ◌≤◌, ◌==◌, false, if◌then◌else◌, List, length}
use Rattle.bolt_base.specs.Graph.{Graph, IsBetween, IsGood, vertices, outdeg}
use Rattle.bolt_base.specs.declared.edge.Edge.{Edge}
use Rattle.vertex_expr.specs.Mentions.{mentions_weight}
use Rattle.vertex_expr.specs.ProgramBounds.{lane_spans}
use Rattle.vertex_expr.specs.Span.{AreIn}
use Rattle.vertex_expr.specs.declared.program.ProgramEntries.{ProgramEntries}
use Rattle.range_check.specs.Breaks.{IsAccepted}
use Rattle.range_check.specs.Laws.{tree_at}
use Rattle.run_model.specs.Program.{lanes, by_lane, zeros}
use Rattle.run_model.specs.Rows.{Lists, at, each_vertex, contribution}
use Rattle.run_model.specs.declared.given.Contributions.{Contributions}
use Rattle.run_model.specs.declared.given.Contributions.TheVariants.{BySource, ByEdge}

-- a row of values from which the next one can be computed: the program is accepted, the graph is
-- good, and each vertex has a value in its ranges
pub record IsBefore (p : ProgramEntries) (g : Graph) (vals : Lists) : Type 0 where
  pub safe : IsAccepted p
  pub good : IsGood p.limits g
  pub long : length vals ≡ vertices g
  pub ranged : (v : ℕ) → v < vertices g → AreIn (lane_spans p.ranges) (at vals v)

-- the edge starts at a vertex that has edges, and its weight is within the limits
pub record IsEdge (p : ProgramEntries) (g : Graph) (e : Edge) : Type 0 where
  pub source : e.src < vertices g
  pub weight : IsBetween p.limits.weight_lo p.limits.weight_hi e.weight
  pub some : 1 ≤ outdeg g e.src

-- what an edge gives, lane by lane
abbrev pub edge_gives : ProgramEntries → Graph → Lists → Edge → List ℤ
edge_gives p g vals e = by_lane p (λ l. contribution p g vals l e)

-- no lane of the contribution mentions the weight
abbrev pub IsWeightless : ProgramEntries → Type 0
IsWeightless p = (l : ℕ) → l < lanes p → mentions_weight (tree_at p.contribute l) ≡ false

-- an edge out of a vertex, of the least weight
abbrev pub edge_of : ProgramEntries → ℕ → Edge
edge_of p u = record { src = u; dst = 0; weight = p.limits.weight_lo }

-- what each edge out of a vertex gives, where weights don't matter; zeros where there is none
abbrev pub source_gives : ProgramEntries → Graph → Lists → ℕ → List ℤ
source_gives p g vals u =
    if outdeg g u == 0 then zeros p else edge_gives p g vals (edge_of p u)

-- these are the contributions after a row of values
abbrev pub AreGiven : ProgramEntries → Graph → Lists → Contributions → Type 0
AreGiven p g vals (BySource given) =
    IsWeightless p × (given.items ≡ each_vertex g (source_gives p g vals))
AreGiven p g vals ByEdge = Unit {0}
