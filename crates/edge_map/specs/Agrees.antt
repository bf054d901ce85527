-- Tasks that agree with a graph.
use Rattle.std.specs.Prelude.{◌≡◌, ◌≢◌, ℕ, ◌<◌, ◌≤◌, true, T, List, map, length, All, Some}
use Rattle.std.specs.FinMap as finite
use Rattle.std.specs.FinMap.{is_sorted}
use Rattle.std.specs.Ordering.{nat_cmp}
use Rattle.bolt_base.specs.Change.{attr_at}
use Rattle.bolt_base.specs.Graph.{Graph, IsBetween, pair_cmp, vertices, outdeg}
use Rattle.bolt_base.specs.Plain.{entry}
use Rattle.bolt_base.specs.declared.edge.Edge.{Edge}
use Rattle.vertex_expr.specs.ProgramBounds.{lane_spans}
use Rattle.vertex_expr.specs.Span.{AreIn}
use Rattle.vertex_expr.specs.declared.program.ProgramEntries.{ProgramEntries}
use Rattle.edge_map.specs.Additions.{source_at, stayed_out}
use Rattle.edge_map.specs.declared.tasks.Source.{Source}
use Rattle.edge_map.specs.declared.tasks.TaskEdge.{TaskEdge}
use Rattle.edge_map.specs.declared.tasks.Tasks.{Tasks}

-- sources rise by vertex
abbrev pub SourcesRise : List Source → Type 0
SourcesRise xs = T (is_sorted nat_cmp (map (λ x. (x.vertex, x)) xs))

-- edges rise by source and then by destination
abbrev pub EdgesRise : List TaskEdge → Type 0
EdgesRise xs = T (is_sorted pair_cmp (map (λ x. entry x.edge) xs))

-- the graph has the edge, with its weight
abbrev pub HasEdge : Graph → Edge → Type 0
HasEdge g e = finite.get g.weights (e.src, e.dst) ≡ Some e.weight

-- it has no edge with these ends, or one of another weight
abbrev pub LacksEdge : Graph → Edge → Type 0
LacksEdge g e = finite.get g.weights (e.src, e.dst) ≢ Some e.weight

-- a source is a vertex with its number of out-edges and its attribute, and its numbers are in range
pub record IsSource (p : ProgramEntries) (g : Graph) (x : Source) : Type 0 where
  pub there : x.vertex < vertices g
  pub degree : x.new_degree ≡ outdeg g x.vertex
  pub attr : x.new_attr ≡ attr_at g x.vertex
  pub few : x.old_degree ≤ p.limits.degree
  pub old : AreIn (lane_spans p.ranges) x.old
  pub new : AreIn (lane_spans p.ranges) x.new
  pub old_attr : IsBetween p.limits.attr_lo p.limits.attr_hi x.old_attr
  pub new_attr : IsBetween p.limits.attr_lo p.limits.attr_hi x.new_attr

-- the source of an edge stands in its place
pub record IsPlaced (t : Tasks) (x : TaskEdge) : Type 0 where
  pub place : x.source < length t.sources
  pub source : (source_at t x.source).vertex ≡ x.edge.src

-- and its other end is a vertex, and its weight is in range
pub record IsTask (p : ProgramEntries) (g : Graph) (t : Tasks) (x : TaskEdge) : Type 0 where
  pub placed : IsPlaced t x
  pub there : x.edge.dst < vertices g
  pub weight : IsBetween p.limits.weight_lo p.limits.weight_hi x.edge.weight

-- sources and edges rise, the added edges are edges of the graph and the removed ones aren't, and a
-- source with a removed edge, or a dirty one with an edge that stayed, had an edge
pub record AgreesWith (p : ProgramEntries) (g : Graph) (t : Tasks) : Type 0 where
  pub sources_rise : SourcesRise t.sources
  pub removed_rise : EdgesRise t.removed
  pub added_rise : EdgesRise t.added
  pub sources : All (IsSource p g) t.sources
  pub removed : All (IsTask p g t) t.removed
  pub added : All (IsTask p g t) t.added
  pub gone : All (λ x. LacksEdge g x.edge) t.removed
  pub come : All (λ x. HasEdge g x.edge) t.added
  pub had : All (λ x. 1 ≤ (source_at t x.source).old_degree) t.removed
  pub stayed : (k : ℕ) → k < length t.sources → (source_at t k).dirty ≡ true
      → 0 < length (stayed_out g t k) → 1 ≤ (source_at t k).old_degree
