-- What the sources of an iteration have on both sides of a change.
use Rattle.std.specs.Prelude.{◌≡◌, ◌≢◌, ℕ, ◌<◌, if◌then◌else◌, List, length, slice_index_or}
use Rattle.std.specs.List.{HoldsAt}
use Rattle.std.specs.List.Sorted.{IsNonDecreasingBy}
use Rattle.bolt_base.specs.Change.{attr_at}
use Rattle.bolt_base.specs.Differs.{is_new}
use Rattle.bolt_base.specs.Graph.{outdeg}
use Rattle.vertex_expr.specs.declared.program.ProgramEntries.{ProgramEntries}
use Rattle.run_model.specs.Rows.{at}
use Rattle.run_model.specs.Steps.{Step, is_dirty}
use Rattle.edge_map.specs.declared.tasks.Source.{Source}
use Rattle.edge_map.specs.declared.tasks.TaskEdge.{TaskEdge}

-- a vertex before and after; a new one has its new value and attribute on both sides
abbrev pub side_of : ProgramEntries → Step → ℕ → Source
side_of p s u = record {
  vertex = u;
  old = if is_new s.old_graph u then at s.new_row u else at s.old_row u;
  new = at s.new_row u;
  old_degree = outdeg s.old_graph u;
  new_degree = outdeg s.new_graph u;
  old_attr = if is_new s.old_graph u then attr_at s.new_graph u else attr_at s.old_graph u;
  new_attr = attr_at s.new_graph u;
  dirty = is_dirty p s u;
}

-- the source of an edge stands at its place among these vertices
pub record IsPlacedIn (us : List ℕ) (x : TaskEdge) : Type 0 where
  pub place : x.source < length us
  pub source : slice_index_or us x.source 0 ≡ x.edge.src

-- ---- look-ups
-- the item at a place has this key
pub record HasKey {X : Type 0} (key : X → ℕ) (xs : List X) (u k : ℕ) : Type 0 where
  pub place : k < length xs
  pub is : HoldsAt (λ x. key x ≡ u) xs k

-- where the keys rise, no item has this key
abbrev pub LacksKey : {X : Type 0} → (X → ℕ) → List X → ℕ → Type 0
LacksKey key xs u = IsNonDecreasingBy key xs → (k : ℕ) → k < length xs
    → HoldsAt (λ x. key x ≢ u) xs k
