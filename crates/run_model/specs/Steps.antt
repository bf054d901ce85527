-- What has to be done again at an iteration.
use Rattle.std.specs.Prelude.{ℕ, ℤ, ◌-◌, ◌==◌, Bool, not, ◌||◌, ◌&&◌, if◌then◌else◌, List, filter}
use Rattle.std.specs.List.{range_with_len, list_any}
use Rattle.std.specs.Ordering.{int_eq}
use Rattle.std.specs.Cmp.Lexicographic.{pointwise}
use Rattle.bolt_base.specs.Change.{removed, added}
use Rattle.bolt_base.specs.Differs as differs
pub use Rattle.bolt_base.specs.Differs.{is_new}
use Rattle.bolt_base.specs.Graph.{Graph, vertices, edges}
use Rattle.vertex_expr.specs.Mentions.{mentions_outdeg, mentions_attr}
use Rattle.vertex_expr.specs.declared.program.ProgramEntries.{ProgramEntries}
use Rattle.range_check.specs.Gathered.{empty_of}
use Rattle.run_model.specs.Rows.{Lists, at, row, agg_at}

-- an iteration seen on both sides of a change: the two graphs, and the values that each had at the
-- iteration before
pub record Step : Type 0 where
  pub old_graph : Graph
  pub new_graph : Graph
  pub old_row : Lists
  pub new_row : Lists

-- iteration i on the old and on the new graph
abbrev pub step : ProgramEntries → Graph → Graph → ℕ → Step
step p g h i = record {
  old_graph = g;
  new_graph = h;
  old_row = row p g (i - 1);
  new_row = row p h (i - 1);
}

-- past the cut: iterations i - 1 and i on one graph
abbrev pub tail_step : ProgramEntries → Graph → ℕ → Step
tail_step p h i = record {
  old_graph = h;
  new_graph = h;
  old_row = row p h (i - 2);
  new_row = row p h (i - 1);
}

-- ---- vertices
abbrev pub value_changed : Step → ℕ → Bool
value_changed s u = not (pointwise int_eq (at s.old_row u) (at s.new_row u))

abbrev pub degree_changed : Step → ℕ → Bool
degree_changed s u = differs.degree_changed s.old_graph s.new_graph u

abbrev pub attr_changed : Step → ℕ → Bool
attr_changed s u = differs.attr_changed s.old_graph s.new_graph u

-- a lane of contribute mentions the out-degree, or the attribute
abbrev pub reads_outdeg : ProgramEntries → Bool
reads_outdeg p = list_any mentions_outdeg p.contribute

abbrev pub reads_attr : ProgramEntries → Bool
reads_attr p = list_any mentions_attr p.contribute

-- a vertex that isn't new contributes otherwise than before: by its value, or by its out-degree or
-- attribute where they are read
abbrev pub is_dirty : ProgramEntries → Step → ℕ → Bool
is_dirty p s u =
    not (is_new s.old_graph u) &&
    (value_changed s u || degree_changed s u && reads_outdeg p || attr_changed s u && reads_attr p)

-- the dirty vertices, rising
abbrev pub dirty : ProgramEntries → Step → List ℕ
dirty p s = filter (is_dirty p s) (range_with_len 0 (vertices s.old_graph))

-- an end of a removed edge, of an added one, or of an edge out of a dirty vertex
abbrev pub is_target : ProgramEntries → Step → ℕ → Bool
is_target p s v =
    list_any (λ e. e.dst == v) (removed s.old_graph s.new_graph)
    || list_any (λ e. e.dst == v) (added s.old_graph s.new_graph)
    || list_any (λ e. (e.dst == v) && is_dirty p s e.src) (edges s.new_graph)

-- the targets, rising
abbrev pub targets : ProgramEntries → Step → List ℕ
targets p s = filter (is_target p s) (range_with_len 0 (vertices s.new_graph))

-- the vertex's apply is evaluated again
abbrev pub is_applied : ProgramEntries → Step → ℕ → Bool
is_applied p s v = is_new s.old_graph v || is_target p s v || value_changed s v || attr_changed s v

-- its init is evaluated again
abbrev pub is_begun : Step → ℕ → Bool
is_begun s v = is_new s.old_graph v || attr_changed s v

-- a lane of the aggregate that a vertex had: a new one had none
abbrev pub old_agg : ProgramEntries → Graph → ℕ → ℕ → ℕ → ℤ
old_agg p g i v l = if is_new g v then empty_of p.combine else agg_at p g i v l

-- ---- the tail
-- its value at the iteration before differs from that at the one before that
abbrev pub is_active : ProgramEntries → Graph → ℕ → ℕ → Bool
is_active p h i u = value_changed (tail_step p h i) u

-- the active vertices, rising
abbrev pub active : ProgramEntries → Graph → ℕ → List ℕ
active p h i = filter (is_active p h i) (range_with_len 0 (vertices h))

-- an end of an edge out of an active vertex
abbrev pub is_tail_target : ProgramEntries → Graph → ℕ → ℕ → Bool
is_tail_target p h i v = list_any (λ e. (e.dst == v) && is_active p h i e.src) (edges h)

-- the targets of the tail, rising
abbrev pub tail_targets : ProgramEntries → Graph → ℕ → List ℕ
tail_targets p h i = filter (is_tail_target p h i) (range_with_len 0 (vertices h))

abbrev pub is_tail_applied : ProgramEntries → Graph → ℕ → ℕ → Bool
is_tail_applied p h i v = is_tail_target p h i v || is_active p h i v
