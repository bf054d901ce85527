-- What tasks add to the words of the aggregates.
use Rattle.std.specs.Prelude.{ℕ, ℤ, pos, neg_ℤ, ◌-ℤ◌, ◌==◌, ◌&&◌, not, Bool, false, List, [], ◌∷◌}
use Rattle.std.specs.Prelude.{◌++◌, map, filter, length, slice_index_or, sum_by}
use Rattle.std.specs.List.{flat_map, list_any, range_with_len}
use Rattle.bolt_base.specs.Graph.{Graph, out_edges}
use Rattle.bolt_base.specs.Residue.{Amount}
use Rattle.bolt_base.specs.declared.edge.Edge.{Edge}
use Rattle.vertex_expr.specs.Meaning.{ev}
use Rattle.vertex_expr.specs.declared.env.Env.{Env}
use Rattle.vertex_expr.specs.declared.program.ProgramEntries.{ProgramEntries}
use Rattle.range_check.specs.Laws.{tree_at}
use Rattle.run_model.specs.Additions.{Gift, amounts_of}
use Rattle.run_model.specs.Program.{params, zeros}
use Rattle.edge_map.specs.declared.tasks.Source.{Source}
use Rattle.edge_map.specs.declared.tasks.TaskEdge.{TaskEdge}
use Rattle.edge_map.specs.declared.tasks.Tasks.{Tasks}
use Rattle.edge_map.specs.declared.tasks.Work.{Work}
use Rattle.edge_map.specs.declared.tasks.Work.TheVariants.{Removed, Added, Dirty}

-- ---- sources
abbrev pub no_source : Source
no_source = record {
  vertex = 0;
  old = [];
  new = [];
  old_degree = 0;
  new_degree = 0;
  old_attr = pos
      0;
  new_attr = pos 0;
  dirty = false;
}

-- the source at a place
abbrev pub source_at : Tasks → ℕ → Source
source_at t k = slice_index_or t.sources k no_source

-- what contribute reads of a vertex with this value, out-degree and attribute, for an edge of this
-- weight
abbrev pub source_env : ProgramEntries → List ℤ → ℕ → ℤ → ℤ → ℕ → Env
source_env p val degree w attr u = record
    { val = val; agg = zeros p; old = zeros p; outdeg = degree; weight = w; attr = attr; id = u }

-- and of a source, before and after
abbrev pub was_env : ProgramEntries → Source → ℤ → Env
was_env p x w = source_env p x.old x.old_degree w x.old_attr x.vertex

abbrev pub now_env : ProgramEntries → Source → ℤ → Env
now_env p x w = source_env p x.new x.new_degree w x.new_attr x.vertex

-- the contribution to a lane in an environment
abbrev pub given : ProgramEntries → Env → ℕ → ℤ
given p n l = ev (params p) n (tree_at p.contribute l)

-- ---- items
-- the removed edges, the added ones, and the places of the dirty sources, rising
abbrev pub dirty_places : Tasks → List ℕ
dirty_places t = filter (λ k. (source_at t k).dirty) (range_with_len 0 (length t.sources))

abbrev pub works : Tasks → List Work
works t = map Removed t.removed ++ map Added t.added ++ map Dirty (dirty_places t)

-- an added edge has the ends of this edge
abbrev pub is_added : Tasks → Edge → Bool
is_added t e = list_any (λ x. (x.edge.src == e.src) && (x.edge.dst == e.dst)) t.added

-- the edges out of a source that stayed: all but the added ones
abbrev pub stayed_out : Graph → Tasks → ℕ → List Edge
stayed_out g t k = filter (λ e. not (is_added t e)) (out_edges g (source_at t k).vertex)

-- ---- what an item gives
abbrev pub removed_gift : ProgramEntries → Tasks → TaskEdge → Gift
removed_gift p t x = record {
  dst = x.edge.dst;
  amount = λ l. neg_ℤ
      (given p (was_env p (source_at t x.source) x.edge.weight) l);
}

abbrev pub added_gift : ProgramEntries → Tasks → TaskEdge → Gift
added_gift p t x = record {
  dst = x.edge.dst;
  amount = λ l. given p
      (now_env p (source_at t x.source) x.edge.weight) l;
}

abbrev pub change_gift : ProgramEntries → Source → Edge → Gift
change_gift p x e = record {
  dst = e.dst;
  amount = λ l. given p (now_env p x e.weight) l -ℤ given p
      (was_env p x e.weight) l;
}

-- minus the old contribution of a removed edge, the new one of an added edge, and for each edge out
-- of a dirty source that
-- stayed, by destination, the new one less the old one
abbrev pub gifts : ProgramEntries → Graph → Tasks → Work → List Gift
gifts p g t (Removed x) = removed_gift p t x ∷ []
gifts p g t (Added x) = added_gift p t x ∷ []
gifts p g t (Dirty k) = map (change_gift p (source_at t k)) (stayed_out g t k)

-- the amounts of some gifts, lane by lane, and the vertices that they go to
abbrev pub adds_of_gifts : ProgramEntries → List Gift → List Amount
adds_of_gifts p xs = flat_map (amounts_of p) xs

abbrev pub ends_of_gifts : List Gift → List ℕ
ends_of_gifts xs = map (λ gift. gift.dst) xs

-- what some items give
abbrev pub gifts_of_works : ProgramEntries → Graph → Tasks → List Work → List Gift
gifts_of_works p g t ws = flat_map (gifts p g t) ws

-- how many edges an item reads
abbrev pub visits : Tasks → Work → ℕ
visits t (Removed x) = 1
visits t (Added x) = 1
visits t (Dirty k) = (source_at t k).new_degree

abbrev pub visits_of : Tasks → List Work → ℕ
visits_of t ws = sum_by (visits t) ws

-- ---- all of them
abbrev pub task_gifts : ProgramEntries → Graph → Tasks → List Gift
task_gifts p g t = gifts_of_works p g t (works t)

-- the additions of the tasks
abbrev pub task_adds : ProgramEntries → Graph → Tasks → List Amount
task_adds p g t = adds_of_gifts p (task_gifts p g t)

abbrev pub task_visits : Tasks → ℕ
task_visits t = visits_of t (works t)
