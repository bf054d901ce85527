-- How many edges are read.
use Rattle.std.specs.Prelude.{ℕ, ◌+◌, ◌-◌, ◌*◌, ◌||◌, if◌then◌else◌, List, filter, length, sum_by}
use Rattle.std.specs.List.{range_with_len}
use Rattle.bolt_base.specs.Change.{removed, added, is_source}
use Rattle.bolt_base.specs.Graph.{Graph, vertices, edges, outdeg, indeg}
use Rattle.vertex_expr.specs.declared.program.ProgramEntries.{ProgramEntries}
use Rattle.run_model.specs.Program.{is_sum}
use Rattle.run_model.specs.Additions.{Item, removed_edge, added_edge, dirty_vertex}
use Rattle.run_model.specs.Steps.{Step, step, is_dirty, dirty, targets, active, tail_targets}

-- the edges out of these vertices, and those into them
abbrev pub out_visits : Graph → List ℕ → ℕ
out_visits h us = sum_by (outdeg h) us

abbrev pub in_visits : Graph → List ℕ → ℕ
in_visits h vs = sum_by (indeg h) vs

-- ---- items of a sum program
abbrev pub item_visits : Graph → Item → ℕ
item_visits h (removed_edge e) = 1
item_visits h (added_edge e) = 1
item_visits h (dirty_vertex u) = outdeg h u

abbrev pub items_visits : Graph → List Item → ℕ
items_visits h its = sum_by (item_visits h) its

-- ---- one iteration
abbrev pub sum_visits : ProgramEntries → Step → ℕ
sum_visits p s =
    length (removed s.old_graph s.new_graph) + length (added s.old_graph s.new_graph)
    + out_visits s.new_graph (dirty p s)

abbrev pub pull_visits : ProgramEntries → Step → ℕ
pull_visits p s = out_visits s.new_graph (dirty p s) + in_visits s.new_graph (targets p s)

abbrev pub step_visits : ProgramEntries → Step → ℕ
step_visits p s = if is_sum p.combine then sum_visits p s else pull_visits p s

-- past the cut
abbrev pub tail_sum_visits : ProgramEntries → Graph → ℕ → ℕ
tail_sum_visits p h i = out_visits h (active p h i)

abbrev pub tail_pull_visits : ProgramEntries → Graph → ℕ → ℕ
tail_pull_visits p h i = out_visits h (active p h i) + in_visits h (tail_targets p h i)

abbrev pub tail_step_visits : ProgramEntries → Graph → ℕ → ℕ
tail_step_visits p h i = if is_sum p.combine then tail_sum_visits p h i else tail_pull_visits p h i

-- ---- a batch
-- the iterations 1 to i, from a graph to another one
abbrev pub refine_visits : ProgramEntries → Graph → Graph → ℕ → ℕ
refine_visits p g h i = sum_by (λ k. step_visits p (step p g h k)) (range_with_len 1 i)

-- the iterations past the cut up to i, on one graph
abbrev pub tail_visits_to : ProgramEntries → Graph → ℕ → ℕ → ℕ
tail_visits_to p h cut i = sum_by (tail_step_visits p h) (range_with_len (cut + 1) (i - cut))

-- the tail on a graph
abbrev pub tail_visits : ProgramEntries → Graph → ℕ → ℕ
tail_visits p h cut = tail_visits_to p h cut p.rounds

abbrev pub visits : ProgramEntries → Graph → Graph → ℕ → ℕ
visits p g h cut = refine_visits p g h cut + tail_visits p h cut

-- an opening reads all edges in each round
abbrev pub opening_visits : ProgramEntries → Graph → ℕ
opening_visits p g = p.rounds * length (edges g)

-- ---- the bound
-- old and new out-degrees
abbrev pub degrees : Graph → Graph → ℕ → ℕ
degrees g h u = outdeg g u + outdeg h u

-- the sources of removed and added edges, rising
abbrev pub net_sources : Graph → Graph → List ℕ
net_sources g h = filter (is_source g h) (range_with_len 0 (vertices h))

-- the sources of net changed edges and the dirty vertices, rising
abbrev pub changed : ProgramEntries → Step → List ℕ
changed p s =
    filter (λ u. is_source s.old_graph s.new_graph u || is_dirty p s u)
    (range_with_len 0 (vertices s.new_graph))
