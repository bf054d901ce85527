-- What the additions of an iteration past the cut are made of.
use Rattle.std.specs.Prelude.{ℕ, ◌-◌, true, [], map}
use Rattle.bolt_base.specs.Change.{attr_at}
use Rattle.bolt_base.specs.Graph.{Graph, outdeg}
use Rattle.vertex_expr.specs.declared.program.ProgramEntries.{ProgramEntries}
use Rattle.run_model.specs.Rows.{at, row}
use Rattle.run_model.specs.Steps.{active}
use Rattle.edge_map.specs.declared.tasks.Source.{Source}
use Rattle.edge_map.specs.declared.tasks.Tasks.{Tasks}

-- an active vertex: its values of the two iterations before, on one graph
abbrev pub tail_source : ProgramEntries → Graph → ℕ → ℕ → Source
tail_source p h i u = record {
  vertex = u;
  old = at (row p h (i - 2)) u;
  new = at (row p h (i - 1)) u;
  old_degree = outdeg h u;
  new_degree = outdeg h u;
  old_attr = attr_at h u;
  new_attr = attr_at h u;
  dirty = true;
}

-- the active vertices alone, since no edge was removed or added
abbrev pub tail_tasks : ProgramEntries → Graph → ℕ → Tasks
tail_tasks p h i = record {
  sources = map (tail_source p h i) (active p h i);
  removed = [];
  added = [];
}
