-- An iteration that is seen by two graphs and the values of the one before it.
use Rattle.std.specs.Prelude.{ℕ, neg_ℤ, ◌-ℤ◌, ◌≤◌, ◌==◌, if◌then◌else◌, nat_lt, List, map, filter}
use Rattle.std.specs.List.{flat_map}
use Rattle.bolt_base.specs.Change.{stayed}
use Rattle.bolt_base.specs.Graph.{Graph, vertices}
use Rattle.bolt_base.specs.Residue.{Amount}
use Rattle.bolt_base.specs.declared.edge.Edge.{Edge}
use Rattle.vertex_expr.specs.declared.program.ProgramEntries.{ProgramEntries}
use Rattle.run_model.specs.Additions.{Gift, amounts_of, item_adds, items, now, was}
use Rattle.run_model.specs.Given.{IsBefore}
use Rattle.run_model.specs.Rows.{Contribution, Lists}
use Rattle.run_model.specs.Steps.{Step, step, tail_step}

abbrev pub seen : Graph → Graph → Lists → Lists → Step
seen g h before after = record {
  old_graph = g;
  new_graph = h;
  old_row = before;
  new_row = after;
}

-- each graph has values from which the next ones can be computed, and no vertex was lost
pub record AreSides (p : ProgramEntries) (s : Step) : Type 0 where
  pub old : IsBefore p s.old_graph s.old_row
  pub new : IsBefore p s.new_graph s.new_row
  pub grown : vertices s.old_graph ≤ vertices s.new_graph

-- ---- what goes to the end of an edge
abbrev pub removed_gift : Contribution → Edge → Gift
removed_gift before e = record { dst = e.dst; amount = λ l. neg_ℤ (before l e) }

abbrev pub added_gift : Contribution → Edge → Gift
added_gift after e = record { dst = e.dst; amount = λ l. after l e }

abbrev pub change_gift : Contribution → Contribution → Edge → Gift
change_gift before after e = record { dst = e.dst; amount = λ l. after l e -ℤ before l e }

-- ---- items
-- the additions for the edges out of a vertex, of some that stayed
abbrev pub change_adds : ProgramEntries → Step → List Edge → ℕ → List Amount
change_adds p s stay u =
    flat_map (amounts_of p)
    (map (change_gift (was p s) (now p s)) (filter (λ e. e.src == u) stay))

-- the additions of each item
abbrev pub adds_by_item : ProgramEntries → Step → List (List Amount)
adds_by_item p s =
    map (item_adds p (stayed s.old_graph s.new_graph) (was p s) (now p s)) (items p s)

-- an iteration, up to the cut or past it
abbrev pub due_step : ProgramEntries → ℕ → Graph → Graph → ℕ → Step
due_step p cut g h i = if nat_lt cut i then tail_step p h i else step p g h i
