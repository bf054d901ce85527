-- What the iterations past the cut add to the words of the aggregates.
use Rattle.std.specs.Prelude.{ℕ, ◌+◌, ◌-◌, if◌then◌else◌, List, [], ◌++◌}
use Rattle.std.specs.List.{flat_map, range_with_len}
use Rattle.bolt_base.specs.Graph.{Graph}
use Rattle.bolt_base.specs.Residue.{Amount}
use Rattle.vertex_expr.specs.declared.program.ProgramEntries.{ProgramEntries}
use Rattle.run_model.specs.Additions.{tail_adds}
use Rattle.run_model.specs.Program.{is_sum}
use Rattle.run_model.specs.Steps.{tail_targets}
use Rattle.sum_steps.specs.Taken.{takes_of}

-- what an iteration takes back: the amounts for its targets, rising
abbrev pub tail_takes : ProgramEntries → Graph → ℕ → List Amount
tail_takes p h i = takes_of p (tail_adds p h i) (tail_targets p h i)

-- all that an iteration adds: its additions, and then what takes them back; nothing where the
-- program doesn't combine by sum
abbrev pub tail_step_amounts : ProgramEntries → Graph → ℕ → List Amount
tail_step_amounts p h i =
    if is_sum p.combine then tail_adds p h i ++ tail_takes p h i else []

-- the iterations past the cut up to i, on one graph
abbrev pub tail_amounts_to : ProgramEntries → Graph → ℕ → ℕ → List Amount
tail_amounts_to p h cut i = flat_map (tail_step_amounts p h) (range_with_len (cut + 1) (i - cut))

-- the tail on a graph
abbrev pub tail_amounts : ProgramEntries → Graph → ℕ → List Amount
tail_amounts p h cut = tail_amounts_to p h cut p.rounds
