-- When the edges into some vertices can be read.
use Rattle.std.specs.Prelude.{ℕ, ◌+◌, ◌-◌, ◌<◌, ◌≤◌, ◌^◌, List, length, map, slice_index}
use Rattle.std.specs.List.{All, range_with_len}
use Rattle.bolt_base.specs.Graph.{Graph, vertices}
use Rattle.vertex_expr.specs.declared.program.ProgramEntries.{ProgramEntries}
use Rattle.run_model.specs.Given.{AreGiven, IsBefore}
use Rattle.run_model.specs.Rows.{Lists}
use Rattle.run_model.specs.Visits.{in_visits}
use Rattle.run_model.specs.declared.given.Contributions.{Contributions}

-- so many workers can read the edges into these vertices, with a meter that counted so many and
-- holds so many units
pub record CanPull (p : ProgramEntries) (g : Graph) (vals : Lists) (given : Contributions)
    (targets : List ℕ) (workers counted held : ℕ) : Type 0 where
  pub before : IsBefore p g vals
  pub contributions : AreGiven p g vals given
  pub vertices : All (λ v. v < vertices g) targets
  pub room : counted + in_visits g targets < 2 ^ 64
  pub some : 1 ≤ workers
  pub units : workers ≤ held

-- the vertices from one place of a list up to, and without, another one
abbrev pub part : List ℕ → ℕ → ℕ → List ℕ
part targets from to = map (slice_index targets) (range_with_len from (to - from))

-- so can they for these alone
pub record CanPullPart (p : ProgramEntries) (g : Graph) (vals : Lists) (given : Contributions)
    (targets : List ℕ) (workers from to counted held : ℕ) : Type 0 where
  pub before : IsBefore p g vals
  pub contributions : AreGiven p g vals given
  pub vertices : All (λ v. v < vertices g) targets
  pub range : from ≤ to
  pub places : to ≤ length targets
  pub room : counted + in_visits g (part targets from to) < 2 ^ 64
  pub some : 1 ≤ workers
  pub units : workers ≤ held
