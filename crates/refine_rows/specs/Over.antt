-- An old graph and a new one, under a program.
use Rattle.std.specs.Prelude.{◌≤◌, []}
use Rattle.std.specs.FinMap as finite
use Rattle.bolt_base.specs.Graph.{Graph, IsGood, vertices}
use Rattle.vertex_expr.specs.declared.program.ProgramEntries.{ProgramEntries}
use Rattle.range_check.specs.Breaks.{IsAccepted}
use Rattle.adjacency.specs.ChangeOf.{IsChange}
use Rattle.adjacency.specs.declared.change.Change.{Change}

-- the program is accepted, both graphs are good under its limits, and the new one has all vertices
-- of the old one
pub record AreOver (p : ProgramEntries) (g h : Graph) : Type 0 where
  pub safe : IsAccepted p
  pub old : IsGood p.limits g
  pub new : IsGood p.limits h
  pub more : vertices g ≤ vertices h

-- and these are the lists of what changed
pub record IsChangeOver (p : ProgramEntries) (g h : Graph) (c : Change) : Type 0 where
  pub over : AreOver p g h
  pub net : IsChange g h c

-- a graph without vertices
abbrev pub no_graph : Graph
no_graph = record { attrs = []; weights = finite.empty }
