-- What is at hand before an iteration past the cut.
use Rattle.std.specs.Prelude.{◌≡◌, ℕ, ◌-◌, ◌≤◌}
use Rattle.bolt_base.specs.Graph.{Graph, IsGood}
use Rattle.vertex_expr.specs.declared.program.ProgramEntries.{ProgramEntries}
use Rattle.range_check.specs.Breaks.{IsAccepted}
use Rattle.run_model.specs.Rows.{aggr, row}
use Rattle.run_model.specs.Steps.{active}
use Rattle.hybrid_tail.specs.declared.rows.TailRows.{TailRows}

-- a program and a graph on which iterations go on
pub record CanGoOn (p : ProgramEntries) (h : Graph) (i : ℕ) : Type 0 where
  pub safe : IsAccepted p
  pub good : IsGood p.limits h
  pub some : 2 ≤ i

-- iteration i is the next one: the aggregates and the values of the iteration before it, the values
-- of the one before that, and the vertices whose values differ between the two
pub record IsNext (p : ProgramEntries) (h : Graph) (i : ℕ) (rows : TailRows) : Type 0 where
  pub aggs : rows.aggs.items ≡ aggr p h (i - 1)
  pub vals : rows.vals.items ≡ row p h (i - 1)
  pub last : rows.last.items ≡ row p h (i - 2)
  pub moved : rows.moved.items ≡ active p h i

-- iteration i is under way: its aggregates are there, and its values not yet
pub record IsGathered (p : ProgramEntries) (h : Graph) (i : ℕ) (rows : TailRows) : Type 0 where
  pub aggs : rows.aggs.items ≡ aggr p h i
  pub vals : rows.vals.items ≡ row p h (i - 1)
  pub last : rows.last.items ≡ row p h (i - 2)
  pub moved : rows.moved.items ≡ active p h i
