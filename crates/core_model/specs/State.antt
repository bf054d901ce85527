-- What a state of the core is.
use Rattle.std.specs.Prelude.{ℕ, List, Option}
use Rattle.bolt_base.specs.Graph.{Graph}
use Rattle.bolt_base.specs.Keep.{Entry, Row}
use Rattle.bolt_base.specs.Residue.{Amount}
use Rattle.bolt_base.specs.declared.answer.Choice.{Choice}
use Rattle.vertex_expr.specs.declared.program.ProgramEntries.{ProgramEntries}
use Rattle.run_model.specs.Logs.{Round}
use Rattle.run_model.specs.Rows.{Lists}
use Rattle.round_journal.specs.Book.{Book}
use Rattle.round_journal.specs.declared.entry.Entered.{Entered}

-- what no step changes: the program, the graph that was opened, and how it is run
pub record Given : Type 0 where
  pub program : ProgramEntries
  pub opened : Graph
  pub choice : Choice

-- how far a round's iterations are: the graph that it leads to, the next iteration, the rows of
-- those before it, the words of its aggregates as numbers modulo 2^64, and for each piece of its
-- work the additions that are left
pub record Work : Type 0 where
  pub graph : Graph
  pub iteration : ℕ
  pub rows : List Row
  pub words : List ℕ
  pub left : List (List Amount)

-- a round in progress: its entry, and its iterations, of which a refused batch has none
pub record Progress : Type 0 where
  pub entry : Entered
  pub work : Option Work

-- the graph of the accepted entries, its stored entries, vertex by vertex, and its answer; the
-- entries; the published rounds and their number; what each desk has seen; and perhaps a round in
-- progress, or an accepted one that awaits publication
pub record State : Type 0 where
  pub graph : Graph
  pub stored : List (List Entry)
  pub answer : Lists
  pub journal : Book
  pub log : List Round
  pub published : ℕ
  pub seen : List ℕ
  pub progress : Option Progress
  pub awaiting : Option Round
