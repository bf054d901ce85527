-- Words that are ready for the additions of an iteration.
use Rattle.std.specs.Prelude.{ℕ, ◌*◌, ◌≤◌}
use Rattle.bolt_base.specs.Graph.{Graph, vertices}
use Rattle.agg_words.specs.Known.{IsClear}
use Rattle.agg_words.specs.View.{View}
use Rattle.agg_words.specs.declared.layout.Layout.{Layout}
use Rattle.vertex_expr.specs.declared.program.ProgramEntries.{ProgramEntries}
use Rattle.run_model.specs.Program.{lanes}

-- a table has a word for each lane of each vertex, and a bit for each vertex
pub record HasRoom (p : ProgramEntries) (g : Graph) (word_count bit_count : ℕ) : Type 0 where
  pub words : vertices g * lanes p ≤ word_count
  pub bits : vertices g ≤ bit_count

-- the words are ready for so many workers: the table has room, the seat has all units, at least one
-- for each worker, all words are 0 and all bits are clear
pub record WordsReady (p : ProgramEntries) (g : Graph) (workers : ℕ) (k : Layout) (v : View)
    : Type 0 where
  pub some : 1 ≤ workers
  pub most : workers ≤ 64
  pub room : HasRoom p g k.words k.bits
  pub units : workers ≤ v.units
  pub clear : IsClear k v
