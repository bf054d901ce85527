-- What contracts see of a table and of a seat.
use Rattle.std.specs.Prelude.{◌≡◌, ℕ, ◌+◌, ◌≤◌}
use Rattle.atomic_table.specs.Seated.{TableId}
use Rattle.agg_words.specs.View.{View}
use Rattle.agg_words.specs.Rule.{first_mark_word, mark_words}
use Rattle.agg_words.specs.declared.layout.Layout.{Layout}

-- which table it is, and how it is laid out
pub record TableFacts : Type 0 where
  pub table : TableId
  pub layout : Layout

-- of which table the seat is, and what it knows
pub record SeatFacts : Type 0 where
  pub table : TableId
  pub view : View

-- how many words a table has, of 8 bytes each
abbrev pub word_count : Layout → ℕ
word_count k = first_mark_word k + mark_words k.bits

-- a table has the layout that its rule reads, a unit, and just these words
pub record IsLaidOut (k rule_layout : Layout) (table : TableId) : Type 0 where
  pub same : k ≡ rule_layout
  pub some_unit : 1 ≤ k.units
  pub size : table.words ≡ word_count k
