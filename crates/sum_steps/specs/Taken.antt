-- What the words hold for targets, and what is taken from them.
use Rattle.std.specs.Prelude.{◌≡◌, ℕ, ℤ, ◌+◌, ◌*◌, ◌<◌, ◌≤◌, List, ◌++◌, map}
use Rattle.std.specs.List.{flat_map, range_with_len}
use Rattle.bolt_base.specs.Residue.{Amount, sum_at}
use Rattle.agg_words.specs.View.{View, times, minus}
use Rattle.agg_words.specs.declared.layout.Layout.{Layout}
use Rattle.vertex_expr.specs.declared.program.ProgramEntries.{ProgramEntries}
use Rattle.run_model.specs.Additions.{adds_of, items, word}
use Rattle.run_model.specs.Program.{lanes}
use Rattle.run_model.specs.Refined.{with_words}
use Rattle.run_model.specs.Steps.{Step, targets}

-- what takes back the amounts for a lane of a vertex: minus their sum
abbrev pub take_of : ProgramEntries → List Amount → ℕ → ℕ → Amount
take_of p amounts v l =
    record { word = word p v l; amount = minus (sum_at (word p v l) amounts) }

-- for each lane, in order
abbrev pub takes_at : ProgramEntries → List Amount → ℕ → List Amount
takes_at p amounts v = map (take_of p amounts v) (range_with_len 0 (lanes p))

-- for vertices one after the other
abbrev pub takes_of : ProgramEntries → List Amount → List ℕ → List Amount
takes_of p amounts vs = flat_map (takes_at p amounts) vs

-- what an iteration takes back: the amounts for its targets, rising
abbrev pub takes : ProgramEntries → Step → List Amount
takes p s = takes_of p (adds_of p s (items p s)) (targets p s)

-- all that an iteration adds to the words: its additions, and then what takes them back
abbrev pub iteration_amounts : ProgramEntries → Step → List Amount
iteration_amounts p s = adds_of p s (items p s) ++ takes p s

-- the table has the words of a vertex
abbrev pub HasWords : ProgramEntries → Layout → ℕ → Type 0
HasWords p k v = (v + 1) * lanes p ≤ k.words

-- a seat has all units, and the words hold what these amounts are for the vertices that are left,
-- each of which stands once, and 0 for all others
pub record AreLeft (p : ProgramEntries) (k : Layout) (amounts : List Amount) (left : List ℕ)
    (v : View) : Type 0 where
  pub units : v.units ≡ k.units
  pub once : (u : ℕ) → times u left ≤ 1
  pub held : (u l : ℕ) → 0 < times u left → l < lanes p
      → sum_at (word p u l) v.amounts ≡ sum_at (word p u l) amounts
  pub zero : (u l : ℕ) → times u left ≡ 0 → l < lanes p → word p u l < k.words
      → sum_at (word p u l) v.amounts ≡ 0

-- a vertex was taken before the rest: its aggregate is the old one with its amounts, and the seat
-- has grown by what takes these back
pub record IsTaken (p : ProgramEntries) (k : Layout) (amounts : List Amount) (old : List ℤ)
    (v : ℕ) (rest : List ℕ) (agg : List ℤ) (before after : View) : Type 0 where
  pub sum : agg ≡ with_words p amounts old v
  pub left : AreLeft p k amounts rest after
  pub grown : after.amounts ≡ before.amounts ++ takes_at p amounts v
