-- What follows from the rule.
use Rattle.std.specs.Prelude.{◌≡◌, ◌≢◌, ℕ, ◌<◌, List, slice_index}
use mathlib.Core.Option.{some}
use lib.ListN.{get_elem?}
use Rattle.bolt_base.specs.Residue.{sum_at}
use Rattle.agg_words.specs.View.{View, IsBare, times}
use Rattle.agg_words.specs.Rule.{IsKept, bit_of}
use Rattle.agg_words.specs.Known.{IsClear}
use Rattle.agg_words.specs.declared.layout.Layout.{Layout}

-- what one view says of the whole table: each other view is empty, and the words and bits are what
-- it says
pub record TellsAll (k : Layout) (words : List ℕ) (views : List View) (i : ℕ) (v : View) : Type 0
  where
    pub others : (j : ℕ) (u : View) → j ≢ i → get_elem? views j ≡ some u → (u.units ≡ 0) × IsBare u
    pub sums : (w : ℕ) → w < k.words → slice_index words w ≡ sum_at w v.amounts
    pub bits : (bit : ℕ) → bit_of k words bit ≡ times bit v.marks

-- wherever the rule holds, a view with all units tells all
abbrev pub FullSeatTellsAll : Type 0
FullSeatTellsAll = (k : Layout) (words : List ℕ) (views : List View) → IsKept k words views
    → (i : ℕ) (v : View) → get_elem? views i ≡ some v → v.units ≡ k.units
    → TellsAll k words views i v

-- and where such a view is clear, each aggregate word is 0, and so is each bit
abbrev pub ClearSeatTellsZeros : Type 0
ClearSeatTellsZeros = (k : Layout) (words : List ℕ) (views : List View) → IsKept k words views
    → (i : ℕ) (v : View) → get_elem? views i ≡ some v → IsClear k v
    → ((w : ℕ) → w < k.words → slice_index words w ≡ 0) × ((bit : ℕ) → bit_of k words bit ≡ 0)
