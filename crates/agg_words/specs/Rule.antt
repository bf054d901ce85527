-- What holds of a table between any two steps.
use Rattle.std.specs.Prelude.{◌≡◌, ℕ, ◌+◌, ◌/◌, ◌%◌, ◌<◌, ◌≤◌, max, List, All, flat_map, length}
use Rattle.std.specs.Prelude.{slice_index, sum_by}
use Rattle.std.specs.Int.{bit_at}
use Rattle.bolt_base.specs.Residue.{sum_at}
use Rattle.agg_words.specs.View.{View, IsBare, bare, times}
use Rattle.agg_words.specs.declared.layout.Layout.{Layout}

-- the mark words follow the aggregate words, and stand behind at least one word
abbrev pub first_mark_word : Layout → ℕ
first_mark_word k = max k.words 1

-- how many words hold so many bits
abbrev pub mark_words : ℕ → ℕ
mark_words bits = (bits + 63) / 64

-- a bit of the mark words, 0 or 1: 64 to a word, and 0 past the last one
abbrev pub bit_of : Layout → List ℕ → ℕ → ℕ
bit_of k words bit = bit_at (slice_index words (first_mark_word k + bit / 64)) (bit % 64)

-- what holds of one view: its bits are bits of the table, each bit that it has met is set, and
-- without units it has nothing
pub record FitsWords (k : Layout) (words : List ℕ) (v : View) : Type 0 where
  pub marks_inside : All (λ bit. bit < k.bits) v.marks
  pub met_inside : All (λ bit. bit < k.bits) v.met
  pub met_set : All (λ bit. bit_of k words bit ≡ 1) v.met
  pub idle : v.units ≡ 0 → IsBare v

pub record IsKept (k : Layout) (words : List ℕ) (views : List View) : Type 0 where
  -- all words are there
  pub long : first_mark_word k + mark_words k.bits ≤ length words
  -- an aggregate word is the sum, modulo 2^64, of the amounts for it in all views
  pub sums : (w : ℕ) → w < k.words → slice_index words w
      ≡ sum_at w (flat_map (λ v. v.amounts) views)
  -- a bit is set exactly where it stands in the marks of all views, and so in one view, once
  pub bits : (bit : ℕ) → bit_of k words bit ≡ times bit (flat_map (λ v. v.marks) views)
  -- the units of all views are the table's
  pub units : sum_by (λ v. v.units) views ≡ k.units
  -- each bit that a view has met is set, and a view without units has nothing
  pub seats : All (FitsWords k words) views

-- the first seat has all units
abbrev pub opened : Layout → View
opened k = bare k.units
