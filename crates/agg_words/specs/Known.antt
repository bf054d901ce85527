-- What a seat knows of the table: of its marks always, and of the rest with all units.
use Rattle.std.specs.Prelude.{◌≡◌, ℕ, ◌<◌, ◌≤◌, [], length, All}
use Rattle.bolt_base.specs.Residue.{sum_at}
use Rattle.agg_words.specs.View.{View, times}
use Rattle.agg_words.specs.declared.layout.Layout.{Layout}

-- its marks are bits of the table, each stands once, and each bit that it has met is among them
pub record IsKnown (k : Layout) (v : View) : Type 0 where
  pub inside : All (λ bit. bit < k.bits) v.marks
  pub once : (bit : ℕ) → times bit v.marks ≤ 1
  pub met : All (λ bit. 0 < times bit v.marks) v.met

-- its marks are bits of the table, each stands once, and so there are no more than the table has
pub record MarksOnce (k : Layout) (v : View) : Type 0 where
  pub inside : All (λ bit. bit < k.bits) v.marks
  pub once : (bit : ℕ) → times bit v.marks ≤ 1
  pub few : length v.marks ≤ k.bits

-- it has all units, each aggregate word is 0, and each bit is clear
pub record IsClear (k : Layout) (v : View) : Type 0 where
  pub units : v.units ≡ k.units
  pub words : (w : ℕ) → w < k.words → sum_at w v.amounts ≡ 0
  pub marks : v.marks ≡ []
  pub met : v.met ≡ []
