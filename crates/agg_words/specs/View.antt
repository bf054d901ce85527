-- What a seat knows, and how each call changes it.
use Rattle.std.specs.Prelude.{◌≡◌, ℕ, zero, suc, pos, neg_ℤ, ◌+◌, ◌-◌, ◌/◌, ◌==◌, Bool, not}
use Rattle.std.specs.Prelude.{if◌then◌else◌, List, [], ◌∷◌, ◌++◌, filter, count_by}
use Rattle.std.specs.List.{list_any}
use Rattle.bolt_base.specs.Residue.{Amount, residue, sum_at}

-- the units that a seat holds, the amounts that it added, the bits that it marked, and the bits
-- that it found marked already
pub record View : Type 0 where
  pub units : ℕ
  pub amounts : List Amount
  pub marks : List ℕ
  pub met : List ℕ

-- units alone
abbrev pub bare : ℕ → View
bare units = record { units = units; amounts = []; marks = []; met = [] }

-- nothing but units
pub record IsBare (v : View) : Type 0 where
  pub amounts : v.amounts ≡ []
  pub marks : v.marks ≡ []
  pub met : v.met ≡ []

-- how often a bit stands in a list
abbrev pub times : ℕ → List ℕ → ℕ
times bit bits = count_by (λ b. b == bit) bits

-- with one more amount
abbrev pub with_amount : View → ℕ → ℕ → View
with_amount v word amount =
    record v { amounts = v.amounts ++ record { word = word; amount = amount } ∷ [] }

-- minus a number, modulo 2^64
abbrev pub minus : ℕ → ℕ
minus n = residue (neg_ℤ (pos n))

-- with the sum for a word taken back
abbrev pub with_taken : View → ℕ → View
with_taken v word = with_amount v word (minus (sum_at word v.amounts))

-- what takes back the sums for the first words, in order: for each word minus the sum of its
-- amounts
abbrev pub taken_back : ℕ → List Amount → List Amount
taken_back zero amounts = []
taken_back (suc word) amounts =
    taken_back word amounts ++ record { word = word; amount = minus (sum_at word amounts) } ∷ []

-- with one more mark
abbrev pub with_mark : View → ℕ → View
with_mark v bit = record v { marks = v.marks ++ bit ∷ [] }

-- with one more bit that was met
abbrev pub with_met : View → ℕ → View
with_met v bit = record v { met = v.met ++ bit ∷ [] }

-- a step finds a bit clear and marks it, or meets it set
abbrev pub with_bit : Bool → View → ℕ → View
with_bit clear v bit = if clear then with_mark v bit else with_met v bit

-- the bits that lie outside a mark word
abbrev pub outside : ℕ → List ℕ → List ℕ
outside mark_word bits = filter (λ b. not (b / 64 == mark_word)) bits

-- without the bits of a mark word
abbrev pub without_word : View → ℕ → View
without_word v mark_word =
    record v { marks = outside mark_word v.marks; met = outside mark_word v.met }

-- a bit stands neither in the marks nor among the bits that were met
pub record IsGone (v : View) (bit : ℕ) : Type 0 where
  pub marks : times bit v.marks ≡ 0
  pub met : times bit v.met ≡ 0

-- the bits that lie outside the mark words of all these
abbrev pub outside_all : List ℕ → List ℕ → List ℕ
outside_all wiped bits = filter (λ b. not (list_any (λ c. b / 64 == c / 64) wiped)) bits

-- without the bits of the mark words of all these
abbrev pub without_words_of : View → List ℕ → View
without_words_of v wiped =
    record v { marks = outside_all wiped v.marks; met = outside_all wiped v.met }

-- what is left where some units are given away
abbrev pub with_fewer : View → ℕ → View
with_fewer v units = record v { units = v.units - units }

-- all four parts of both, the first one's before the second one's
abbrev pub joined : View → View → View
joined v w = record {
  units = v.units + w.units;
  amounts = v.amounts ++ w.amounts;
  marks = v.marks ++ w.marks;
  met = v.met ++ w.met;
}
