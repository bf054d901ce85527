-- What a view with all units tells of the whole table.
use Rattle.std.proofs.Common.{◌≡◌, ◌≢◌, ℕ, zero, suc, ◌+◌, ◌/◌, ◌%◌, ◌^◌, ◌<◌, ◌≤◌, List, [], ◌∷◌}
use Rattle.std.proofs.Common.{get_or, set, sym, refl, ap, ◌∙◌, subst, arith}
use Rattle.std.proofs.lemmas.List.Sums.{sum_by-cons}
use Rattle.std.proofs.lemmas.Nat.Bits.{bit_at-lt}
use Rattle.std.proofs.lemmas.List.{set-get_or}
use mathlib.Core.Option.{none, some-injective, some-ne-none}
use Rattle.atomic_table.specs.Table.{State, Me, step, Allows, keeps}
use Rattle.atomic_table.proofs.Lists.{set_again, set_else}
use Rattle.bolt_base.specs.Residue.{sum_at}
use Rattle.agg_words.specs.declared.layout.Layout.{Layout}
use Rattle.agg_words.specs.View.{View, IsBare, bare, times}
use Rattle.agg_words.specs.Rule.{FitsWords, IsKept, bit_of, first_mark_word}
use Rattle.agg_words.specs.Known.{IsKnown, IsClear, MarksOnce}
use Rattle.agg_words.specs.Steps.{looked}
use Rattle.agg_words.specs.Laws.{TellsAll}
use Rattle.std.specs.Prelude.{All}
use Rattle.agg_words.proofs.Pigeons.{few_bits}
use Rattle.agg_words.proofs.Views.{whole_sum, total, IsAt, total-set, sum_at-views, times-views}
use Rattle.agg_words.proofs.Views.{amount_in, marks_in, All-at, All-weaker, one-le-total}

abbrev pub Holds : Layout → State ℕ View → Type 0
Holds k s = IsKept k s.words s.views

-- where one view has all units, each other view has none
pub others_none : (views : List View) (id i : ℕ) (v u : View) → IsAt views id v
    → total (λ x. x.units) views ≡ v.units → i ≢ id → IsAt views i u → u.units ≡ 0
others_none views id i v u at all apart there =
    let t = total-set (λ x. x.units) views id v (bare 0) at in
    let part = one-le-total (λ (x : View). x.units) (set views id (bare 0)) i u
    (set_else views id i (bare 0) apart ∙ there) in
    omega arith

none_left : (f : View → ℕ) (views : List View) → total (λ x. x.units) views ≡ 0
    → ((i : ℕ) (u : View) → IsAt views i u → u.units ≡ 0 → f u ≡ 0) → total f views ≡ 0
none_left f [] empty hollow = refl
none_left f (x ∷ xs) empty hollow =
    let c = sum_by-cons (λ (y : View). y.units) x xs in
    let d = sum_by-cons f x xs in
    let a = hollow 0 x refl (omega arith) in
    let b = none_left f xs (omega arith) (λ i u at. hollow (suc i) u at) in
    omega arith

-- and what is 0 for a view without units is, in all, what it is for that view
total_of_full_view : (f : View → ℕ) (views : List View) (id : ℕ) (v : View) → IsAt views id v
    → total (λ x. x.units) views ≡ v.units
    → ((i : ℕ) (u : View) → IsAt views i u → u.units ≡ 0 → f u ≡ 0) → total f views ≡ f v
total_of_full_view f [] id v at all hollow = absurd (some-ne-none v (sym at))
total_of_full_view f (x ∷ xs) zero v at all hollow =
    let e = some-injective x v at in
    let u = ap (λ (y : View). y.units) e in
    let g = ap f e in
    let c = sum_by-cons (λ (y : View). y.units) x xs in
    let d = sum_by-cons f x xs in
    let z = none_left f xs (omega arith) (λ i y there. hollow (suc i) y there) in
    omega arith
total_of_full_view f (x ∷ xs) (suc i) v at all hollow =
    let p = one-le-total (λ (x : View). x.units) xs i v at in
    let c = sum_by-cons (λ (y : View). y.units) x xs in
    let d = sum_by-cons f x xs in
    let z = hollow 0 x refl (omega arith) in
    let e = total_of_full_view f xs i v at (omega arith) (λ j y there. hollow (suc j) y there) in
    omega arith

-- the rule, and a view with all units in it
module _ (k : Layout) (words : List ℕ) (views : List View) (id : ℕ) (v : View)
    (h : IsKept k words views) (at : IsAt views id v) (full : v.units ≡ k.units) where
  bare_at : (i : ℕ) (u : View) → IsAt views i u → u.units ≡ 0 → IsBare u
  bare_at i u there none_ = (All-at (FitsWords k words) views i u h.seats there).idle none_

  -- it knows the sum of all amounts for a word
  pub tells_word : (w : ℕ) → w < k.words → get_or words w 0 ≡ sum_at w v.amounts
  tells_word w below =
      h.sums w below ∙ sum_at-views w views
      ∙ ap (λ x. x % 2 ^ 64) (total_of_full_view (amount_in w) views id v at (h.units ∙ sym full)
      (λ i u there none_. ap (whole_sum w) (bare_at i u there none_).amounts))

  -- and the bits that are set
  pub tells_bit : (bit : ℕ) → bit_of k words bit ≡ times bit v.marks
  tells_bit bit =
      h.bits bit ∙ times-views bit views
      ∙ total_of_full_view (marks_in bit) views id v at (h.units ∙ sym full)
      (λ i u there none_. ap (times bit) (bare_at i u there none_).marks)

  pub tells_others : (j : ℕ) (u : View) → j ≢ id → IsAt views j u → (u.units ≡ 0) × IsBare u
  tells_others j u apart there =
      let none_ = others_none views id j v u at (h.units ∙ sym full) apart there in
      (none_, bare_at j u there none_)

  pub tells_all : TellsAll k words views id v
  tells_all = record { others = tells_others; sums = tells_word; bits = tells_bit }

  pub is_known : IsKnown k v
  is_known =
      let fits = All-at (FitsWords k words) views id v h.seats at in record {
        inside = fits.marks_inside;
        once = λ bit. let e = tells_bit bit in let low = bit_at-lt
            (get_or words (first_mark_word k + bit / 64) 0) (bit % 64) in omega arith;
        met = All-weaker (λ bit. bit_of k words bit ≡ 1) (λ bit. 0 < times bit v.marks) v.met
            (λ bit one. let e = tells_bit bit in omega arith) fits.met_set;
      }

-- the marks of any view
pub marks_once : (k : Layout) (words : List ℕ) (views : List View) (id : ℕ) (v : View)
    → IsKept k words views → IsAt views id v → MarksOnce k v
marks_once k words views id v h at = record {
  inside = inside;
  once = once;
  few = few_bits k.bits v.marks inside once;
}
  where
    inside : All (λ bit. bit < k.bits) v.marks
    inside = (All-at (FitsWords k words) views id v h.seats at).marks_inside

    once : (bit : ℕ) → times bit v.marks ≤ 1
    once bit =
        let part = one-le-total (marks_in bit) views id v at in
        let e = h.bits bit in
        let all = times-views bit views in
        let low = bit_at-lt (get_or words (first_mark_word k + bit / 64) 0) (bit % 64) in
        omega arith

-- a clear view tells of zeros
pub tells_zeros : (k : Layout) (words : List ℕ) (views : List View) (id : ℕ) (v : View)
    → IsKept k words views → IsAt views id v → IsClear k v
    → ((w : ℕ) → w < k.words → get_or words w 0 ≡ 0) × ((bit : ℕ) → bit_of k words bit ≡ 0)
tells_zeros k words views id v h at clear = (
  λ w below. tells_word k words views id v h at clear.units w below ∙ clear.words w below,
  λ bit. tells_bit k words views id v h at clear.units bit ∙ ap (times bit) clear.marks,
)

pub look_allowed : (k : Layout) (slots id : ℕ) (me : Me ℕ View) (i : ℕ)
    → Allows (Holds k) slots id me i (λ n. n) (looked k (step slots i 0 0 none) me)
look_allowed k slots id me i s h homes at fits = (
  me.0,
  keeps,
  tt,
  let P : List ℕ × List View → Type 0 = λ p. IsKept k p.0 p.1 in
      subst P (λ j. (sym (set-get_or s.words i 0) j, sym (set_again s.views id me.0 at) j)) h,
  (refl, marks_once k s.words s.views id me.0 h at, is_known k s.words s.views id me.0 h at),
)
