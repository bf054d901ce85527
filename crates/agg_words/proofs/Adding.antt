-- Steps on an aggregate word keep the rule.
use Rattle.std.proofs.Common.{◌≡◌, ◌≢◌, ℕ, zero, suc, eq-eqb, ne_eqb, ◌+◌, ◌-◌, ◌/◌, ◌%◌, ◌^◌, ◌<◌}
use Rattle.std.proofs.Common.{List, [], ◌∷◌, length, get_or, set, sym, refl, ap, ◌∙◌, arith}
use Rattle.std.proofs.Math.Nat.{mod-add-mod, mod_self}
use Rattle.std.proofs.Math.ListN.{length-set}
use Rattle.std.specs.Int.{bit_at}
use Rattle.std.proofs.lemmas.List.{get_or-set_other}
use Rattle.std.proofs.lemmas.List.Elements.{All-set}
use Rattle.std.proofs.lemmas.Grind.{get_or-set_at}
use mathlib.Core.Option.{none}
use mathlib.Core.Logic.{dite}
use native.Mathlib.Decide.{ℕ_discrete}
use Rattle.atomic_table.specs.Table.{Me, step, Allows, keeps}
use Rattle.bolt_base.specs.Residue.{Amount}
use Rattle.agg_words.specs.declared.layout.Layout.{Layout}
use Rattle.agg_words.specs.View.{View, with_amount, minus}
use Rattle.agg_words.specs.Rule.{FitsWords, IsKept, bit_of, first_mark_word}
use Rattle.agg_words.specs.Steps.{added, taken}
use Rattle.agg_words.proofs.Views.{whole_sum, whole_sum-append, total, IsAt, total-set, amount_in}
use Rattle.agg_words.proofs.Views.{marks_in, sum_at-views, times-views, All-at, All-weaker}
use Rattle.agg_words.proofs.Knowing.{Holds, tells_word}

-- one amount
abbrev pub one_amount : ℕ → ℕ → List Amount
one_amount w n = record { word = w; amount = n } ∷ []

pub same_word : (w u n : ℕ) → u ≡ w → whole_sum u (one_amount w n) ≡ n
same_word w u n e = rw (eq-eqb w u (sym e)) (omega arith)

pub other_word : (w u n : ℕ) → u ≢ w → whole_sum u (one_amount w n) ≡ 0
other_word w u n apart = rw (ne_eqb w u (λ e. apart (sym e))) refl

-- what holds of a view still does where the bits are what they were
pub fits-same : (k : Layout) (old new : List ℕ) → ((bit : ℕ) → bit_of k new bit ≡ bit_of k old bit)
    → (v : View) → FitsWords k old v → FitsWords k new v
fits-same k old new same v f = record {
  marks_inside = f.marks_inside;
  met_inside = f.met_inside;
  met_set = All-weaker (λ bit. bit_of k old bit ≡ 1) (λ bit. bit_of k new bit ≡ 1) v.met
      (λ bit e. same bit ∙ e) f.met_set;
  idle = f.idle;
}

-- a word and the amounts for it grow alike
pub addition_keeps_rule : (k : Layout) (words : List ℕ) (views : List View) (id : ℕ) (v : View)
    (w m n : ℕ)
    → IsKept k words views → IsAt views id v → 0 < v.units → w < k.words
    → m ≡ (get_or words w 0 + n) % 2 ^ 64
    → IsKept k (set words w m) (set views id (with_amount v w n))
addition_keeps_rule k words views id v w m n h at unit here is =
    let new = with_amount v w n in
    let same : (bit : ℕ) → bit_of k (set words w m) bit ≡ bit_of k words bit =
    λ bit. ap (λ x. bit_at x (bit % 64))
    (get_or-set_other words w (first_mark_word k + bit / 64) m 0 (λ e. absurd (omega arith))) in
    let mine = All-at (FitsWords k words) views id v h.seats at in
    record {
      long = rw (length-set words w m) h.long;
      sums = λ u below.
          let f = amount_in u in
          let t : total f (set views id new) + f v
          ≡ total f views + f new = total-set f views id v new at in
          let a : f new ≡ f v + whole_sum u (one_amount w n) = whole_sum-append u v.amounts
          (one_amount w n) in
          let was : get_or words u 0 ≡ total f views % 2 ^ 64 = h.sums u below
          ∙ sum_at-views u views in
          let now = sym (sum_at-views u (set views id new)) in
          dite (ℕ_discrete u w)
          (λ e.
          let o = same_word w u n e in
          let s : total f (set views id new) ≡ total f views + n = omega arith in
          let z = h.long in
          let inside : w < length words = omega arith in
          let there : get_or words w 0
          ≡ total f views % 2 ^ 64 = ap (λ x. get_or words x 0) (sym e) ∙ was in
          get_or-set_at words w u m 0 e inside ∙ is ∙ ap (λ x. (x + n) % 2 ^ 64) there
          ∙ mod-add-mod (total f views) (2 ^ 64) n ∙ ap (λ x. x % 2 ^ 64) (sym s) ∙ now)
          (λ apart.
          let o = other_word w u n apart in
          let s : total f (set views id new) ≡ total f views = omega arith in
          get_or-set_other words w u m 0 apart ∙ was ∙ ap (λ x. x % 2 ^ 64) (sym s) ∙ now);
      bits = λ bit.
          let t = total-set (marks_in bit) views id v new at in
          let e = h.bits bit in
          let was = times-views bit views in
          let now = times-views bit (set views id new) in
          let s = same bit in
          omega arith;
      units = let t = total-set (λ x. x.units) views id v new at in let u = h.units in omega arith;
      seats = All-set (FitsWords k (set words w m)) views id new
          (fits-same k words (set words w m) same new (record {
            marks_inside = mine.marks_inside;
            met_inside = mine.met_inside;
            met_set = mine.met_set;
            idle = λ hollow. absurd (omega arith);
          }))
          (All-weaker (FitsWords k words) (FitsWords k (set words w m)) views
          (fits-same k words (set words w m) same) h.seats);
    }

pub add_allowed : (k : Layout) (slots id : ℕ) (me : Me ℕ View) (w n : ℕ) → 0 < me.0.units
    → w < k.words
    → Allows (Holds k) slots id me w (λ x. (x + n) % 2 ^ 64) (added (step slots w n 0 none) me)
add_allowed k slots id me w n unit here s h homes at fits = (
  with_amount me.0 w n,
  keeps,
  tt,
  addition_keeps_rule k s.words s.views id me.0 w _ n h at unit here refl,
  refl,
)

-- a number and minus it are 0 together
pub minus-add : (n : ℕ) → n < 2 ^ 64 → (n + minus n) % 2 ^ 64 ≡ 0
minus-add zero below = refl
minus-add (suc n) below =
    let small : n % 2 ^ 64 ≡ n = omega arith in
    let e : suc n + (2 ^ 64 - 1 - n % 2 ^ 64) ≡ 2 ^ 64 = omega arith in
    ap (λ x. x % 2 ^ 64) e ∙ mod_self (2 ^ 64)

pub take_allowed : (k : Layout) (slots id : ℕ) (me : Me ℕ View) (w : ℕ) → 0 < k.units
    → me.0.units ≡ k.units → w < k.words
    → Allows (Holds k) slots id me w (λ _. 0) (taken (step slots w 0 0 none) me)
take_allowed k slots id me w some_unit full here s h homes at fits =
    let old = get_or s.words w 0 in (
      with_amount me.0 w (minus old),
      keeps,
      tt,
      addition_keeps_rule k s.words s.views id me.0 w 0 (minus old) h at (omega arith) here
          (sym (minus-add old fits)),
      (tells_word k s.words s.views id me.0 h at full w here, refl),
    )
