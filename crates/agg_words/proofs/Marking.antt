-- A step that sets a bit keeps the rule.
use Rattle.std.proofs.Common.{◌≡◌, ◌≢◌, ℕ, zero, suc, eq-eqb, ne_eqb, ◌+◌, ◌/◌, ◌%◌, ◌^◌, ◌<◌, ◌≤◌}
use Rattle.std.proofs.Common.{List, [], ◌∷◌, length, get_or, set, sym, refl, ap, ◌∙◌, subst}
use Rattle.std.proofs.Common.{if◌then◌else◌, ◌==◌, arith}
use Rattle.std.proofs.Math.ListN.{length-set}
use Rattle.std.specs.Int.{bit_at}
use Rattle.std.specs.Int.RustNames.{bit_or}
use Rattle.std.specs.Prelude.{All}
use Rattle.std.proofs.lemmas.Nat.Bits.{bit_at-lt}
use Rattle.std.proofs.lemmas.List.{get_or-set_other}
use Rattle.std.proofs.lemmas.List.Elements.{All-set, All-push}
use Rattle.std.proofs.lemmas.Grind.{get_or-set_at}
use mathlib.Core.Option.{none}
use mathlib.Core.Logic.{dite}
use native.Mathlib.Decide.{ℕ_discrete}
use Rattle.atomic_table.specs.Table.{Me, step, Allows, keeps}
use Rattle.agg_words.specs.declared.layout.Layout.{Layout}
use Rattle.agg_words.specs.View.{View, times, with_mark, with_met}
use Rattle.agg_words.specs.Rule.{FitsWords, IsKept, bit_of, first_mark_word, mark_words}
use Rattle.agg_words.specs.Known.{IsKnown, MarksOnce}
use Rattle.agg_words.specs.Steps.{marked}
use Rattle.agg_words.proofs.Views.{total, IsAt, total-set, times-append, amount_in, marks_in}
use Rattle.agg_words.proofs.Views.{sum_at-views, times-views, All-at, All-weaker, at-set}
use Rattle.agg_words.proofs.Knowing.{Holds, is_known, marks_once}

pub times_one : (b c : ℕ) → c ≡ b → times c (b ∷ []) ≡ 1
times_one b c e = rw (eq-eqb b c (sym e)) (omega arith)

pub times_other : (b c : ℕ) → c ≢ b → times c (b ∷ []) ≡ 0
times_other b c apart = rw (ne_eqb b c (λ e. apart (sym e))) (omega arith)

-- one place in one word is one bit
same_bit : (b c : ℕ) → c / 64 ≡ b / 64 → c % 64 ≡ b % 64 → c ≡ b
same_bit b c p q = omega arith

-- each bit of the table lies in a mark word
pub in_mark_words : (b n : ℕ) → b < n → b / 64 < mark_words n
in_mark_words b n h = omega arith

-- a mask that sets the bit b, and no other bit of its word
module _ (k : Layout) (words : List ℕ) (b mask : ℕ)
    (long : first_mark_word k + mark_words k.bits ≤ length words) (here : b < k.bits)
    (sets : (n : ℕ) → bit_at (bit_or n mask) (b % 64) ≡ 1)
    (leaves : (n i : ℕ) → i ≢ b % 64 → bit_at (bit_or n mask) i ≡ bit_at n i) where
  unfoldable pub marked_words : List ℕ
  marked_words = set words (first_mark_word k + b / 64)
      (bit_or (get_or words (first_mark_word k + b / 64) 0) mask)

  this_bit : (c : ℕ) → c ≡ b → bit_of k marked_words c ≡ 1
  unfolding marked_words
  this_bit c e =
      let q = in_mark_words b k.bits here in
      let at = first_mark_word k + b / 64 in
      let old = get_or words at 0 in
      subst (λ (x : ℕ). bit_of k (set words at (bit_or old mask)) x ≡ 1) (sym e)
      (ap (λ x. bit_at x (b % 64)) (get_or-set_at words at at (bit_or old mask) 0 refl
      (omega arith)) ∙ sets old)

  other_bit : (c : ℕ) → c ≢ b → bit_of k marked_words c ≡ bit_of k words c
  unfolding marked_words
  other_bit c apart =
      let q = in_mark_words b k.bits here in
      let at = first_mark_word k + b / 64 in
      let old = get_or words at 0 in
      dite (ℕ_discrete (c / 64) (b / 64))
      (λ e.
      ap (λ x. bit_at x (c % 64)) (get_or-set_at words at (first_mark_word k + c / 64)
      (bit_or old mask) 0 (ap (λ x. first_mark_word k + x) e) (omega arith))
      ∙ leaves old (c % 64) (λ r. apart (same_bit b c e r))
      ∙ ap (λ x. bit_at (get_or words (first_mark_word k + x) 0) (c % 64)) (sym e))
      (λ else_. ap (λ x. bit_at x (c % 64))
      (get_or-set_other words at (first_mark_word k + c / 64) (bit_or old mask) 0
      (λ e. else_ (omega arith))))

  was_set : (c : ℕ) → bit_of k words c ≡ 1 → bit_of k marked_words c ≡ 1
  was_set c one = dite (ℕ_discrete c b) (λ e. this_bit c e) (λ apart. other_bit c apart ∙ one)

  module _ (views : List View) (id : ℕ) (v : View) (h : IsKept k words views)
      (at : IsAt views id v) (unit : 0 < v.units) where
    fits_still : (u : View) → FitsWords k words u → FitsWords k marked_words u
    fits_still u f = record {
      marks_inside = f.marks_inside;
      met_inside = f.met_inside;
      met_set = All-weaker (λ c. bit_of k words c ≡ 1) (λ c. bit_of k marked_words c ≡ 1) u.met
          was_set f.met_set;
      idle = f.idle;
    }

    own_view_fits : FitsWords k marked_words v
    own_view_fits = fits_still v (All-at (FitsWords k words) views id v h.seats at)

    other_views_fit : All (FitsWords k marked_words) views
    other_views_fit = All-weaker (FitsWords k words) (FitsWords k marked_words) views fits_still
        h.seats

    sums_still : (w : View) → w.amounts ≡ v.amounts → (u : ℕ) → u < k.words
        → get_or marked_words u 0 ≡ total (amount_in u) (set views id w) % 2 ^ 64
    unfolding marked_words
    sums_still w e u below =
        let t = total-set (amount_in u) views id v w at in
        let a : amount_in u w ≡ amount_in u v = ap (λ xs. amount_in u (record v { amounts = xs }))
        e in
        let s : total (amount_in u) (set views id w) ≡ total (amount_in u) views = omega arith in
        get_or-set_other words (first_mark_word k + b / 64) u
        (bit_or (get_or words (first_mark_word k + b / 64) 0) mask) 0
        (λ e. absurd (omega arith))
        ∙ h.sums u below ∙ sum_at-views u views ∙ ap (λ x. x % 2 ^ 64) (sym s)

    long_still : first_mark_word k + mark_words k.bits ≤ length marked_words
    unfolding marked_words
    long_still = rw (length-set words (first_mark_word k + b / 64)
        (bit_or (get_or words (first_mark_word k + b / 64) 0) mask)) long

    when_clear : bit_of k words b ≡ 0 → IsKept k marked_words (set views id (with_mark v b))
    when_clear clear =
        let w = with_mark v b in record {
          long = long_still;
          sums = λ u below. sums_still w refl u below ∙ sym (sum_at-views u (set views id w));
          bits = λ c.
              let t = total-set (marks_in c) views id v w at in
              let a = times-append c v.marks (b ∷ []) in
              let e = h.bits c in
              let was = times-views c views in
              let now = times-views c (set views id w) in
              dite (ℕ_discrete c b)
              (λ is. let one = times_one b c is in let z : bit_of k words c
              ≡ 0 = ap (bit_of k words) is ∙ clear in let n = this_bit c is in omega arith)
              (λ apart. let no = times_other b c apart in let n = other_bit c apart in omega arith);
          units = let t = total-set (λ x. x.units) views id v w at in let u = h.units in omega
              arith;
          seats = All-set (FitsWords k marked_words) views id w (record {
            marks_inside = All-push (λ c. c < k.bits) v.marks b own_view_fits.marks_inside here;
            met_inside = own_view_fits.met_inside;
            met_set = own_view_fits.met_set;
            idle = λ hollow. absurd (omega arith);
          }) other_views_fit;
        }

    when_set : bit_of k words b ≡ 1 → IsKept k marked_words (set views id (with_met v b))
    when_set one =
        let w = with_met v b in record {
          long = long_still;
          sums = λ u below. sums_still w refl u below ∙ sym (sum_at-views u (set views id w));
          bits = λ c.
              let t = total-set (marks_in c) views id v w at in
              let e = h.bits c in
              let was = times-views c views in
              let now = times-views c (set views id w) in
              dite (ℕ_discrete c b)
              (λ is. let o : bit_of k words c ≡ 1 = ap (bit_of k words) is
              ∙ one in let n = this_bit c is in omega arith)
              (λ apart. let n = other_bit c apart in omega arith);
          units = let t = total-set (λ x. x.units) views id v w at in let u = h.units in omega
              arith;
          seats = All-set (FitsWords k marked_words) views id w (record {
            marks_inside = own_view_fits.marks_inside;
            met_inside = All-push (λ c. c < k.bits) v.met b own_view_fits.met_inside here;
            met_set = All-push (λ c. bit_of k marked_words c ≡ 1) v.met b own_view_fits.met_set
                (this_bit b refl);
            idle = λ hollow. absurd (omega arith);
          }) other_views_fit;
        }

    -- either way
    marks_now : (n : ℕ) → n ≡ bit_of k words b
        → (w : View) × IsKept k marked_words (set views id w)
        × (w ≡ (if n == 0 then with_mark v b else with_met v b)) × MarksOnce k w
        × (w.units ≡ k.units → IsKnown k w)
    marks_now zero e =
        let w = with_mark v b in
        let kept = when_clear (sym e) in (
          w,
          kept,
          refl,
          marks_once k marked_words (set views id w) id w kept
              (at-set views id v w at),
          is_known k marked_words (set views id w) id w kept
              (at-set views id v w at),
        )
    marks_now (suc n) e =
        let w = with_met v b in
        let low = bit_at-lt (get_or words (first_mark_word k + b / 64) 0) (b % 64) in
        let kept = when_set (omega arith) in (
          w,
          kept,
          rw (ne_eqb (suc n) 0 (λ q. omega arith)) refl,
          marks_once k marked_words
              (set views id w) id w kept (at-set views id v w at),
          is_known k marked_words
              (set views id w) id w kept (at-set views id v w at),
        )

pub mark_allowed : (k : Layout) (slots id : ℕ) (me : Me ℕ View) (b mask : ℕ) → 0 < me.0.units
    → b < k.bits
    → ((n : ℕ) → bit_at (bit_or n mask) (b % 64) ≡ 1)
    → ((n i : ℕ) → i ≢ b % 64 → bit_at (bit_or n mask) i ≡ bit_at n i)
    → Allows (Holds k) slots id me (first_mark_word k + b / 64) (λ x. bit_or x mask)
    (marked b k (step slots (first_mark_word k + b / 64) mask 0 none) me)
unfolding marked_words
mark_allowed k slots id me b mask unit here sets leaves s h homes at fits =
    let r = marks_now k s.words b mask h.long here sets leaves s.views id me.0 h at unit
    (bit_of k s.words b) refl in
    (r.0, keeps, tt, r.1, (ap (λ (x : View). (x, me.1)) r.2, r.3, r.4))
