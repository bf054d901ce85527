-- A look at a bit, which is met where it is set, keeps the rule.
use Rattle.std.proofs.Common.{◌≡◌, ℕ, zero, suc, eq-eqb, ◌+◌, ◌/◌, ◌%◌, ◌^◌, ◌<◌, List, get_or, set}
use Rattle.std.proofs.Common.{sym, refl, ap, ◌∙◌, subst, if◌then◌else◌, ◌==◌, arith}
use Rattle.std.proofs.lemmas.Nat.Bits.{bit_at-lt}
use Rattle.std.proofs.lemmas.List.{set-get_or}
use Rattle.std.proofs.lemmas.List.Elements.{All-set, All-push}
use mathlib.Core.Option.{none}
use Rattle.atomic_table.specs.Table.{Me, step, Allows, keeps}
use Rattle.atomic_table.proofs.Lists.{set_again}
use Rattle.agg_words.specs.declared.layout.Layout.{Layout}
use Rattle.agg_words.specs.View.{View, with_met}
use Rattle.agg_words.specs.Rule.{FitsWords, IsKept, bit_of, first_mark_word}
use Rattle.agg_words.specs.Known.{IsKnown, MarksOnce}
use Rattle.agg_words.specs.Steps.{met}
use Rattle.agg_words.proofs.Views.{total, IsAt, total-set, amount_in, marks_in, sum_at-views}
use Rattle.agg_words.proofs.Views.{times-views, All-at, at-set}
use Rattle.agg_words.proofs.Knowing.{Holds, is_known, marks_once}

module _ (k : Layout) (words : List ℕ) (views : List View) (id : ℕ) (v : View) (b : ℕ)
    (h : IsKept k words views) (at : IsAt views id v) (unit : 0 < v.units) (here : b < k.bits) where
  own_view : FitsWords k words v
  own_view = All-at (FitsWords k words) views id v h.seats at

  meeting_keeps_rule : bit_of k words b ≡ 1 → IsKept k words (set views id (with_met v b))
  meeting_keeps_rule one =
      let w = with_met v b in record {
        long = h.long;
        sums = λ u below.
            let t = total-set (amount_in u) views id v w at in
            let a : amount_in u w ≡ amount_in u v = refl in
            let s : total (amount_in u) (set views id w) ≡ total (amount_in u) views = omega arith
            in
            h.sums u below ∙ sum_at-views u views ∙ ap (λ x. x % 2 ^ 64) (sym s)
            ∙ sym (sum_at-views u (set views id w));
        bits = λ c.
            let t = total-set (marks_in c) views id v w at in
            let a : marks_in c w ≡ marks_in c v = refl in
            let e = h.bits c in
            let was = times-views c views in
            let now = times-views c (set views id w) in
            omega arith;
        units = let t = total-set (λ x. x.units) views id v w at in let u = h.units in omega arith;
        seats = All-set (FitsWords k words) views id w (record {
          marks_inside = own_view.marks_inside;
          met_inside = All-push (λ c. c < k.bits) v.met b own_view.met_inside here;
          met_set = All-push (λ c. bit_of k words c ≡ 1) v.met b own_view.met_set one;
          idle = λ hollow. absurd (omega arith);
        }) h.seats;
      }

  -- either way
  met_now : (n : ℕ) → n ≡ bit_of k words b
      → (w : View) × IsKept k words (set views id w)
      × (w ≡ (if n == 1 then with_met v b else v)) × MarksOnce k w
      × (w.units ≡ k.units → IsKnown k w)
  met_now zero e = (
    v,
    subst (λ (vs : List View). IsKept k words vs) (sym (set_again views id v at)) h,
    refl,
    marks_once k words views id v h at,
    is_known k words views id v h at,
  )
  met_now (suc n) e =
      let w = with_met v b in
      let low = bit_at-lt (get_or words (first_mark_word k + b / 64) 0) (b % 64) in
      let kept = meeting_keeps_rule (omega arith) in (
        w,
        kept,
        rw (eq-eqb (suc n) 1 (omega arith)) refl,
        marks_once k words (set views id w) id w kept (at-set views id v w at),
        is_known k words (set views id w) id w kept (at-set views id v w at),
      )

pub meet_allowed : (k : Layout) (slots id : ℕ) (me : Me ℕ View) (b : ℕ) → 0 < me.0.units
    → b < k.bits
    → Allows (Holds k) slots id me (first_mark_word k + b / 64) (λ n. n)
    (met b k (step slots (first_mark_word k + b / 64) 0 0 none) me)
meet_allowed k slots id me b unit here s h homes at fits =
    let r = met_now k s.words s.views id me.0 b h at unit here (bit_of k s.words b) refl in (
      r.0,
      keeps,
      tt,
      subst (λ (words : List ℕ). IsKept k words (set s.views id r.0))
          (sym (set-get_or s.words (first_mark_word k + b / 64) 0)) r.1,
      (ap (λ (x : View). (x, me.1)) r.2, r.3, r.4),
    )
