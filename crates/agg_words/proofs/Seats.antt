-- A fresh table meets the rule, and a split and a join of seats keep it.
use Rattle.std.proofs.Common.{◌≡◌, ◌≢◌, ℕ, ◌+◌, ◌/◌, ◌%◌, ◌^◌, ◌<◌, ◌≤◌, List, [], ◌∷◌}
use Rattle.std.proofs.Common.{◌++◌, set, sym, refl, ap, ◌∙◌, arith}
use Rattle.std.proofs.Math.ListN.{replicate, length-replicate}
use Rattle.std.specs.Int.{bit_at}
use Rattle.std.specs.Prelude.{All}
use Rattle.std.proofs.lemmas.Nat.Bits.{bit_at-zero}
use Rattle.std.proofs.lemmas.List.Elements.{All-nil, All-cons, All-append, All-push, All-set}
use mathlib.Core.Logic.{⊎_elim}
use Rattle.atomic_table.specs.Table.{Splits, Joins, opening}
use Rattle.atomic_table.proofs.Lists.{at_set}
use Rattle.bolt_base.proofs.ListLemmas.{get_or-replicate_same}
use Rattle.agg_words.specs.declared.layout.Layout.{Layout}
use Rattle.agg_words.specs.View.{View, IsBare, bare, joined, with_fewer}
use Rattle.agg_words.specs.Rule.{FitsWords, IsKept, bit_of, first_mark_word, mark_words, opened}
use Rattle.agg_words.proofs.Views.{whole_sum-append, total, IsAt, total-set, total-push}
use Rattle.agg_words.proofs.Views.{times-append, amount_in, marks_in, sum_at-views, times-views}
use Rattle.agg_words.proofs.Views.{All-at}
use Rattle.agg_words.proofs.Knowing.{Holds}

-- a view of units alone fits any words
bare_fits : (k : Layout) (words : List ℕ) (units : ℕ) → FitsWords k words (bare units)
bare_fits k words units = record {
  marks_inside = All-nil (λ c. c < k.bits);
  met_inside = All-nil (λ c. c < k.bits);
  met_set = All-nil (λ c. bit_of k words c ≡ 1);
  idle = λ _. record { amounts = refl; marks = refl; met = refl };
}

-- the same words under other views, which add up to the same
kept_by : (k : Layout) (words : List ℕ) (old new : List View) → IsKept k words old
    → ((w : ℕ) → total (amount_in w) new ≡ total (amount_in w) old)
    → ((bit : ℕ) → total (marks_in bit) new ≡ total (marks_in bit) old)
    → total (λ x. x.units) new ≡ total (λ x. x.units) old → All (FitsWords k words) new
    → IsKept k words new
kept_by k words old new h amounts marks units seats = record {
  long = h.long;
  sums = λ w below. h.sums w below ∙ sum_at-views w old ∙ ap (λ x. x % 2 ^ 64) (sym (amounts w))
      ∙ sym (sum_at-views w new);
  bits = λ bit. h.bits bit ∙ times-views bit old ∙ sym (marks bit) ∙ sym (times-views bit new);
  units = units ∙ h.units;
  seats = seats;
}

no_items : {A : Type 0} (xs ys : List A) → xs ≡ [] → ys ≡ [] → xs ++ ys ≡ []
no_items xs ys a b = ap (λ l. l ++ ys) a ∙ b

bare_joined : (v w : View) → IsBare v → IsBare w → IsBare (joined v w)
bare_joined v w a b = record {
  amounts = no_items _ _ a.amounts b.amounts;
  marks = no_items _ _ a.marks b.marks;
  met = no_items _ _ a.met b.met;
}

joined_fits : (k : Layout) (words : List ℕ) (v w : View) → FitsWords k words v
    → FitsWords k words w → FitsWords k words (joined v w)
joined_fits k words v w a b = record {
  marks_inside = All-append (λ c. c < k.bits) v.marks w.marks a.marks_inside b.marks_inside;
  met_inside = All-append (λ c. c < k.bits) v.met w.met a.met_inside b.met_inside;
  met_set = All-append (λ c. bit_of k words c ≡ 1) v.met w.met a.met_set b.met_set;
  idle = λ hollow. bare_joined v w (a.idle (omega arith)) (b.idle (omega arith));
}

-- what two views have, one has
total-joined : (f : View → ℕ) (views : List View) (id other : ℕ) (v w : View) → IsAt views id v
    → IsAt (set views id (joined v w)) other w
    → f (joined v w) ≡ f v + f w → f (bare 0) ≡ 0
    → total f (set (set views id (joined v w)) other (bare 0)) ≡ total f views
total-joined f views id other v w at there both none =
    let a = total-set f views id v (joined v w) at in
    let b = total-set f (set views id (joined v w)) other w (bare 0) there in
    omega arith

pub join_keeps_rule : (k : Layout) (id other : ℕ) (v w : View)
    → Joins (Holds k) id v other w (joined v w) (bare 0)
join_keeps_rule k id other v w s h at apart there =
    let both = joined v w in
    let was : IsAt s.views other w =
    ⊎_elim (λ (x : (other ≡ id) × (both ≡ w)). absurd (apart x.0))
    (λ (x : (other ≢ id) × IsAt s.views other w). x.1) (at_set s.views id other both w there) in
    let fits = joined_fits k s.words v w (All-at (FitsWords k s.words) s.views id v h.seats at)
    (All-at (FitsWords k s.words) s.views other w h.seats was) in
    kept_by k s.words s.views (set (set s.views id both) other (bare 0)) h
    (λ u. total-joined (amount_in u) s.views id other v w at there
    (whole_sum-append u v.amounts w.amounts) refl)
    (λ c. total-joined (marks_in c) s.views id other v w at there (times-append c v.marks w.marks)
    refl)
    (total-joined (λ x. x.units) s.views id other v w at there refl refl)
    (All-set (FitsWords k s.words) (set s.views id both) other (bare 0) (bare_fits k s.words 0)
    (All-set (FitsWords k s.words) s.views id both fits h.seats))

total-split : (f : View → ℕ) (views : List View) (id : ℕ) (v left right : View) → IsAt views id v
    → f left + f right ≡ f v → total f (set views id left ++ right ∷ []) ≡ total f views
total-split f views id v left right at both =
    let a = total-set f views id v left at in
    let b = total-push f (set views id left) right in
    omega arith

pub split_keeps_rule : (k : Layout) (id : ℕ) (v : View) (n : ℕ) → n < v.units
    → Splits (Holds k) id v (with_fewer v n) (bare n)
split_keeps_rule k id v n more s h at =
    let left = with_fewer v n in
    let right = bare n in
    let mine = All-at (FitsWords k s.words) s.views id v h.seats at in
    kept_by k s.words s.views (set s.views id left ++ right ∷ []) h
    (λ u. total-split (amount_in u) s.views id v left right at (omega arith))
    (λ c. total-split (marks_in c) s.views id v left right at (omega arith))
    (total-split (λ x. x.units) s.views id v left right at (omega arith))
    (All-push (FitsWords k s.words) (set s.views id left) right
    (All-set (FitsWords k s.words) s.views id left
    (record {
      marks_inside = mine.marks_inside;
      met_inside = mine.met_inside;
      met_set = mine.met_set;
      idle = λ hollow. absurd (omega arith);
    })
    h.seats)
    (bare_fits k s.words n))

pub opening_keeps_rule : (k : Layout) (n : ℕ) → first_mark_word k + mark_words k.bits ≤ n
    → Holds k (opening {S = ℕ} (replicate n 0) [] (opened k))
opening_keeps_rule k n room = record {
  long = rw length-replicate room;
  sums = λ u below. get_or-replicate_same n u 0;
  bits = λ bit. ap (λ x. bit_at x (bit % 64))
      (get_or-replicate_same n (first_mark_word k + bit / 64) 0)
      ∙ bit_at-zero (bit % 64);
  units = omega arith;
  seats = All-cons (FitsWords k (replicate n 0)) (opened k) []
      (bare_fits k (replicate n 0) k.units) (All-nil (FitsWords k (replicate n 0)));
}
