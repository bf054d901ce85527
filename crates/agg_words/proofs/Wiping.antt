-- A step that clears a mark word keeps the rule.
use Rattle.std.proofs.Common.{◌≡◌, ◌≢◌, ℕ, eq-eqb, ne_eqb, ◌+◌, ◌/◌, ◌%◌, ◌^◌, ◌<◌, ◌≤◌, ◌==◌}
use Rattle.std.proofs.Common.{if◌then◌else◌, List, [], ◌∷◌, length, get_or, set, sym, refl, ap, ◌∙◌}
use Rattle.std.proofs.Common.{subst, arith}
use Rattle.std.proofs.Math.ListN.{length-set}
use Rattle.std.specs.Int.{bit_at}
use Rattle.std.specs.Prelude.{All}
use Rattle.std.proofs.lemmas.Nat.Bits.{bit_at-zero}
use Rattle.std.proofs.lemmas.List.{get_or-set_other}
use Rattle.std.proofs.lemmas.List.Elements.{All-nil, All-cons, All-head, All-tail, All-filter}
use Rattle.std.proofs.lemmas.List.Sums.{sum_by-cons}
use Rattle.std.proofs.lemmas.Grind.{get_or-set_at}
use mathlib.Core.Option.{none}
use mathlib.Core.Logic.{dite, ⊎_elim}
use native.Mathlib.Decide.{ℕ_discrete}
use Rattle.atomic_table.specs.Table.{Me, step, Allows, keeps}
use Rattle.atomic_table.proofs.Lists.{at_set}
use Rattle.agg_words.specs.declared.layout.Layout.{Layout}
use Rattle.agg_words.specs.View.{View, times, outside, without_word}
use Rattle.agg_words.specs.Rule.{FitsWords, IsKept, bit_of, first_mark_word, mark_words}
use Rattle.agg_words.specs.Steps.{wiped}
use Rattle.agg_words.proofs.Views.{total, IsAt, total-set, amount_in, marks_in, sum_at-views}
use Rattle.agg_words.proofs.Views.{times-views, All-at, All-from_at}
use Rattle.agg_words.proofs.Knowing.{Holds, tells_bit, tells_others}

-- what holds of all bits, and outside the mark word says more, says more of those that stay
pub All-outside : (P Q : ℕ → Type 0) (m : ℕ) → ((c : ℕ) → c / 64 ≢ m → P c → Q c) → (bits : List ℕ)
    → All P bits → All Q (outside m bits)
All-outside P Q m more [] all = All-nil Q
All-outside P Q m more (c ∷ bits) all =
    let rest = All-outside P Q m more bits (All-tail P c bits all) in
    dite (ℕ_discrete (c / 64) m)
    (λ e. rw (eq-eqb (c / 64) m e) rest)
    (λ apart. rw (ne_eqb (c / 64) m apart)
    (All-cons Q c (outside m bits) (more c apart (All-head P c bits all)) rest))

-- 1 where a bit is this one
abbrev pub is_bit : ℕ → ℕ → ℕ
is_bit c x = if x == c then 1 else 0

pub apart_is : (c x : ℕ) → x ≢ c → is_bit c x ≡ 0
apart_is c x apart = rw (ne_eqb x c apart) refl

-- how often a bit stands among those that stay
pub times-outside_there : (m c : ℕ) (bits : List ℕ) → c / 64 ≡ m → times c (outside m bits) ≡ 0
times-outside_there m c [] e = refl
times-outside_there m c (x ∷ bits) e =
    let r = times-outside_there m c bits e in
    dite (ℕ_discrete (x / 64) m)
    (λ is. rw (eq-eqb (x / 64) m is) r)
    (λ apart. rw (ne_eqb (x / 64) m apart)
    (sum_by-cons (is_bit c) x (outside m bits)
    ∙ ap (λ n. n + times c (outside m bits))
    (apart_is c x (λ q. apart (ap (λ y. y / 64) q ∙ e))) ∙ (omega arith)))

times-outside_else : (m c : ℕ) (bits : List ℕ) → c / 64 ≢ m
    → times c (outside m bits) ≡ times c bits
times-outside_else m c [] apart = refl
times-outside_else m c (x ∷ bits) apart =
    let r = times-outside_else m c bits apart in
    let whole = sum_by-cons (is_bit c) x bits in
    dite (ℕ_discrete (x / 64) m)
    (λ is. rw (eq-eqb (x / 64) m is)
    (r ∙ sym (whole ∙ ap (λ n. n + times c bits)
    (apart_is c x (λ q. apart (ap (λ y. y / 64) (sym q) ∙ is))) ∙ (omega arith))))
    (λ else_. rw (ne_eqb (x / 64) m else_)
    (sum_by-cons (is_bit c) x (outside m bits) ∙ ap (λ n. is_bit c x + n) r ∙ sym whole))

module _ (k : Layout) (words : List ℕ) (m : ℕ)
    (long : first_mark_word k + mark_words k.bits ≤ length words) (here : m < mark_words k.bits)
  where
    unfoldable pub wiped_words : List ℕ
    wiped_words = set words (first_mark_word k + m) 0

    bit_there : (c : ℕ) → c / 64 ≡ m → bit_of k wiped_words c ≡ 0
    unfolding wiped_words
    bit_there c e =
        ap (λ x. bit_at x (c % 64)) (get_or-set_at words (first_mark_word k + m)
        (first_mark_word k + c / 64) 0 0 (ap (λ x. first_mark_word k + x) e) (omega arith))
        ∙ bit_at-zero (c % 64)

    bit_else : (c : ℕ) → c / 64 ≢ m → bit_of k wiped_words c ≡ bit_of k words c
    unfolding wiped_words
    bit_else c apart = ap (λ x. bit_at x (c % 64))
        (get_or-set_other words (first_mark_word k + m) (first_mark_word k + c / 64) 0 0
        (λ e. apart (omega arith)))

    long_still : first_mark_word k + mark_words k.bits ≤ length wiped_words
    unfolding wiped_words
    long_still = rw (length-set words (first_mark_word k + m) 0) long

    word_still : (u : ℕ) → u < k.words → get_or wiped_words u 0 ≡ get_or words u 0
    unfolding wiped_words
    word_still u below = get_or-set_other words (first_mark_word k + m) u 0 0
        (λ e. absurd (omega arith))

    module _ (views : List View) (id : ℕ) (v : View) (h : IsKept k words views)
        (at : IsAt views id v) (full : v.units ≡ k.units) (some_unit : 0 < k.units) where
      mine : FitsWords k wiped_words (without_word v m)
      mine =
          let f = All-at (FitsWords k words) views id v h.seats at in record {
            marks_inside = All-filter _ (λ c. c < k.bits) v.marks f.marks_inside;
            met_inside = All-filter _ (λ c. c < k.bits) v.met f.met_inside;
            met_set = All-outside (λ c. bit_of k words c ≡ 1) (λ c. bit_of k wiped_words c ≡ 1) m
                (λ c apart one. bit_else c apart ∙ one) v.met f.met_set;
            idle = λ hollow. absurd (omega arith);
          }

      -- each other view is bare
      other : (i : ℕ) (u : View) → i ≢ id → IsAt views i u → FitsWords k wiped_words u
      other i u apart there =
          let b = (tells_others k words views id v h at full i u apart there).1 in record {
            marks_inside = rw b.marks (All-nil (λ c. c < k.bits));
            met_inside = rw b.met (All-nil (λ c. c < k.bits));
            met_set = rw b.met (All-nil (λ c. bit_of k wiped_words c ≡ 1));
            idle = λ _. b;
          }

      wipes_all : IsKept k wiped_words (set views id (without_word v m))
      wipes_all =
          let w = without_word v m in record {
            long = long_still;
            sums = λ u below.
                let t = total-set (amount_in u) views id v w at in
                let e : total (amount_in u) (set views id w)
                ≡ total (amount_in u) views = omega arith in
                word_still u below ∙ h.sums u below ∙ sum_at-views u views
                ∙ ap (λ x. x % 2 ^ 64) (sym e) ∙ sym (sum_at-views u (set views id w));
            bits = λ c.
                let t = total-set (marks_in c) views id v w at in
                let all = tells_bit k words views id v h at full c in
                let old = h.bits c in
                let was = times-views c views in
                let now = times-views c (set views id w) in
                dite (ℕ_discrete (c / 64) m)
                (λ e. let z = bit_there c e in let n = times-outside_there m c v.marks e in omega
                arith)
                (λ apart. let z = bit_else c apart in let n = times-outside_else m c v.marks apart
                in
                omega arith);
            units = let t = total-set (λ x. x.units) views id v w at in let u = h.units in omega
                arith;
            seats = All-from_at (FitsWords k wiped_words) (set views id w) (λ i u there.
                ⊎_elim (λ (e : (i ≡ id) × (w ≡ u)). subst (FitsWords k wiped_words) e.1 mine)
                (λ (e : (i ≢ id) × IsAt views i u). other i u e.0 e.1)
                (at_set views id i w u there));
          }

pub wipe_allowed : (k : Layout) (slots id : ℕ) (me : Me ℕ View) (m : ℕ) → 0 < k.units
    → me.0.units ≡ k.units → m < mark_words k.bits
    → Allows (Holds k) slots id me (first_mark_word k + m) (λ _. 0)
    (wiped m (step slots (first_mark_word k + m) 0 0 none) me)
unfolding wiped_words
wipe_allowed k slots id me m some_unit full here s h homes at fits = (
  without_word me.0 m,
  keeps,
  tt,
  wipes_all k s.words m h.long here s.views id me.0 h at full
      some_unit,
  refl,
)
