-- What is left once words are taken and mark words are wiped.
use Rattle.std.proofs.Common.{◌≡◌, ◌≢◌, ℕ, zero, suc, append_assoc, ◌+◌, ◌/◌, ◌%◌, ◌^◌, ◌<◌, ◌≤◌}
use Rattle.std.proofs.Common.{◌==◌, Bool, true, false, not, ◌&&◌, ◌||◌, cond, eq-eqb, List, [], ◌∷◌}
use Rattle.std.proofs.Common.{◌++◌, length, get_or, take, sym, refl, ap, ◌∙◌, subst, arith}
use Rattle.std.proofs.Math.Nat.{mod-add-mod}
use Rattle.std.specs.Prelude.{All, filter}
use Rattle.std.specs.List.{list_any}
use Rattle.std.proofs.lemmas.List.{append-nil}
use Rattle.std.proofs.lemmas.List.Folds.{list_any_more}
use Rattle.std.proofs.lemmas.List.Elements.{All-head, All-tail}
use Rattle.std.proofs.lemmas.List.Sums.{sum_by-cons}
use mathlib.Core.Logic.{dite}
use native.Mathlib.Decide.{ℕ_discrete}
use Rattle.bolt_base.specs.Residue.{Amount, sum_at}
use Rattle.agg_words.specs.declared.layout.Layout.{Layout}
use Rattle.agg_words.specs.View.{View, minus, taken_back, times, outside, outside_all}
use Rattle.agg_words.specs.Known.{IsKnown}
use Rattle.agg_words.specs.Rule.{mark_words}
use Rattle.agg_words.proofs.Adding.{one_amount, same_word, other_word, minus-add}
use Rattle.agg_words.proofs.Views.{whole_sum, whole_sum-append, All-weaker}
use Rattle.agg_words.proofs.Marking.{in_mark_words}
use Rattle.agg_words.proofs.Wiping.{All-outside, is_bit, apart_is}

-- the sum for a word that was taken is 0
pub sum_at-taken : (w : ℕ) (amounts : List Amount)
    → sum_at w (amounts ++ one_amount w (minus (sum_at w amounts))) ≡ 0
sum_at-taken w amounts =
    let sum = whole_sum w amounts in
    let small : sum % 2 ^ 64 < 2 ^ 64 = omega arith in
    ap (λ n. n % 2 ^ 64) (whole_sum-append w amounts (one_amount w (minus (sum % 2 ^ 64)))
    ∙ ap (λ n. sum + n) (same_word w w (minus (sum % 2 ^ 64)) refl))
    ∙ sym (mod-add-mod sum (2 ^ 64) (minus (sum % 2 ^ 64))) ∙ minus-add (sum % 2 ^ 64) small

-- and that for any other word is what it was
pub sum_at-other : (w u n : ℕ) (amounts : List Amount) → u ≢ w
    → sum_at u (amounts ++ one_amount w n) ≡ sum_at u amounts
sum_at-other w u n amounts apart =
    ap (λ x. x % 2 ^ 64) (whole_sum-append u amounts (one_amount w n)
    ∙ (let z = other_word w u n apart in omega arith))

-- taking back the sums for the words below one leaves its own sum
sum_at-taken_back : (n w : ℕ) (amounts more : List Amount) → n ≤ w
    → sum_at w (more ++ taken_back n amounts) ≡ sum_at w more
sum_at-taken_back zero w amounts more past = ap (sum_at w) (append-nil more)
sum_at-taken_back (suc n) w amounts more past =
    ap (sum_at w) (sym (append_assoc more (taken_back n amounts)
    (one_amount n (minus (sum_at n amounts)))))
    ∙ sum_at-other n w (minus (sum_at n amounts)) (more ++ taken_back n amounts)
    (λ e. absurd (omega arith))
    ∙ sum_at-taken_back n w amounts more (omega arith)

-- and the next one is taken back
pub takes_back_next : (w : ℕ) (old now : List Amount) → now ≡ old ++ taken_back w old
    → now ++ one_amount w (minus (sum_at w now)) ≡ old ++ taken_back (w + 1) old
takes_back_next w old now are =
    let same : sum_at w now ≡ sum_at w old = ap (sum_at w) are
    ∙ sum_at-taken_back w w old old (omega arith) in
    let next : suc w ≡ w + 1 = omega arith in
    ap (λ (l : List Amount). l ++ one_amount w (minus (sum_at w now))) are
    ∙ append_assoc old (taken_back w old) (one_amount w (minus (sum_at w now)))
    ∙ ap (λ (n : ℕ). old ++ (taken_back w old ++ one_amount w (minus n))) same
    ∙ ap (λ (n : ℕ). old ++ taken_back n old) next

-- once all words below one are 0, and it is taken, it is 0 too
pub takes_next : (w u : ℕ) (amounts : List Amount) → (u < w → sum_at u amounts ≡ 0) → u < w + 1
    → sum_at u (amounts ++ one_amount w (minus (sum_at w amounts))) ≡ 0
takes_next w u amounts before below =
    dite (ℕ_discrete u w)
    (λ e. ap (λ x. sum_at x (amounts ++ one_amount w (minus (sum_at w amounts)))) e
    ∙ sum_at-taken w amounts)
    (λ apart. sum_at-other w u (minus (sum_at w amounts)) amounts apart ∙ before (omega arith))

-- a bit that stands in a list has what all of its bits have
pub All-times : (P : ℕ → Type 0) (bit : ℕ) (bits : List ℕ) → All P bits → 0 < times bit bits → P bit
All-times P bit [] all there = absurd (omega arith)
All-times P bit (c ∷ bits) all there =
    dite (ℕ_discrete c bit)
    (λ e. subst P e (All-head P c bits all))
    (λ apart. All-times P bit bits (All-tail P c bits all)
    (let s = sum_by-cons (is_bit bit) c bits in let z = apart_is bit c apart in omega arith))

-- bits of a table of n bits, in the mark words from m on
abbrev pub AreFrom : ℕ → ℕ → List ℕ → Type 0
AreFrom m n bits = All (λ c. (c < n) × (m ≤ c / 64)) bits

-- all bits of a seat with all units are such bits from the first mark word on
pub known_from : (k : Layout) (v : View) → IsKnown k v
    → AreFrom 0 k.bits v.marks × AreFrom 0 k.bits v.met
known_from k v known = (
  All-weaker (λ c. c < k.bits) (λ c. (c < k.bits) × (0 ≤ c / 64)) v.marks
      (λ c below. (below, omega arith)) known.inside,
  All-weaker (λ c. 0 < times c v.marks) (λ c. (c < k.bits) × (0 ≤ c / 64)) v.met
      (λ c there. (All-times (λ b. b < k.bits) c v.marks known.inside there, omega arith))
      known.met,
)

-- a wipe leaves those past its mark word
pub from_next : (m n : ℕ) (bits : List ℕ) → AreFrom m n bits → AreFrom (m + 1) n (outside m bits)
from_next m n bits all = All-outside (λ c. (c < n) × (m ≤ c / 64))
    (λ c. (c < n) × (m + 1 ≤ c / 64)) m (λ c apart h. (h.0, let low = h.1 in omega arith)) bits all

-- past the last mark word there is none
pub none_past : (m n : ℕ) (bits : List ℕ) → mark_words n ≤ m → AreFrom m n bits → bits ≡ []
none_past m n [] past all = refl
none_past m n (c ∷ bits) past all =
    let h = All-head (λ c. (c < n) × (m ≤ c / 64)) c bits all in
    let a : c < n = h.0 in
    let b : m ≤ c / 64 = h.1 in
    let i = in_mark_words c n a in
    absurd (omega arith)

filter_both : (p q r : ℕ → Bool) → ((x : ℕ) → r x ≡ (p x && q x)) → (xs : List ℕ)
    → filter q (filter p xs) ≡ filter r xs
filter_both p q r same [] = refl
filter_both p q r same (x ∷ xs) =
    first (p x) (filter p xs)
    ∙ ap (λ l. cond (p x && q x) (x ∷ l) l) (filter_both p q r same xs)
    ∙ ap (λ b. cond b (x ∷ filter r xs) (filter r xs)) (sym (same x))
  where
    first : (b : Bool) (us : List ℕ) → filter q (cond b (x ∷ us) us)
        ≡ cond (b && q x) (x ∷ filter q us) (filter q us)
    first true us = refl
    first false us = refl

not-or : (a b : Bool) → not (a || b) ≡ (not a && not b)
not-or true b = refl
not-or false b = refl

-- where nothing is wiped, all stay
pub outside_nothing : (bits : List ℕ) → outside_all [] bits ≡ bits
outside_nothing [] = refl
outside_nothing (b ∷ bits) = ap (λ l. b ∷ l) (outside_nothing bits)

-- one more mark word is wiped
pub outside_more : (wiped : List ℕ) (i d : ℕ) (bits : List ℕ) → i < length wiped
    → outside (get_or wiped i d / 64) (outside_all (take i wiped) bits)
    ≡ outside_all (take (i + 1) wiped) bits
outside_more wiped i d bits below = filter_both _ _ _
    (λ b. ap not (list_any_more (λ c. b / 64 == c / 64) wiped i d below) ∙ not-or _ _) bits

or-true : (b : Bool) → (b || true) ≡ true
or-true true = refl
or-true false = refl

-- a bit that is wiped lies in one of the mark words
in_wiped : (b : ℕ) (wiped : List ℕ) → 0 < times b wiped
    → list_any (λ c. b / 64 == c / 64) wiped ≡ true
in_wiped b [] there = absurd (omega arith)
in_wiped b (c ∷ cs) there =
    dite (ℕ_discrete c b)
    (λ e. rw (eq-eqb (b / 64) (c / 64) (ap (λ x. x / 64) (sym e))) refl)
    (λ apart. rw (in_wiped b cs (let s = sum_by-cons (is_bit b) c cs in let z = apart_is b c apart
    in omega arith)) (or-true (b / 64 == c / 64)))

-- where all bits are wiped, none is left
pub outside_none : (wiped bits : List ℕ) → All (λ b. 0 < times b wiped) bits
    → outside_all wiped bits ≡ []
outside_none wiped [] all = refl
outside_none wiped (b ∷ bits) all =
    rw (in_wiped b wiped (All-head (λ c. 0 < times c wiped) b bits all))
    (outside_none wiped bits (All-tail (λ c. 0 < times c wiped) b bits all))
