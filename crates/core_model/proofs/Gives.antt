-- What a list of additions gives to a word.
use Rattle.std.proofs.Common.{◌≡◌, ℕ, zero, suc, ◌+◌, ◌%◌, ◌^◌, ◌<◌, eqb, List, [], ◌∷◌, ◌++◌, Some}
use Rattle.std.proofs.Common.{filter, set, length, refl, sym, ap, ◌∙◌, subst, arith, inl, inr}
use Rattle.std.specs.Prelude.{slice_get, sum_by}
use Rattle.std.specs.List.{All}
use Rattle.std.proofs.lemmas.Bool.{eq-eqb, ne_eqb, cases_eq}
use Rattle.std.proofs.lemmas.List.{get_or-set_same, get_or-set_other}
use Rattle.std.proofs.lemmas.List.Elements.{All-append, All-head, All-rest, filter-append}
use Rattle.std.proofs.lemmas.List.Sums.{sum_by-append}
use Rattle.std.proofs.Math.Nat.{add-mod, add-mod-mod}
use Rattle.bolt_base.specs.Residue.{Amount, sum_at}
use Rattle.range_check.proofs.BreakLists.{all_left as All-left, all_right as All-right}
use Rattle.core_model.specs.Iterations.{all_left, word_in}
use Rattle.core_model.specs.Machine.{added_to}

-- the sum of the amounts for a word
abbrev pub gives : ℕ → List Amount → ℕ
gives w xs = sum_by (λ a. a.amount) (filter (λ a. eqb a.word w) xs)

gives-append : (w : ℕ) (xs ys : List Amount) → gives w (xs ++ ys) ≡ gives w xs + gives w ys
gives-append w xs ys =
    ap (sum_by (λ (a : Amount). a.amount)) (filter-append (λ (a : Amount). eqb a.word w) xs ys)
    ∙ sum_by-append (λ (a : Amount). a.amount) (filter (λ (a : Amount). eqb a.word w) xs)
    (filter (λ (a : Amount). eqb a.word w) ys)

gives_here : (a : Amount) → gives a.word (a ∷ []) ≡ a.amount
gives_here a = rw (eq-eqb a.word a.word refl) (omega arith)

gives_elsewhere : (w : ℕ) (a : Amount) → (a.word ≡ w → ⊥) → gives w (a ∷ []) ≡ 0
gives_elsewhere w a apart = rw (ne_eqb a.word w apart) refl

-- the first addition of a piece is no longer left
pub gives_less : (w : ℕ) (left : List (List Amount)) (k : ℕ) (a : Amount) (rest : List Amount)
    → slice_get left k ≡ Some (a ∷ rest)
    → gives w (all_left left) ≡ gives w (a ∷ []) + gives w (all_left (set left k rest))
gives_less w [] k a rest here = cc
gives_less w (x ∷ xs) zero a rest here =
    let is : x ≡ a ∷ rest = cc in
    let first = gives-append w (a ∷ []) rest in
    let before = gives-append w (a ∷ rest) (all_left xs) in
    let after = gives-append w rest (all_left xs) in
    ap (λ (l : List Amount). gives w (l ++ all_left xs)) is ∙ omega arith
gives_less w (x ∷ xs) (suc k) a rest here =
    let later = gives_less w xs k a rest here in
    let before = gives-append w x (all_left xs) in
    let after = gives-append w x (all_left (set xs k rest)) in
    omega arith

-- what holds of all additions that are left holds of this one, and of the others
pub left_still : (P : Amount → Type 0) (left : List (List Amount)) (k : ℕ) (a : Amount)
    (rest : List Amount) → slice_get left k ≡ Some (a ∷ rest) → All P (all_left left)
    → P a × All P (all_left (set left k rest))
left_still P [] k a rest here all = cc
left_still P (x ∷ xs) zero a rest here all =
    let is : x ≡ a ∷ rest = cc in
    let front = All-left P x (all_left xs) all in
    let back = All-right P x (all_left xs) all in (
      All-head P a rest (subst (All P) is front),
      All-append P rest (all_left xs) (All-rest P a rest x is front) back,
    )
left_still P (x ∷ xs) (suc k) a rest here all =
    let later = left_still P xs k a rest here (All-right P x (all_left xs) all) in
    (later.0, All-append P x (all_left (set xs k rest)) (All-left P x (all_left xs) all) later.1)

-- a word and what is given to it stay the same number when an addition is made
moved : (x y z : ℕ) → ((x + y) % 2 ^ 64 + z % 2 ^ 64) % 2 ^ 64 ≡ (x + (y + z) % 2 ^ 64) % 2 ^ 64
moved x y z =
    sym (add-mod (x + y) z (2 ^ 64))
    ∙ ap (λ n. n % 2 ^ 64) (let e : x + y + z ≡ x + (y + z) = omega arith in e)
    ∙ sym (add-mod-mod x (y + z) (2 ^ 64))

pub word_and_left : (words : List ℕ) (left : List (List Amount)) (k : ℕ) (a : Amount)
    (rest : List Amount) (w : ℕ) → slice_get left k ≡ Some (a ∷ rest) → a.word < length words
    → (word_in (added_to words a) w + sum_at w (all_left (set left k rest))) % 2 ^ 64
    ≡ (word_in words w + sum_at w (all_left left)) % 2 ^ 64
word_and_left words left k a rest w here there =
    let now : ℕ = (word_in words a.word + a.amount) % 2 ^ 64 in
    let others : List Amount = all_left (set left k rest) in
    let less = gives_less w left k a rest here in
    elim (cases_eq a.word w) [
      | inl same ↦
          let gave : gives w (a ∷ []) ≡ a.amount = ap (λ v. gives v (a ∷ [])) (sym same)
          ∙ gives_here a in
          ap (λ v. (word_in (added_to words a) v + sum_at w others) % 2 ^ 64) (sym same)
          ∙ ap (λ n. (n + sum_at w others) % 2 ^ 64)
          (get_or-set_same words a.word now 0 there)
          ∙ moved (word_in words a.word) a.amount (gives w others)
          ∙ ap (λ n. (word_in words a.word + n % 2 ^ 64) % 2 ^ 64)
          (let e : a.amount + gives w others ≡ gives w (all_left left) = omega arith in e)
          ∙ ap (λ v. (word_in words v + sum_at w (all_left left)) % 2 ^ 64) same
      | inr apart ↦
          let gave = gives_elsewhere w a apart in
          ap (λ n. (n + sum_at w others) % 2 ^ 64)
          (get_or-set_other words a.word w now 0 (λ e. apart (sym e)))
          ∙ ap (λ n. (word_in words w + n % 2 ^ 64) % 2 ^ 64)
          (let e : gives w others ≡ gives w (all_left left) = omega arith in e)
    ]
