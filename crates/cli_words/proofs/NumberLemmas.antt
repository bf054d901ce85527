-- Numbers digit by digit.
use Rattle.std.proofs.Common.{◌≡◌, ℕ, ◌+◌, ◌-◌, ◌*◌, ◌^◌, ◌<◌, ◌≤◌, List, [], ◌∷◌, take, drop}
use Rattle.std.proofs.Common.{ap, ◌∙◌, subst, sym, arith}
use Rattle.std.proofs.Common.{false, cond, length, Some, None}
use Rattle.std.specs.Prelude.{nat_lt}
use Rattle.std.proofs.lemmas.Bool.{lt-ltb}
use Rattle.std.proofs.lemmas.Bool.Decides.{nat_tests}
use Rattle.std.specs.List.{fold}
use Rattle.std.proofs.lemmas.List.Sums.{fold-append}
use Rattle.std.proofs.lemmas.List.{take-append-drop, take_all}
use Rattle.lexical.specs.Numbers.{decimal_value}
use Rattle.cli_words.specs.Words.{exact_of}

-- more digits make no lesser number
number_grows : (n : ℕ) (digits : List ℕ) → n ≤ fold (λ n b. n * 10 + (b - 48)) n digits
number_grows n [] = omega arith
number_grows n (d ∷ digits) =
    let step : n ≤ n * 10 + (d - 48) = omega arith in
    let rest = number_grows (n * 10 + (d - 48)) digits in
    omega arith

pub front_is_less : (digits : List ℕ) (i : ℕ) → decimal_value (take i digits) ≤ decimal_value digits
front_is_less digits i =
    let whole = fold-append (λ n b. n * 10 + (b - 48)) 0 (take i digits) (drop i digits) in
    let grows = number_grows (decimal_value (take i digits)) (drop i digits) in
    subst (λ ds. decimal_value (take i digits) ≤ decimal_value ds) (take-append-drop i digits)
    (subst (λ n. decimal_value (take i digits) ≤ n) (sym whole) grows)

great_is_no_less : (n m : ℕ) → m ≤ n → nat_lt n m ≡ false
great_is_no_less n m l = grind (arith, nat_tests)

-- a number that is too great at some digit has no value
pub too_great : (digits : List ℕ) (i : ℕ) → 2 ^ 64 ≤ decimal_value (take i digits)
    → exact_of digits ≡ None
too_great digits i big =
    let front = front_is_less digits i in
    let least : 2 ^ 64 ≤ decimal_value digits = omega arith in
    ap (λ b. cond b (Some (decimal_value digits)) None)
    (great_is_no_less (decimal_value digits) (2 ^ 64) least)

-- a number that was read to its end
pub whole_number : (digits : List ℕ) (i n : ℕ) → n ≡ decimal_value (take i digits)
    → length digits ≤ i
    → n < 2 ^ 64 → Some n ≡ exact_of digits
whole_number digits i n is all small =
    let e : n ≡ decimal_value digits = is ∙ ap decimal_value (take_all i digits all) in
    let less : decimal_value digits < 2 ^ 64 = subst (λ v. v < 2 ^ 64) e small in
    ap (λ (v : ℕ). Some v) e
    ∙ sym (ap (λ b. cond b (Some (decimal_value digits)) None)
    (lt-ltb (decimal_value digits) (2 ^ 64) less))
