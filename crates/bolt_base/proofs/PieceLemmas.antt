-- How pieces lie beside each other.
use Rattle.std.proofs.Common.{◌≡◌, ℕ, ◌+◌, ◌-◌, ◌*◌, ◌/◌, ◌<◌, ◌≤◌, List, ◌++◌, length, take, drop}
use Rattle.std.proofs.Common.{sym, ap, ◌∙◌, arith, length-take, length-drop}
use Rattle.std.proofs.lemmas.List.{drop-drop, take_all}
use Rattle.std.proofs.Math.Nat.{mul-le-mul_right, le_trans, div-mul-le_self, zero-mul, zero-div}
use Rattle.std.proofs.Math.Nat.{mul-div_cancel_left}
use Rattle.std.proofs.Math.Seq.{take-add}
use Rattle.std.proofs.lemmas.Nat.{le-div}
use Rattle.bolt_base.specs.Pieces.{cut, pieces}

pub cut-mono : (p q t w : ℕ) → 0 < w → p ≤ q → cut p t w ≤ cut q t w
cut-mono p q t w some h = le-div (p * t / w) (q * t) w some
    (le_trans (div-mul-le_self (p * t) w) (mul-le-mul_right t h))

pub cut_first : (t w : ℕ) → cut 0 t w ≡ 0
cut_first t w = ap (λ (n : ℕ). n / w) (zero-mul t) ∙ zero-div w

pub cut_last : (t w : ℕ) → 0 < w → cut w t w ≡ t
cut_last t w some = mul-div_cancel_left t some

pub cut_within : (p t w : ℕ) → 0 < w → p ≤ w → cut p t w ≤ t
cut_within p t w some h = let most = cut-mono p w t w some h in let all = cut_last t w some in
    omega arith

-- two runs of pieces side by side are one
pub pieces-append : {X : Type 0} (xs : List X) (w p q r : ℕ) → 0 < w → p ≤ q → q ≤ r
    → pieces xs w p q ++ pieces xs w q r ≡ pieces xs w p r
pieces-append xs w p q r some pq qr =
    let t = length xs in
    let x = cut p t w in
    let y = cut q t w in
    let z = cut r t w in
    let lo : x ≤ y = cut-mono p q t w some pq in
    let hi : y ≤ z = cut-mono q r t w some qr in
    let e : (y - x) + (z - y) ≡ z - x = omega arith in
    let d : x + (y - x) ≡ y = omega arith in
    ap (λ l. take (y - x) (drop x xs) ++ take (z - y) l)
    (ap (λ n. drop n xs) (sym d) ∙ sym (drop-drop (y - x) x xs))
    ∙ sym (take-add (y - x) (z - y) (drop x xs)) ∙ ap (λ n. take n (drop x xs)) e

-- all pieces are all items
pub pieces-whole : {X : Type 0} (xs : List X) (w : ℕ) → 0 < w → pieces xs w 0 w ≡ xs
pieces-whole xs w some =
    ap (λ (n : ℕ). take (cut w (length xs) w - n) (drop n xs)) (cut_first (length xs) w)
    ∙ ap (λ (n : ℕ). take (n - 0) xs) (cut_last (length xs) w some)
    ∙ take_all (length xs - 0) xs (omega arith)

pub length-pieces : {X : Type 0} (xs : List X) (w p q : ℕ) → 0 < w → q ≤ w
    → length (pieces xs w p q) ≡ cut q (length xs) w - cut p (length xs) w
length-pieces xs w p q some h =
    let from = cut p (length xs) w in
    let to = cut q (length xs) w in
    let most = cut_within q (length xs) w some h in
    omega (arith, length-take (to - from) (drop from xs), length-drop from xs)
