-- Values in flat numbers.
use Rattle.std.proofs.Common.{◌≡◌, ℕ, ℤ, pos, zero, suc, ◌+◌, ◌*◌, ◌<◌, ◌≤◌, List, [], ◌∷◌, ◌++◌}
use Rattle.std.proofs.Common.{length, get_or, set, take, drop, refl, sym, ap, ◌∙◌, arith}
use Rattle.std.proofs.Common.{append_assoc}
use Rattle.std.proofs.Common.{length-drop, zero-mul}
use Rattle.std.proofs.Common.{mul-le-mul_right}
use Rattle.std.specs.List.{All, flat_map}
use Rattle.std.proofs.Math.Seq.{set-append_seam}
use Rattle.std.proofs.lemmas.List.{ext_get_or}
use Rattle.std.proofs.lemmas.List.{take-append-le, drop-append-le, drop_at, take_at, take-take}
use Rattle.std.proofs.lemmas.List.{get_or-take, get_or-drop, drop-drop, drop-take, length-take-le}
use Rattle.bolt_base.proofs.ListLemmas.{suc_times}
use Rattle.run_model.specs.Program.{number}
use Rattle.run_model.specs.Rows.{Lists}
use Rattle.run_model.proofs.ByLane.{IsSoFar}
use Rattle.board.specs.Halls.{values_in}

-- each value has this width
abbrev pub AreWide : ℕ → Lists → Type 0
AreWide width values = All (λ xs. length xs ≡ width) values

pub length-values_in : (w n : ℕ) (ws : List ℤ) → length (values_in w n ws) ≡ n
length-values_in w zero ws = refl
length-values_in w (suc n) ws = ap suc (length-values_in w n (drop w ws))

-- a number of a value stands in its place
pub number_in : (w n : ℕ) (ws : List ℤ) (v k : ℕ) → v < n → k < w
    → number (get_or (values_in w n ws) v []) k ≡ get_or ws (v * w + k) (pos 0)
number_in w zero ws v k h i = absurd (omega arith)
number_in w (suc n) ws zero k h i =
    get_or-take w ws k (pos 0) i
    ∙ ap (λ (m : ℕ). get_or ws m (pos 0))
    (let e : k ≡ 0 * w + k = omega (arith, zero-mul w) in e)
number_in w (suc n) ws (suc v) k h i =
    number_in w n (drop w ws) v k (omega arith) i
    ∙ get_or-drop w ws (v * w + k) (pos 0)
    ∙ ap (λ (m : ℕ). get_or ws m (pos 0))
    (let e : w + (v * w + k) ≡ suc v * w + k = omega (arith, suc_times v w) in e)

-- each value is as wide as the places
pub wide_in : (w n : ℕ) (ws : List ℤ) → n * w ≤ length ws → AreWide w (values_in w n ws)
wide_in w zero ws long v d h = absurd (omega arith)
wide_in w (suc n) ws long zero d h =
    length-take-le w ws (omega (arith, suc_times n w))
wide_in w (suc n) ws long (suc v) d h =
    wide_in w n (drop w ws) (omega (arith, suc_times n w, length-drop w ws)) v d (omega arith)

-- numbers written over others, from a place on
abbrev pub overwritten : ℕ → List ℤ → List ℤ → List ℤ
overwritten from x ws = take from ws ++ (x ++ drop (from + length x) ws)

-- a value is written
pub value_overwritten : (w n from : ℕ) (ws : List ℤ) (v : ℕ) (x : List ℤ) → from ≡ v * w → v < n
    → n * w ≤ length ws → length x ≡ w
    → values_in w n (overwritten from x ws) ≡ set (values_in w n ws) v x
value_overwritten w zero from ws v x at low long wide = absurd (omega arith)
value_overwritten w (suc n) from ws zero x at low long wide =
    let none : from ≡ 0 = omega (arith, zero-mul w) in
    let end : 0 + length x ≡ w = omega arith in
    let is : overwritten from x ws ≡ x ++ drop w ws =
    ap (λ (k : ℕ). overwritten k x ws) none ∙ ap (λ (k : ℕ). x ++ drop k ws) end in
    ap (values_in w (suc n)) is
    ∙ (λ i. take_at x (drop w ws) w wide i ∷ values_in w n (drop_at x (drop w ws) w wide i))
value_overwritten w (suc n) from ws (suc v) x at low long wide =
    let next : from ≡ w + v * w = omega (arith, suc_times v w) in
    let room : w + v * w ≤ length ws =
    (let most = mul-le-mul_right {m = suc v} {n = suc n} w (omega arith) in
    omega (arith, suc_times v w)) in
    let first : take w (overwritten (w + v * w) x ws) ≡ take w ws =
    take-append-le w (take (w + v * w) ws) _
    (omega (arith, length-take-le (w + v * w) ws room))
    ∙ take-take w (w + v * w) ws (omega arith) in
    let behind : drop w (overwritten (w + v * w) x ws) ≡ overwritten (v * w) x (drop w ws) =
    drop-append-le w (take (w + v * w) ws) _
    (omega (arith, length-take-le (w + v * w) ws room))
    ∙ (λ i. drop-take w (v * w) ws i ++ (x ++ further i)) in
    ap (λ (k : ℕ). values_in w (suc n) (overwritten k x ws)) next
    ∙ (λ i. first i ∷ values_in w n (behind i))
    ∙ ap (λ (l : Lists). take w ws ∷ l)
    (value_overwritten w n (v * w) (drop w ws) v x refl (omega arith)
    (omega (arith, suc_times n w, length-drop w ws)) wide)
  where
    further : drop (w + v * w + length x) ws ≡ drop (v * w + length x) (drop w ws)
    further =
        let e : w + v * w + length x ≡ w + (v * w + length x) = omega arith in
        ap (λ (k : ℕ). drop k ws) e ∙ sym (drop-drop (v * w + length x) w ws)

-- one value more
pub values_more : (w n : ℕ) (ws : List ℤ)
    → values_in w (n + 1) ws ≡ values_in w n ws ++ take w (drop (n * w) ws) ∷ []
values_more w zero ws =
    ap (λ (k : ℕ). take w (drop k ws) ∷ []) (let e : 0 ≡ 0 * w = omega (arith, zero-mul w) in e)
values_more w (suc n) ws =
    ap (λ (k : ℕ). values_in w k ws) (let e : suc n + 1 ≡ suc (n + 1) = omega arith in e)
    ∙ ap (λ (l : Lists). take w ws ∷ l) (values_more w n (drop w ws))
    ∙ ap (λ (l : List ℤ). take w ws ∷ (values_in w n (drop w ws) ++ take w l ∷ []))
    (drop-drop (n * w) w ws
    ∙ ap (λ (k : ℕ). drop k ws) (let e : w + n * w ≡ suc n * w = omega (arith, suc_times n w) in e))

-- and it is the one that was written
pub value_appended : (w n from : ℕ) (ws : List ℤ) (x : List ℤ) → from ≡ n * w
    → (n + 1) * w ≤ length ws → length x ≡ w
    → values_in w (n + 1) (overwritten from x ws) ≡ values_in w n ws ++ x ∷ []
value_appended w n from ws x at long wide =
    value_overwritten w (n + 1) from ws n x at (omega arith) long wide
    ∙ ap (λ (l : Lists). set l n x) (values_more w n ws)
    ∙ ap (λ (k : ℕ). set (values_in w n ws ++ take w (drop (n * w) ws) ∷ []) k x)
    (sym (length-values_in w n ws))
    ∙ set-append_seam (values_in w n ws) (take w (drop (n * w) ws)) [] x

-- values laid one after another
pub values_laid : (w : ℕ) (values : Lists) (more : List ℤ) → AreWide w values
    → values_in w (length values) (flat_map (λ xs. xs) values ++ more) ≡ values
values_laid w [] more wide = refl
values_laid w (x ∷ xs) more wide =
    let front = append_assoc x (flat_map (λ ys. ys) xs) more in
    let long : length x ≡ w = wide 0 [] (omega arith) in
    ap (values_in w (suc (length xs))) front
    ∙ (λ i. take_at x (flat_map (λ xs. xs) xs ++ more) w long i
    ∷ values_in w (length xs) (drop_at x (flat_map (λ xs. xs) xs ++ more) w long i))
    ∙ ap (λ (l : Lists). x ∷ l)
    (values_laid w xs more (λ k d h. wide (suc k) d (omega arith)))

-- a value whose lanes were copied one by one
pub lanes_are_copied : (w k : ℕ) (xs ys : List ℤ) → length ys ≡ w → IsSoFar (number ys) w k xs
    → w ≤ k → xs ≡ ys
lanes_are_copied w k xs ys wide so past = ext_get_or (pos 0) xs ys (so.long ∙ sym wide)
    (λ j h. let long = so.long in so.below j (omega arith))
