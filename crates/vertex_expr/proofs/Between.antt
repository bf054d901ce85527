-- What lies between the ends goes to what lies between the results at the ends.
use Rattle.std.proofs.Common.{◌≡◌, ℕ, ℤ, pos, negsuc, zero, suc, neg_ℤ, ◌+◌, ◌/◌, ◌<◌, ◌≤◌, ◌*ℤ◌}
use Rattle.std.proofs.Common.{◌≤ℤ◌, ◌⊎◌, inl, inr, arith}
use Rattle.std.proofs.lemmas.Int.{ints, clamps}
use Rattle.std.proofs.Math.Nat.{mul-le-mul_right, mul-le-mul_left, div-zero, div-mul-le_self}
use Rattle.std.proofs.lemmas.Nat.{le-div}
use Rattle.std.proofs.Math.IntN.{*ℤ_comm}
use borrow.Author.Differences.{up, down}
use Rattle.vertex_expr.specs.Floor.{floor_div, floor_by}
use Rattle.vertex_expr.specs.Span.{Span, IsIn, hull}

-- r lies between p and q, whichever is the greater
pub Between : ℤ → ℤ → ℤ → Type 0
Between p q r = ((p ≤ℤ r) × (r ≤ℤ q)) ⊎ ((q ≤ℤ r) × (r ≤ℤ p))

pub mul_up : (a x : ℤ) (n : ℕ) → a ≤ℤ x → (a *ℤ pos n) ≤ℤ (x *ℤ pos n)
mul_up a x n h =
    let apart : up a + down x ≤ up x + down a = omega (arith, ints) in
    omega (arith, ints, mul-le-mul_right n apart)

pub mul_down : (a x : ℤ) (n : ℕ) → a ≤ℤ x → (x *ℤ negsuc n) ≤ℤ (a *ℤ negsuc n)
mul_down a x n h =
    let apart : up a + down x ≤ up x + down a = omega (arith, ints) in
    omega (arith, ints, mul-le-mul_right (suc n) apart)

pub mul_between : (a b x y : ℤ) → a ≤ℤ x → x ≤ℤ b → Between (a *ℤ y) (b *ℤ y) (x *ℤ y)
unfolding Between
mul_between a b x (pos n) l h = inl (mul_up a x n l, mul_up x b n h)
mul_between a b x (negsuc n) l h = inr (mul_down x b n h, mul_down a x n l)

pub mul_between_right : (c d x y : ℤ) → c ≤ℤ y → y ≤ℤ d → Between (x *ℤ c) (x *ℤ d) (x *ℤ y)
mul_between_right c d x y l h = rw (*ℤ_comm x c, *ℤ_comm x d, *ℤ_comm x y) (mul_between c d y x l h)

-- ---- the floor of a quotient

pub div_up : (m n d : ℕ) → m ≤ n → m / d ≤ n / d
div_up m n zero h = omega (arith, div-zero m, div-zero n)
div_up m n (suc d) h = le-div (m / suc d) n (suc d) (omega arith)
    (omega (arith, div-mul-le_self m (suc d)))

pub floor_up : (a x : ℤ) (d : ℕ) → a ≤ℤ x → floor_by a d ≤ℤ floor_by x d
floor_up (pos a) (pos x) d h = let le : a / d ≤ x / d = div_up a x d (omega (arith, ints)) in omega
    (arith, ints)
floor_up (pos a) (negsuc x) d h = absurd (omega (arith, ints))
floor_up (negsuc a) (pos x) d h = omega (arith, ints)
floor_up (negsuc a) (negsuc x) d h = let le : x / d ≤ a / d = div_up x a d (omega (arith, ints)) in
    omega (arith, ints)

pub neg_down : (a x : ℤ) → a ≤ℤ x → neg_ℤ x ≤ℤ neg_ℤ a
neg_down a x h = omega (arith, ints)

-- at any divisor
pub floor_between : (a b x y : ℤ) → a ≤ℤ x → x ≤ℤ b
    → Between (floor_div a y) (floor_div b y) (floor_div x y)
unfolding Between
floor_between a b x (pos d) l h = inl (floor_up a x d l, floor_up x b d h)
floor_between a b x (negsuc d) l h = inr (
  floor_up (neg_ℤ b) (neg_ℤ x) (suc d) (neg_down x b h),
  floor_up (neg_ℤ x) (neg_ℤ a) (suc d)
      (neg_down a x l),
)

-- a greater divisor gives less
pub div_less : (m c d : ℕ) → 0 < c → c ≤ d → m / d ≤ m / c
div_less m c d h l = le-div (m / d) m c h
    (omega (arith, div-mul-le_self m d, mul-le-mul_left (m / d) l))

-- from c to d, both above 0
pub floor_between_pos : (x : ℤ) (c d y : ℕ) → 0 < c → c ≤ y → y ≤ d
    → Between (floor_by x c) (floor_by x d) (floor_by x y)
unfolding Between
floor_between_pos (pos x) c d y p l h =
    let lo : x / d ≤ x / y = div_less x y d (omega arith) h in
    let hi : x / y ≤ x / c = div_less x c y p l in
    inr (omega (arith, ints), omega (arith, ints))
floor_between_pos (negsuc x) c d y p l h =
    let lo : x / d ≤ x / y = div_less x y d (omega arith) h in
    let hi : x / y ≤ x / c = div_less x c y p l in
    inl (omega (arith, ints), omega (arith, ints))

-- what lies between two numbers of an interval is of the interval
pub between_in : (s : Span) (p q r : ℤ) → IsIn s p → IsIn s q → Between p q r → IsIn s r
unfolding Between
between_in s p q r hp hq (inl b) = let a = hp.above in let c = hq.below in record {
  above = omega (arith, ints, b.0);
  below = omega (arith, ints, b.1);
}
between_in s p q r hp hq (inr b) = let a = hq.above in let c = hp.below in record {
  above = omega (arith, ints, b.0);
  below = omega (arith, ints, b.1);
}

-- each of the four is in their hull
pub in_hull : (p q r s : ℤ) → IsIn (hull p q r s) p × IsIn (hull p q r s) q × IsIn (hull p q r s) r
    × IsIn (hull p q r s) s
in_hull p q r s = (
  record { above = omega (arith, ints, clamps); below = omega (arith, ints, clamps) },
  record { above = omega (arith, ints, clamps); below = omega (arith, ints, clamps) },
  record { above = omega (arith, ints, clamps); below = omega (arith, ints, clamps) },
  record { above = omega (arith, ints, clamps); below = omega (arith, ints, clamps) },
)

between_flip : (p q r : ℤ) → Between p q r → Between q p r
unfolding Between
between_flip p q r (inl b) = inr b
between_flip p q r (inr b) = inl b

above_zero : (c : ℕ) → (c ≡ 0 → ⊥) → 0 < c
above_zero c h = omega arith

-- at divisors from c to d that leave out 0
pub floor_between_right : (x c d y : ℤ) → c ≤ℤ y → y ≤ℤ d → (((c ≤ℤ pos 0) × (pos 0 ≤ℤ d)) → ⊥)
    → Between (floor_div x c) (floor_div x d) (floor_div x y)
floor_between_right x (pos c) (pos d) (pos y) l h miss =
    floor_between_pos x c d y (above_zero c (λ e. miss (omega (arith, ints), omega (arith, ints))))
    (omega (arith, ints)) (omega (arith, ints))
floor_between_right x (negsuc c) (negsuc d) (negsuc y) l h miss =
    between_flip _ _ _ (floor_between_pos (neg_ℤ x) (suc d) (suc c) (suc y) (omega arith)
    (omega (arith, ints)) (omega (arith, ints)))
floor_between_right x (negsuc c) (pos d) y l h miss = absurd
    (miss (omega (arith, ints), omega (arith, ints)))
floor_between_right x (pos c) (negsuc d) y l h miss = absurd (omega (arith, ints))
floor_between_right x (pos c) (pos d) (negsuc y) l h miss = absurd (omega (arith, ints))
floor_between_right x (negsuc c) (negsuc d) (pos y) l h miss = absurd (omega (arith, ints))

-- ---- from the four ends
pub times_in : (s t : Span) (x y : ℤ) → IsIn s x → IsIn t y
    → IsIn (hull (s.low *ℤ t.low) (s.low *ℤ t.high) (s.high *ℤ t.low) (s.high *ℤ t.high)) (x *ℤ y)
times_in s t x y hx hy =
    let four = in_hull (s.low *ℤ t.low) (s.low *ℤ t.high) (s.high *ℤ t.low) (s.high *ℤ t.high) in
    let lo : Between (s.low *ℤ t.low) (s.low *ℤ t.high) (s.low *ℤ y) = mul_between_right t.low
    t.high s.low y hy.above hy.below in
    let hi : Between (s.high *ℤ t.low) (s.high *ℤ t.high) (s.high *ℤ y) = mul_between_right t.low
    t.high s.high y hy.above hy.below in
    between_in _ _ _ _ (between_in _ _ _ _ four.0 four.1 lo) (between_in _ _ _ _ four.2 four.3 hi)
    (mul_between s.low s.high x y hx.above hx.below)

pub over_in : (s t : Span) (x y : ℤ) → IsIn s x → IsIn t y → (IsIn t (pos 0) → ⊥)
    → IsIn (hull (floor_div s.low t.low) (floor_div s.low t.high) (floor_div s.high t.low)
    (floor_div s.high t.high)) (floor_div x y)
over_in s t x y hx hy miss =
    let apart : ((t.low ≤ℤ pos 0) × (pos 0 ≤ℤ t.high))
    → ⊥ = λ p. miss (record { above = p.0; below = p.1 }) in
    let four = in_hull (floor_div s.low t.low) (floor_div s.low t.high) (floor_div s.high t.low)
    (floor_div s.high t.high) in
    let lo = floor_between_right s.low t.low t.high y hy.above hy.below apart in
    let hi = floor_between_right s.high t.low t.high y hy.above hy.below apart in
    between_in _ _ _ _ (between_in _ _ _ _ four.0 four.1 lo) (between_in _ _ _ _ four.2 four.3 hi)
    (floor_between s.low s.high x y hx.above hx.below)
