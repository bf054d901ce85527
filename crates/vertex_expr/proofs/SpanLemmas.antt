-- Intervals and the tests of them.
use Rattle.std.proofs.Common.{◌≡◌, ℤ, pos, Bool, true, false, ◌&&◌, if◌then◌else◌, arith, Some}
use Rattle.std.proofs.Common.{None, refl}
use Rattle.std.specs.Prelude.{int_le, ◌≤ℤ◌}
use Rattle.std.proofs.lemmas.Int.{ints}
use Rattle.vertex_expr.specs.Span.{Span, IsIn, IsSmall, IsNarrow, is_narrow, holds_zero}
use Rattle.vertex_expr.specs.Safe.{too_wide, width_break}

le_true : (a b : ℤ) → int_le a b ≡ true → a ≤ℤ b
le_true a b e = grind (arith, ints)

le_test : (a b : ℤ) → a ≤ℤ b → int_le a b ≡ true
le_test a b h = grind (arith, ints)

and_true : (x y : Bool) → (x && y) ≡ true → (x ≡ true) × (y ≡ true)
and_true true true e = (refl, refl)
and_true true false e = absurd (cc e)
and_true false y e = absurd (cc e)

true_and : (x y : Bool) → x ≡ true → y ≡ true → (x && y) ≡ true
true_and x y e h = cc (e, h)

-- the tests and the facts
pub narrow_true : (s : Span) → is_narrow s ≡ true → IsNarrow s
narrow_true s e = let both = and_true _ _ e in record {
  low = le_true _ _ both.0;
  high = le_true _ _ both.1;
}

pub narrow_test : (s : Span) → IsNarrow s → is_narrow s ≡ true
narrow_test s n = true_and _ _ (le_test _ _ n.low) (le_test _ _ n.high)

pub zero_test : (s : Span) → IsIn s (pos 0) → holds_zero s ≡ true
zero_test s i = true_and _ _ (le_test _ _ i.above) (le_test _ _ i.below)

unless_wide : (b : Bool) → (if b then None else Some too_wide) ≡ None → b ≡ true
unless_wide true e = refl
unless_wide false e = absurd (cc e)

-- a node whose interval is no break is narrow
pub narrow_unbroken : (s : Span) → width_break s ≡ None → IsNarrow s
narrow_unbroken s e = narrow_true s (unless_wide (is_narrow s) e)

-- the number of a narrow interval is small
pub small_in : (s : Span) (x : ℤ) → IsNarrow s → IsIn s x → IsSmall x
small_in s x n i = let a = n.low in let b = n.high in let c = i.above in let d = i.below in record {
  low = omega (arith, ints);
  high = omega (arith, ints);
}
