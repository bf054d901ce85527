-- On a safe box every node of an expression is sound.
use Rattle.std.proofs.Common.{◌≡◌, ◌≢◌, ℤ, pos, ◌+ℤ◌, ◌-ℤ◌, List, Bool, true, false, if◌then◌else◌}
use Rattle.std.proofs.Common.{Option, Some, None, arith, refl, subst}
use Rattle.std.specs.Prelude.{IsSome, unwrap_or}
use Rattle.std.specs.Int.{int_min, int_max}
use Rattle.std.proofs.lemmas.Int.{ints, clamps}
use Rattle.vertex_expr.specs.declared.env.Env.{Env}
use Rattle.vertex_expr.specs.Box.{Bounds, InBounds, box}
use Rattle.vertex_expr.specs.Meaning.{ev, holds}
use Rattle.vertex_expr.specs.Safe.{EachNode, IsSafe, IsSound, zero_divisor, width_break}
use Rattle.vertex_expr.specs.Span.{Span, only, IsIn, IsInAny, IsSmall, holds_zero, least_span}
use Rattle.vertex_expr.specs.Span.{greatest_span, joined}
use Rattle.vertex_expr.specs.Tree.{Tree, literal, param, val, outdeg, weight, attr, id, agg, old}
use Rattle.vertex_expr.specs.Tree.{plus, minus, times, over, least, greatest, clamp, choose}
use Rattle.vertex_expr.proofs.Between.{times_in, over_in}
use Rattle.vertex_expr.proofs.SpanLemmas.{narrow_unbroken, zero_test, small_in}

-- ---- one operation

plus_in : (s t : Span) (x y : ℤ) → IsIn s x → IsIn t y
    → IsIn (record { low = s.low +ℤ t.low; high = s.high +ℤ t.high }) (x +ℤ y)
plus_in s t x y i j = let a = i.above in let b = i.below in let c = j.above in let d = j.below in
    record { above = omega (arith, ints); below = omega (arith, ints) }

minus_in : (s t : Span) (x y : ℤ) → IsIn s x → IsIn t y
    → IsIn (record { low = s.low -ℤ t.high; high = s.high -ℤ t.low }) (x -ℤ y)
minus_in s t x y i j = let a = i.above in let b = i.below in let c = j.above in let d = j.below in
    record { above = omega (arith, ints); below = omega (arith, ints) }

least_in : (s t : Span) (x y : ℤ) → IsIn s x → IsIn t y → IsIn (least_span s t) (int_min x y)
least_in s t x y i j = let a = i.above in let b = i.below in let c = j.above in let d = j.below in
    record { above = omega (arith, ints, clamps); below = omega (arith, ints, clamps) }

greatest_in : (s t : Span) (x y : ℤ) → IsIn s x → IsIn t y → IsIn (greatest_span s t) (int_max x y)
greatest_in s t x y i j = let a = i.above in let b = i.below in let c = j.above in let d = j.below
    in record { above = omega (arith, ints, clamps); below = omega (arith, ints, clamps) }

either_in : (s t : Span) (x y : ℤ) (b : Bool) → IsIn s x → IsIn t y
    → IsIn (joined s t) (if b then x else y)
either_in s t x y true i j = let a = i.above in let b = i.below in record {
  above = omega (arith, ints, clamps);
  below = omega (arith, ints, clamps);
}
either_in s t x y false i j = let a = j.above in let b = j.below in record {
  above = omega (arith, ints, clamps);
  below = omega (arith, ints, clamps);
}

only_in : (x : ℤ) → IsIn (only x) x
only_in x = record { above = omega (arith, ints); below = omega (arith, ints) }

-- what is known lies in its interval
known_in : (o : Option Span) (x : ℤ) (d : Span) → IsSome o → IsInAny o x → IsIn (unwrap_or o d) x
known_in (Some s) x d k i = i
known_in None x d k i = absurd (cc k)

not_zero : (s : Span) (y : ℤ) → (IsIn s (pos 0) → ⊥) → IsIn s y → y ≢ pos 0
not_zero s y miss i e = miss (subst (IsIn s) e i)

-- ---- the two causes of a break

divides_by : (b : Bool) (s : Span) → (if b then Some zero_divisor else width_break s) ≡ None
    → (b ≡ false) × (width_break s ≡ None)
divides_by true s e = absurd (cc e)
divides_by false s e = (refl, e)

-- ---- the root of an expression

pub at_root : (P : Tree → Type 0) (t : Tree) → EachNode P t → P t
at_root P (literal x) h = h
at_root P (param k) h = h
at_root P (val k) h = h
at_root P outdeg h = h
at_root P weight h = h
at_root P attr h = h
at_root P id h = h
at_root P (agg k) h = h
at_root P (old k) h = h
at_root P (plus x y) h = h.2
at_root P (minus x y) h = h.2
at_root P (times x y) h = h.2
at_root P (over x y) h = h.2
at_root P (least x y) h = h.2
at_root P (greatest x y) h = h.2
at_root P (clamp x y z) h = h.3
at_root P (choose c p q x y) h = h.4

-- what the root's value is
inside_at : (ps : List ℤ) (b : Bounds) (n : Env) (t : Tree) → EachNode (IsSound ps b n) t
    → IsIn (box ps b t) (ev ps n t)
inside_at ps b n t h = let r = at_root (IsSound ps b n) t h in r.inside

pub small_at : (ps : List ℤ) (b : Bounds) (n : Env) (t : Tree) → EachNode (IsSound ps b n) t
    → IsSmall (ev ps n t)
small_at ps b n t h = let r = at_root (IsSound ps b n) t h in r.small

-- a value in an interval that is no break is small
node_small : (ps : List ℤ) (b : Bounds) (n : Env) (t : Tree) → width_break (box ps b t) ≡ None
    → IsIn (box ps b t) (ev ps n t) → IsSmall (ev ps n t)
node_small ps b n t w i = small_in _ _ (narrow_unbroken _ w) i

pub safe_is_sound : (ps : List ℤ) (b : Bounds) (n : Env) → InBounds b n → (t : Tree) → IsSafe ps b t
    → EachNode (IsSound ps b n) t
safe_is_sound ps b n h (literal x) s = let i = only_in x in record {
  inside = i;
  small = node_small ps b n (literal x) s.unbroken i;
  divides = tt;
}
safe_is_sound ps b n h (param k) s = let i = only_in _ in record {
  inside = i;
  small = node_small ps b n (param k) s.unbroken i;
  divides = tt;
}
safe_is_sound ps b n h (val k) s = let i = h.val.each k s.known in record {
  inside = i;
  small = node_small ps b n (val k) s.unbroken i;
  divides = tt;
}
safe_is_sound ps b n h outdeg s = let i = known_in b.outdeg _ _ s.known h.outdeg in record {
  inside = i;
  small = node_small ps b n outdeg s.unbroken i;
  divides = tt;
}
safe_is_sound ps b n h weight s = let i = known_in b.weight _ _ s.known h.weight in record {
  inside = i;
  small = node_small ps b n weight s.unbroken i;
  divides = tt;
}
safe_is_sound ps b n h attr s = record {
  inside = h.attr;
  small = node_small ps b n attr s.unbroken h.attr;
  divides = tt;
}
safe_is_sound ps b n h id s = record {
  inside = h.id;
  small = node_small ps b n id s.unbroken h.id;
  divides = tt;
}
safe_is_sound ps b n h (agg k) s = let i = h.agg.each k s.known in record {
  inside = i;
  small = node_small ps b n (agg k) s.unbroken i;
  divides = tt;
}
safe_is_sound ps b n h (old k) s = let i = h.old.each k s.known in record {
  inside = i;
  small = node_small ps b n (old k) s.unbroken i;
  divides = tt;
}
safe_is_sound ps b n h (plus x y) s =
    let p = safe_is_sound ps b n h x s.0 in
    let q = safe_is_sound ps b n h y s.1 in
    let i = plus_in _ _ _ _ (inside_at ps b n x p) (inside_at ps b n y q) in
    (p, q, record { inside = i; small = node_small ps b n (plus x y) s.2.unbroken i; divides = tt })
safe_is_sound ps b n h (minus x y) s =
    let p = safe_is_sound ps b n h x s.0 in
    let q = safe_is_sound ps b n h y s.1 in
    let i = minus_in _ _ _ _ (inside_at ps b n x p) (inside_at ps b n y q) in (
      p,
      q,
      record {
        inside = i;
        small = node_small ps b n (minus x y) s.2.unbroken i;
        divides = tt;
      },
    )
safe_is_sound ps b n h (times x y) s =
    let p = safe_is_sound ps b n h x s.0 in
    let q = safe_is_sound ps b n h y s.1 in
    let i = times_in _ _ _ _ (inside_at ps b n x p) (inside_at ps b n y q) in (
      p,
      q,
      record {
        inside = i;
        small = node_small ps b n (times x y) s.2.unbroken i;
        divides = tt;
      },
    )
safe_is_sound ps b n h (over x y) s =
    let p = safe_is_sound ps b n h x s.0 in
    let q = safe_is_sound ps b n h y s.1 in
    let both = divides_by (holds_zero (box ps b y)) (box ps b (over x y)) s.2.unbroken in
    let miss : IsIn (box ps b y) (pos 0)
    → ⊥ = λ z. let e = zero_test _ z in let f = both.0 in cc (e, f) in
    let i = over_in _ _ _ _ (inside_at ps b n x p) (inside_at ps b n y q) miss in (
      p,
      q,
      record {
        inside = i;
        small = node_small ps b n (over x y) both.1 i;
        divides = not_zero _ _ miss (inside_at ps b n y q);
      },
    )
safe_is_sound ps b n h (least x y) s =
    let p = safe_is_sound ps b n h x s.0 in
    let q = safe_is_sound ps b n h y s.1 in
    let i = least_in _ _ _ _ (inside_at ps b n x p) (inside_at ps b n y q) in (
      p,
      q,
      record {
        inside = i;
        small = node_small ps b n (least x y) s.2.unbroken i;
        divides = tt;
      },
    )
safe_is_sound ps b n h (greatest x y) s =
    let p = safe_is_sound ps b n h x s.0 in
    let q = safe_is_sound ps b n h y s.1 in
    let i = greatest_in _ _ _ _ (inside_at ps b n x p) (inside_at ps b n y q) in (
      p,
      q,
      record {
        inside = i;
        small = node_small ps b n (greatest x y) s.2.unbroken i;
        divides = tt;
      },
    )
safe_is_sound ps b n h (clamp x y z) s =
    let p = safe_is_sound ps b n h x s.0 in
    let q = safe_is_sound ps b n h y s.1 in
    let r = safe_is_sound ps b n h z s.2 in
    let i = greatest_in _ _ _ _ (inside_at ps b n y q)
    (least_in _ _ _ _ (inside_at ps b n x p) (inside_at ps b n z r)) in (
      p,
      q,
      r,
      record {
        inside = i;
        small = node_small ps b n (clamp x y z) s.3.unbroken i;
        divides = tt;
      },
    )
safe_is_sound ps b n h (choose c u v x y) s =
    let o = safe_is_sound ps b n h u s.0 in
    let p = safe_is_sound ps b n h v s.1 in
    let q = safe_is_sound ps b n h x s.2 in
    let r = safe_is_sound ps b n h y s.3 in
    let i = either_in _ _ _ _ (holds c (ev ps n u) (ev ps n v)) (inside_at ps b n x q)
    (inside_at ps b n y r) in (
      o,
      p,
      q,
      r,
      record {
        inside = i;
        small = node_small ps b n (choose c u v x y) s.4.unbroken i;
        divides = tt;
      },
    )
