-- What the tests evaluate is safe.
use Rattle.std.proofs.Common.{◌≡◌, ℕ, ℤ, pos, zero, suc, ◌<◌, ◌≤◌, ◌≤ℤ◌, List, [], ◌∷◌, refl, arith}
use Rattle.std.proofs.Common.{rules, slice_index_or, neg_ℤ, Some, None, lit<, lit≤}
use Rattle.std.proofs.lemmas.Int.{ints}
use Rattle.std.proofs.lemmas.List.Elements.{All-nil}
use Rattle.vertex_expr.proofs.NodeLemmas.{all_of_one}
use Rattle.vertex_expr.specs.declared.expr.Part.TheVariants.{Init, Contribute, Apply}
use Rattle.vertex_expr.specs.declared.program.LaneRange.{LaneRange}
use Rattle.vertex_expr.specs.Names.{is_name}
use Rattle.vertex_expr.specs.ProgramBounds.{bounds_in}
use Rattle.vertex_expr.specs.Safe.{break_at, IsKnown, IsSafeNode, IsSafe, IsEvaluable}
use Rattle.vertex_expr.specs.Samples.{share, damped, rank, mixed, around}
use Rattle.vertex_expr.specs.Samples.{hand_bounds}
use Rattle.vertex_expr.specs.Span.{Span, only, IsIn, AreIn}
use Rattle.vertex_expr.specs.Tree.{Tree, literal, weight, attr, id, old}
use Rattle.vertex_expr.specs.Writable.{IsWithin, IsRange, IsTextTree, IsWritable, scope_in}

pub is_within : (lo hi n : ℕ) → lo ≤ n → n ≤ hi → IsWithin lo hi n
is_within lo hi n l h = record { least = l; most = h }

abbrev lane : LaneRange
lane = record { lo = pos 0; hi = pos 1000000000000 }

pub rank_writable : IsWritable rank
unfolding is_name
rank_writable = record {
  name = refl;
  limits = record {
    vertices = is_within _ _ _ (lit≤ tt) (lit≤ tt);
    degree = is_within _ _ _ (lit≤ tt) (lit≤ tt);
    edges = is_within _ _ _ (lit≤ tt) (lit≤ tt);
    weight = record { lo_fits = search rules; hi_fits = search rules; order = omega (arith, ints) };
    attr = record { lo_fits = search rules; hi_fits = search rules; order = omega (arith, ints) };
    attr_least = omega (arith, ints);
    attr_most = omega (arith, ints);
  };
  rounds = is_within _ _ _ (lit≤ tt) (lit≤ tt);
  combine = tt;
  few_params = lit≤ tt;
  names = record {
    form = λ k h. absurd (omega (arith, h));
    free = λ k h. absurd (omega (arith, h));
  };
  values = All-nil _;
  lanes = is_within _ _ _ (lit≤ tt) (lit≤ tt);
  ranges = all_of_one (λ r. IsRange r.lo r.hi) lane (record {
    lo_fits = search rules;
    hi_fits = search rules;
    order = omega (arith, ints);
  });
  init = record {
    each_lane = refl;
    fit = all_of_one (IsTextTree (scope_in rank Init)) (literal (pos 1000000)) (record {
      fits = lit< tt;
      few = lit≤ tt;
      shallow = lit≤ tt;
    });
  };
  contribute = record {
    each_lane = refl;
    fit = all_of_one (IsTextTree (scope_in rank Contribute)) share (record {
      fits = ((refl, lit< tt), refl);
      few = lit≤ tt;
      shallow = lit≤ tt;
    });
  };
  apply = record {
    each_lane = refl;
    fit = all_of_one (IsTextTree (scope_in rank Apply)) damped (record {
      fits = ((lit< tt, (((refl, lit< tt), lit< tt), lit< tt)), lit< tt, lit< tt);
      few = lit≤ tt;
      shallow = lit≤ tt;
    });
  };
}

-- one lane, or none
one_in : (s : Span) (x : ℤ) → IsIn s x → (k : ℕ) → k < 1
    → IsIn (slice_index_or (s ∷ []) k (only (pos 0))) (slice_index_or (x ∷ []) k (pos 0))
one_in s x i zero h = i
one_in s x i (suc k) h = absurd (omega (arith, h))

lane_in : (s : Span) (x : ℤ) → IsIn s x → AreIn (s ∷ []) (x ∷ [])
lane_in s x i = record { long = lit≤ tt; each = one_in s x i }

none_in : (xs : List ℤ) → AreIn [] xs
none_in xs = record { long = omega arith; each = λ k h. absurd (omega (arith, h)) }

zero_in : (lo hi : ℤ) → lo ≤ℤ pos 0 → pos 0 ≤ℤ hi → IsIn (record { low = lo; high = hi }) (pos 0)
zero_in lo hi l h = record { above = l; below = h }

-- the environments of the tests of `rank`
pub share_evaluable : (x : ℤ) (d : ℕ) → pos 0 ≤ℤ x → x ≤ℤ pos 1000000000000 → 1 ≤ d → d ≤ 1000000
    → IsEvaluable rank (record {
      val = x ∷ [];
      agg = pos 0 ∷ [];
      old = pos 0 ∷ [];
      outdeg = d;
      weight = pos 1;
      attr = pos 0;
      id = 0;
    }) share
share_evaluable x d xl xh dl dh = record {
  bounds = bounds_in rank Contribute;
  safe = (
    record { known = lit< tt; unbroken = refl },
    record { known = refl; unbroken = refl },
    record { known = tt; unbroken = refl },
  );
  inside = record {
    val = lane_in _ _ (record { above = xl; below = xh });
    agg = none_in _;
    old = none_in _;
    outdeg = record { above = omega (arith, ints, dl); below = omega (arith, ints, dh) };
    weight = record { above = omega (arith, ints); below = omega (arith, ints) };
    attr = zero_in _ _ (omega (arith, ints)) (omega (arith, ints));
    id = zero_in _ _ (omega (arith, ints)) (omega (arith, ints));
  };
}

pub damped_evaluable : (x : ℤ) → pos 0 ≤ℤ x → x ≤ℤ pos 1000000000000000000
    → IsEvaluable rank (record {
      val = pos 0 ∷ [];
      agg = x ∷ [];
      old = pos 0 ∷ [];
      outdeg = 0;
      weight = pos 0;
      attr = pos 0;
      id = 0;
    }) damped
damped_evaluable x xl xh = record {
  bounds = bounds_in rank Apply;
  safe = (
    (
      record { known = tt; unbroken = refl },
      (
        (
          record { known = lit< tt; unbroken = refl },
          record { known = tt; unbroken = refl },
          record { known = tt; unbroken = refl },
        ),
        record { known = tt; unbroken = refl },
        record { known = tt; unbroken = refl },
      ),
      record { known = tt; unbroken = refl },
    ),
    record { known = tt; unbroken = refl },
    record { known = tt; unbroken = refl },
    record { known = tt; unbroken = refl },
  );
  inside = record {
    val = none_in _;
    agg = lane_in _ _ (record { above = xl; below = xh });
    old = lane_in _ _ (zero_in _ _ (omega (arith, ints)) (omega (arith, ints)));
    outdeg = tt;
    weight = tt;
    attr = zero_in _ _ (omega (arith, ints)) (omega (arith, ints));
    id = zero_in _ _ (omega (arith, ints)) (omega (arith, ints));
  };
}

-- a leaf that is known and whose interval computes to a narrow one
safe_leaf : (t : Tree) → IsKnown [] hand_bounds t → break_at [] hand_bounds t ≡ None
    → IsSafeNode [] hand_bounds t
safe_leaf t k u = record { known = k; unbroken = u }

mixed_safe : IsSafe [] hand_bounds mixed
mixed_safe = (
  safe_leaf (old 0) (lit< tt) refl,
  safe_leaf id tt refl,
  (
    safe_leaf (old 0) (lit< tt) refl,
    safe_leaf weight refl refl,
    record { known = tt; unbroken = refl },
  ),
  (safe_leaf id tt refl, safe_leaf attr tt refl, record { known = tt; unbroken = refl }),
  record { known = tt; unbroken = refl },
)

pub in_around : (n x : ℤ) → neg_ℤ n ≤ℤ x → x ≤ℤ n → IsIn (around n) x
in_around n x l h = record { above = l; below = h }

pub mixed_evaluable : (o w : ℤ) → IsIn (around (pos 1000)) o → IsIn (around (pos 1000)) w
    → IsEvaluable rank (record {
      val = pos 0 ∷ [];
      agg = pos 0 ∷ [];
      old = o ∷ [];
      outdeg = 0;
      weight = w;
      attr = pos 5;
      id = 11;
    }) mixed
mixed_evaluable o w i j = record {
  bounds = hand_bounds;
  safe = mixed_safe;
  inside = record {
    val = none_in _;
    agg = none_in _;
    old = lane_in _ _ i;
    outdeg = tt;
    weight = j;
    attr = record { above = omega (arith, ints); below = omega (arith, ints) };
    id = record { above = omega (arith, ints); below = omega (arith, ints) };
  };
}

-- the expression at a place
pub at_place : (t u : Tree) → Some t ≡ Some u → t ≡ u
at_place t u e = cc e
