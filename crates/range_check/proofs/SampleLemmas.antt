-- The programs of the tests are programs.
use Rattle.std.proofs.Common.{ℕ, ℤ, pos, ◌≤◌, ◌≤ℤ◌, refl, arith, rules, lit<, lit≤}
use Rattle.std.proofs.Common.{FitsSigned, w64}
use Rattle.std.proofs.lemmas.Int.{ints}
use Rattle.std.proofs.lemmas.List.Elements.{All-nil}
use Rattle.vertex_expr.proofs.NodeLemmas.{all_of_one}
use Rattle.vertex_expr.proofs.SampleLemmas.{is_within}
use Rattle.vertex_expr.specs.Names.{is_name}
use Rattle.vertex_expr.specs.Tree.{Tree, literal}
use Rattle.vertex_expr.specs.Writable.{IsRange, IsTextTree, IsWritable, scope_in}
use Rattle.vertex_expr.specs.declared.expr.Part.TheVariants.{Init, Contribute, Apply}
use Rattle.range_check.specs.Samples.{apply_scope, base, contribute_scope}

pub base_writable : (degree : ℕ) (weight_lo most : ℤ) (t u : Tree) → 1 ≤ degree → degree ≤ 1000000
    → FitsSigned w64 weight_lo → FitsSigned w64 most → weight_lo ≤ℤ pos 10 → pos 0 ≤ℤ most
    → IsTextTree contribute_scope t → IsTextTree apply_scope u
    → IsWritable (base degree weight_lo most t u)
unfolding is_name
base_writable degree weight_lo most t u some few lo_fits hi_fits weight hi tree applied = record {
  name = refl;
  limits = record {
    vertices = is_within _ _ _ (lit≤ tt) (lit≤ tt);
    degree = is_within _ _ _ some few;
    edges = is_within _ _ _ (lit≤ tt) (lit≤ tt);
    weight = record { lo_fits = lo_fits; hi_fits = search rules; order = weight };
    attr = record { lo_fits = search rules; hi_fits = search rules; order = omega (arith, ints) };
    attr_least = omega (arith, ints);
    attr_most = omega (arith, ints);
  };
  rounds = is_within _ _ _ (lit≤ tt) (lit≤ tt);
  combine = tt;
  few_params = lit≤ tt;
  names = record {
    form = λ k h. absurd (omega (arith, h));
    free = λ k h. absurd (omega (arith, h));
  };
  values = All-nil _;
  lanes = is_within _ _ _ (lit≤ tt) (lit≤ tt);
  ranges = all_of_one (λ r. IsRange r.lo r.hi) (record { lo = pos 0; hi = most })
      (record { lo_fits = search rules; hi_fits = hi_fits; order = hi });
  init = record {
    each_lane = refl;
    fit = all_of_one (IsTextTree (scope_in (base degree weight_lo most t u) Init))
        (literal (pos 0)) (record { fits = lit< tt; few = lit≤ tt; shallow = lit≤ tt });
  };
  contribute = record {
    each_lane = refl;
    fit = all_of_one (IsTextTree (scope_in (base degree weight_lo most t u) Contribute)) t tree;
  };
  apply = record {
    each_lane = refl;
    fit = all_of_one (IsTextTree (scope_in (base degree weight_lo most t u) Apply)) u applied;
  };
}
