-- The shipped program `rank`, as its text says it.
use Rattle.std.proofs.Common.{◌≡◌, ◌≤◌, ◌∙◌, ◌∷◌, ℕ, pos, true, List, [], length, refl, sym, ap}
use Rattle.std.proofs.Common.{subst, arith, codes}
use Rattle.std.specs.Prelude.{Ok}
use Rattle.std.specs.Fmt.{digits}
use Rattle.std.proofs.lemmas.Int.{ints}
use Rattle.std.proofs.lemmas.List.Elements.{All-nil, All-cons}
use Rattle.vertex_expr.specs.Names.{is_name}
use Rattle.vertex_expr.specs.Tree.{literal, val, outdeg, agg, plus, times, over, clamp}
use Rattle.vertex_expr.specs.Writable.{AreExprs, AreLimits, IsRange, IsTextTree, IsWritable}
use Rattle.vertex_expr.specs.Writable.{scope_in}
use Rattle.vertex_expr.specs.declared.expr.Part.TheVariants.{Init, Contribute, Apply}
use Rattle.vertex_expr.specs.declared.program.Combine.TheVariants.{Sum}
use Rattle.vertex_expr.specs.declared.program.LaneRange.{LaneRange}
use Rattle.vertex_expr.specs.declared.program.ProgramEntries.{ProgramEntries}
use Rattle.vertex_lang.specs.Canonical.{canonical_text}
use Rattle.vertex_lang.specs.ProgramOf.{program_of}
use Rattle.vertex_lang.proofs.WholeRoundTrip.{program_back}
use Rattle.bolt_ship.specs.Texts.{rank_text}
use Rattle.made_runs.specs.Rank.{rank_limits}

abbrev pub rank_program : ProgramEntries
rank_program = record {
  name = codes "rank";
  limits = rank_limits;
  rounds = 10;
  combine = Sum;
  params = [];
  ranges = (record { lo = pos 0; hi = pos 1000000000000 }) ∷ [];
  init = literal (pos 1000000) ∷ [];
  contribute = over (val 0) outdeg ∷ [];
  apply = clamp
      (plus (literal (pos 150000)) (over (times (agg 0) (literal (pos 17))) (literal (pos 20))))
      (literal (pos 0)) (literal (pos 1000000000000)) ∷ [];
}

text_is : canonical_text rank_program ≡ rank_text
unfolding canonical_text digits
text_is = refl

is_named : is_name (codes "rank") ≡ true
unfolding is_name
is_named = refl

wide_range : IsRange rank_limits.weight_lo rank_limits.weight_hi
wide_range = record {
  lo_fits = record { sfits = omega arith };
  hi_fits = record { sfits = omega arith };
  order = omega (arith, ints);
}

limits_fit : AreLimits rank_limits
limits_fit = record {
  vertices = record { least = omega arith; most = omega arith };
  degree = record { least = omega arith; most = omega arith };
  edges = record { least = omega arith; most = omega arith };
  weight = wide_range;
  attr = wide_range;
  attr_least = omega (arith, ints);
  attr_most = omega (arith, ints);
}

lane_range : IsRange (pos 0) (pos 1000000000000)
lane_range = record {
  lo_fits = record { sfits = omega arith };
  hi_fits = record { sfits = omega arith };
  order = omega (arith, ints);
}

init_fits : AreExprs (scope_in rank_program Init) rank_program.init
init_fits =
    let P = IsTextTree (scope_in rank_program Init) in
    record {
      each_lane = refl;
      fit = All-cons P _ []
          (record { fits = omega arith; few = omega arith; shallow = omega arith }) (All-nil P);
    }

contribute_fits : AreExprs (scope_in rank_program Contribute) rank_program.contribute
contribute_fits =
    let P = IsTextTree (scope_in rank_program Contribute) in
    record {
      each_lane = refl;
      fit = All-cons P _ []
          (record {
            fits = ((refl, omega arith), refl);
            few = omega arith;
            shallow = omega arith;
          }) (All-nil P);
    }

apply_fits : AreExprs (scope_in rank_program Apply) rank_program.apply
apply_fits =
    let P = IsTextTree (scope_in rank_program Apply) in
    record {
      each_lane = refl;
      fit = All-cons P _ []
          (record {
            fits = (
              (omega arith, (((refl, omega arith), omega arith), omega arith)),
              omega arith,
              omega arith,
            );
            few = omega arith;
            shallow = omega arith;
          }) (All-nil P);
    }

is_writable : IsWritable rank_program
is_writable = record {
  name = is_named;
  limits = limits_fit;
  rounds = record { least = omega arith; most = omega arith };
  combine = tt;
  few_params = omega arith;
  names = record { form = λ k l. absurd (omega arith); free = λ k l. absurd (omega arith) };
  values = All-nil _;
  lanes = record { least = omega arith; most = omega arith };
  ranges = All-cons (λ (r : LaneRange). IsRange r.lo r.hi) _ [] lane_range (All-nil _);
  init = init_fits;
  contribute = contribute_fits;
  apply = apply_fits;
}

is_short : length rank_text ≤ 65536
is_short = omega arith

-- the text of `rank` is that of this program
pub rank_read : program_of rank_text ≡ Ok rank_program
rank_read =
    let few : length (canonical_text rank_program) ≤ 65536 =
    subst (λ (t : List ℕ). length t ≤ 65536) (sym text_is) is_short in
    ap program_of (sym text_is) ∙ program_back rank_program is_writable few
