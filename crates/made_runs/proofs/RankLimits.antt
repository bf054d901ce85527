-- The limits of the shipped program `rank`.
use Rattle.std.proofs.Common.{◌≡◌, Option, Some, None, Result, Ok, IfOk, ℕ, refl, sym, subst, arith}
use Rattle.std.proofs.lemmas.Int.{ints}
use Rattle.text_words.specs.declared.error.LangError.{LangError}
use Rattle.vertex_expr.specs.declared.program.ProgramEntries.{ProgramEntries}
use Rattle.range_check.specs.Breaks.{first_break}
use Rattle.range_check.specs.declared.refusal.RangeRefusal.{RangeRefusal}
use Rattle.bolt_make.specs.Made.{AreWide}
use Rattle.bolt_ship.specs.Texts.{rank_text}
use Rattle.cli_words.specs.Ranges.{AreMade}
use Rattle.program_files.specs.Judged.{judged, judged_by, unless_broken}
use Rattle.command_course.specs.Programs.{or_refused}
use Rattle.made_runs.specs.Rank.{rank_limits}
use Rattle.made_runs.proofs.RankProgram.{rank_program, rank_read}

-- an accepted program is that of its text
limits_kept : (p : ProgramEntries) (o : Result ProgramEntries LangError) → o ≡ Ok p
    → IfOk (or_refused (judged_by o)) (λ q. q.limits ≡ p.limits)
limits_kept p o is =
    subst (λ (o : Result ProgramEntries LangError). IfOk (or_refused (judged_by o))
    (λ q. q.limits ≡ p.limits)) (sym is) (by_break (first_break p)) where
      by_break : (b : Option RangeRefusal)
          → IfOk (or_refused (unless_broken p b)) (λ q. q.limits ≡ p.limits)
      by_break None = refl
      by_break (Some r) = tt

pub rank_limits_kept : IfOk (or_refused (judged rank_text)) (λ p. p.limits ≡ rank_limits)
rank_limits_kept = limits_kept rank_program _ rank_read

-- what a command makes is within them
pub made_within : (n m b e : ℕ) → AreMade n m b e → AreWide rank_limits n m
made_within n m b e made =
    let few = made.vertices.1 in
    let pairs = made.pairs.1 in
    record {
      vertices = omega arith;
      degree = omega arith;
      edges = omega arith;
      weight = (omega (arith, ints), omega (arith, ints));
      attr = (omega (arith, ints), omega (arith, ints));
    }
