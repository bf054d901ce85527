-- One more round.
use Rattle.std.proofs.Common.{◌≡◌, ℕ}
use Rattle.bolt_base.specs.Graph.{Graph, IsGood}
use Rattle.vertex_expr.specs.declared.program.ProgramEntries.{ProgramEntries}
use Rattle.range_check.specs.Breaks.{IsAccepted}
use Rattle.run_model.specs.Rows.{Lists, row}
use Rattle.run_model.proofs.Runs.{vals_long, vals_ranged}
use Rattle.run_model.specs.Given.{IsBefore}

pub before_at : (p : ProgramEntries) (g : Graph) (i : ℕ) (vals : Lists) → vals ≡ row p g i
    → IsAccepted p → IsGood p.limits g → IsBefore p g vals
before_at p g i vals now safe good = record {
  safe = safe;
  good = good;
  long = vals_long p g i vals now;
  ranged = vals_ranged p g i vals now safe good;
}
