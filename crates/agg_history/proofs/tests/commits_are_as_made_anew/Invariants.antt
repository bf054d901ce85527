use Rattle.std.proofs.Common.{◌≡◌}
use Rattle.agg_history.specs.declared.tests.TheConstants.{CUT}
use Rattle.agg_history.proofs.tests.commits_are_as_made_anew.Given as goal

abbrev pub invariant-loop-2 : goal.invariant-loop-2
invariant-loop-2 g l = record {
  cut : l.history.cut ≡ CUT;
  lanes : l.history.lanes ≡ 1;
}
