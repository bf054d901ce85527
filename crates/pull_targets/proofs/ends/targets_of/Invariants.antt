use Rattle.std.proofs.Common.{◌≡◌, ◌+◌, take}
use Rattle.run_model.specs.Visits.{out_visits}
use Rattle.pull_targets.specs.EndList.{AreFound}
use Rattle.pull_targets.proofs.TargetLemmas.{ends_out_of}
use Rattle.pull_targets.proofs.ends.targets_of.Given as goal

abbrev pub invariant-loop-u : goal.invariant-loop-u
invariant-loop-u g l = record {
  found : AreFound l.initial.found
      (ends_out_of (g.A.Adjacency.plain l.graph) (take l.u-index l.sources)) l.found;
  count : g.M.Meter.counted l.meter
      ≡ g.M.Meter.counted l.initial.meter + out_visits (g.A.Adjacency.plain l.graph)
      (take l.u-index l.sources);
  units : g.M.Meter.held l.meter ≡ g.M.Meter.held l.initial.meter;
}
