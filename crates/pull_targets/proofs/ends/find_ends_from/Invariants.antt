use Rattle.std.proofs.Common.{◌≡◌, ◌+◌, take}
use Rattle.bolt_base.specs.Graph.{out_edges}
use Rattle.pull_targets.specs.EndList.{AreFound}
use Rattle.pull_targets.specs.Ends.{ends_at}
use Rattle.pull_targets.proofs.ends.find_ends_from.Given as goal

abbrev pub invariant-loop-k : goal.invariant-loop-k
invariant-loop-k g l = record {
  found : AreFound l.initial.found
      (ends_at (take l.k (out_edges (g.A.Adjacency.plain l.graph) l.u))) l.found;
  count : g.M.Meter.counted l.meter ≡ g.M.Meter.counted l.initial.meter + l.k;
  units : g.M.Meter.held l.meter ≡ g.M.Meter.held l.initial.meter;
}
