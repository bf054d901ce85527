use Rattle.std.proofs.Common.{◌≡◌, ◌+◌, map}
use Rattle.run_model.specs.Rows.{gathered}
use Rattle.run_model.specs.Visits.{in_visits}
use Rattle.pull_targets.specs.Reading.{part}
use Rattle.pull_targets.proofs.pull.pull_each.Given as goal

abbrev pub invariant-loop-k : goal.invariant-loop-k
invariant-loop-k g l = record {
  aggs : l.aggs.items
      ≡ map (gathered l.program (g.A.Adjacency.plain l.graph) (g.V.ValueRow.values l.row))
      (part l.targets l.from l.k);
  count : g.M.Meter.counted l.meter
      ≡ g.M.Meter.counted l.initial.meter + in_visits (g.A.Adjacency.plain l.graph)
      (part l.targets l.from l.k);
  units : g.M.Meter.held l.meter ≡ g.M.Meter.held l.initial.meter;
}
