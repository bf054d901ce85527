use Rattle.std.proofs.Common.{◌≡◌, ◌+◌, ◌++◌}
use Rattle.run_model.specs.Visits.{tail_visits_to}
use Rattle.agg_words.specs.Known.{IsClear}
use Rattle.hybrid_tail.specs.TailAmounts.{tail_amounts_to}
use Rattle.hybrid_tail.specs.TailStep.{IsNext}
use Rattle.hybrid_tail.proofs.finishing.last_values.Given as goal

abbrev pub invariant-loop-i : goal.invariant-loop-i
invariant-loop-i g l =
    let h = g.A.Adjacency.plain l.graph in
    let cut = l.history.cut in record {
      rows : IsNext l.accepted h (l.i + 1) l.rows;
      amounts : l.seat.view.amounts ≡ l.initial.seat.view.amounts
          ++ tail_amounts_to l.accepted h cut l.i;
      count : g.M.Meter.counted l.meter
          ≡ g.M.Meter.counted l.initial.meter + tail_visits_to l.accepted h cut l.i;
      held : g.M.Meter.held l.meter ≡ g.M.Meter.held l.initial.meter;
      table : l.seat.table ≡ l.initial.seat.table;
      units : l.seat.view.units ≡ l.initial.seat.view.units;
      clear : IsClear l.words.layout l.seat.view;
    }
