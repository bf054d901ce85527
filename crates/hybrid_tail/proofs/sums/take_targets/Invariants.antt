use Rattle.std.proofs.Common.{◌≡◌, ◌++◌, drop, take}
use Rattle.run_model.specs.Additions.{adds_of, items}
use Rattle.run_model.specs.Refined.{with_words}
use Rattle.run_model.specs.Rows.{at}
use Rattle.run_model.specs.Steps.{tail_step}
use Rattle.sum_steps.specs.Taken.{AreLeft, takes_of}
use Rattle.hybrid_tail.specs.Setting.{with_each}
use Rattle.hybrid_tail.proofs.sums.take_targets.Given as goal

abbrev pub invariant-loop-place : goal.invariant-loop-place
invariant-loop-place g l =
    let s = tail_step l.program (g.A.Adjacency.plain l.graph) l.i in
    let amounts = adds_of l.program s (items l.program s) in record {
      aggs : l.aggs ≡ with_each (λ v. with_words l.program amounts (at l.initial.aggs v) v)
          (take l.place l.targets) l.initial.aggs;
      left : AreLeft l.program l.words.layout amounts (drop l.place l.targets) l.seat.view;
      grown : l.seat.view.amounts ≡ l.initial.seat.view.amounts
          ++ takes_of l.program amounts (take l.place l.targets);
      table : l.seat.table ≡ l.initial.seat.table;
      units : l.seat.view.units ≡ l.initial.seat.view.units;
      marks : l.seat.view.marks ≡ l.initial.seat.view.marks;
    }
