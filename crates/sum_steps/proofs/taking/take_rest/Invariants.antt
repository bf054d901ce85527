use Rattle.std.proofs.Common.{◌≡◌, List, drop}
use Rattle.bolt_base.specs.Residue.{Amount}
use Rattle.sum_steps.specs.Taken.{AreLeft}
use Rattle.sum_steps.proofs.taking.take_rest.Given as goal

abbrev pub invariant-loop-place : goal.invariant-loop-place
invariant-loop-place l = record {
  table : l.seat.table ≡ l.initial.seat.table;
  units : l.seat.view.units ≡ l.initial.seat.view.units;
  marks : l.seat.view.marks ≡ l.initial.seat.view.marks;
  left : (amounts : List Amount) → AreLeft l.program l.words.layout amounts
      (drop l.taken l.targets) l.initial.seat.view
      → AreLeft l.program l.words.layout amounts (drop l.place l.targets) l.seat.view;
}
