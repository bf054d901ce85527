use Rattle.std.proofs.Common.{◌≡◌, length}
use Rattle.std.specs.List.{range_with_len}
use Rattle.made_runs.proofs.batches.line_numbers.Given as goal

abbrev pub invariant-loop-before : goal.invariant-loop-before
invariant-loop-before l = record {
  numbers : l.lines ≡ range_with_len 1 l.before;
  count : length l.lines ≡ l.before;
}
