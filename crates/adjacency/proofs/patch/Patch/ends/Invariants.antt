use Rattle.std.proofs.Common.{◌≡◌, ◌++◌}
use Rattle.adjacency.proofs.patch.Patch.ends.Given as goal

abbrev pub invariant-loop-end : goal.invariant-loop-end
invariant-loop-end l = record {
  all : l.ends.items ++ l.end-iterator ≡ l.initial.end-iterator;
}
