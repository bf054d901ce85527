use Rattle.std.proofs.Common.{◌≡◌, ◌≤◌, ◌-◌, ◌++◌, take, replicate, pos}
use Rattle.agg_history.specs.Drafted.{blank_entry}
use Rattle.agg_history.proofs.history.reserve.grow_first.Given as goal

abbrev pub invariant-loop : goal.invariant-loop
invariant-loop l = record {
  all : l.first ≡ record {
    lanes = l.lanes;
    all = take l.old l.fn.first.all ++ replicate (l.counter - l.old) (blank_entry l.lanes);
  };
  blank : l.blank ≡ replicate l.lanes (pos 0);
  from : l.old ≤ l.counter;
}
