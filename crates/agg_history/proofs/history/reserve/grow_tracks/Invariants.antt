use Rattle.std.proofs.Common.{◌≡◌, ◌≤◌, ◌-◌, ◌++◌, [], take, replicate}
use Rattle.agg_history.proofs.history.reserve.grow_tracks.Given as goal

abbrev pub invariant-loop : goal.invariant-loop
invariant-loop l = record {
  all : l.tracks.items ≡ take l.old l.fn.tracks.items
      ++ replicate (l.counter - l.old) (record { lanes = l.lanes; all = [] });
  from : l.old ≤ l.counter;
}
