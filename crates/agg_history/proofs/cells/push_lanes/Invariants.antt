use Rattle.std.proofs.Common.{◌≡◌, ◌+◌, ◌++◌, take}
use Rattle.std.specs.Prelude.{vec_len, vec_capacity}
use Rattle.agg_history.proofs.cells.push_lanes.Given as goal

abbrev pub invariant-loop-lane : goal.invariant-loop-lane
invariant-loop-lane l = record {
  items : l.words.items ≡ l.fn.words.items ++ take l.lane l.lanes;
  len : vec_len l.words ≡ vec_len l.fn.words + l.lane;
  capacity : vec_capacity l.words ≡ vec_capacity l.fn.words;
}
