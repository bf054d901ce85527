use Rattle.std.proofs.Common.{◌≡◌, ◌++◌, drop}
use Rattle.vertex_lang.specs.Canonical.{ended_lines, lane_lines}
use Rattle.vertex_lang.proofs.canonical.append_ranges.Given as goal

abbrev pub invariant-loop-lane : goal.invariant-loop-lane
invariant-loop-lane l =
    l.out ++ ended_lines (lane_lines l.lane (drop l.lane l.ranges))
    ≡ l.initial.out ++ ended_lines (lane_lines 0 l.ranges)
