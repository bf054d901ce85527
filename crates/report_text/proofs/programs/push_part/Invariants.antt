use Rattle.std.proofs.Common.{◌≡◌, ◌++◌}
use Rattle.std.specs.List.{range_with_len, flat_map}
use Rattle.range_check.specs.Laws.{span_at}
use Rattle.report_text.specs.Programs.{span_line}
use Rattle.report_text.proofs.programs.push_part.Given as goal
use Rattle.vertex_expr.specs.ProgramBounds.{spans_in}

abbrev pub invariant-loop-lane : goal.invariant-loop-lane
invariant-loop-lane l =
    l.out ≡ l.initial.out
    ++ flat_map (λ lane. span_line l.part lane (span_at (spans_in l.accepted l.part) lane))
    (range_with_len 0 l.lane)
