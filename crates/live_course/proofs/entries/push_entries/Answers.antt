use Rattle.std.proofs.Common.{◌∙◌, ◌+◌, refl, arith}
use Rattle.live_course.proofs.LineSteps.{entries_more}
use Rattle.live_course.proofs.entries.push_entries.Goals as goal

pub loop-index-preserved : goal.loop-index-preserved
loop-index-preserved c =
    entries_more (c.loop-index.index + 1) c.args.made.now c.loop-index.index _ _
    c.extend_from_slice.new.self c.as_slice.result.now c.loop-index-test.true (omega arith) refl
    c.args.out.now c.loop-index.out c.loop-index.invariant
    (c.as_slice.ensures ∙ c.in_ok-line.ensures) c.in_ok-extend_from_slice.ensures.ok
