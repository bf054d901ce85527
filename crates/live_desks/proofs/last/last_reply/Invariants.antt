use Rattle.std.proofs.Common.{◌≡◌}
use mathlib.Core.List.{IsPrefix}
use Rattle.board.specs.Log.{rounds_of}
use Rattle.live_desks.proofs.last.last_reply.Given as goal

abbrev pub invariant-loop : goal.invariant-loop
invariant-loop g l =
    (goal.iterator-loop g).can_next l.iterator'
    × (goal.iterator-loop g).is_finite l.iterator'
    × (l.desk.origin ≡ l.initial.desk.origin)
    × IsPrefix (rounds_of l.fn.receipt.seen.log) l.desk.told
    × IsPrefix l.initial.desk.seen l.desk.seen
