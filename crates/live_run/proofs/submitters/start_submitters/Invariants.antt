use Rattle.std.proofs.Common.{◌≤◌, length}
use Rattle.std.specs.Prelude.{vec_len, vec_capacity}
use Rattle.live_run.proofs.submitters.start_submitters.Given as goal

abbrev pub invariant-loop-number : goal.invariant-loop-number
invariant-loop-number g l =
    (vec_len l.started ≤ l.number)
    × (vec_len l.entrants ≤ l.number)
    × (length l.streams ≤ vec_capacity l.started)
    × (length l.streams ≤ vec_capacity l.entrants)
