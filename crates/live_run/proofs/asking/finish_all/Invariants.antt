use Rattle.std.proofs.Common.{◌≡◌, ◌≤◌, length, take}
use Rattle.std.specs.Prelude.{vec_capacity, vec_len}
use Rattle.logbook.specs.Pages.{Book}
use Rattle.board.specs.declared.kinds.Origin.{Origin}
use Rattle.live_desks.specs.Asked.{AllAsked}
use Rattle.live_run.specs.Turns.{AllTurns}
use Rattle.live_run.proofs.asking.finish_all.Given as goal

abbrev pub invariant-loop-turn : goal.invariant-loop-turn
invariant-loop-turn g l =
    (vec_len l.asked ≡ length l.yielded)
    × (length l.questions ≤ vec_capacity l.asked)
    × ((b : Book) (o : Origin) → AllTurns b o l.questions l.fn.turns.items
    → AllAsked b o (take (length l.yielded) l.questions) l.asked.items)
