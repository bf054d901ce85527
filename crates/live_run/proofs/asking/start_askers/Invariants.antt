use Rattle.std.proofs.Common.{◌≡◌, ◌+◌, ◌≤◌, length, take}
use Rattle.std.specs.List.{All}
use Rattle.std.specs.Prelude.{vec_len, vec_capacity}
use Rattle.logbook.specs.Pages.{Book}
use Rattle.run_model.specs.Program.{lanes}
use Rattle.board.specs.declared.kinds.Origin.{Origin}
use Rattle.live_text.specs.Questions.{AreWithin}
use Rattle.live_run.specs.Turns.{AllTurns, AreDesksOf}
use Rattle.live_run.proofs.asking.start_askers.Given as goal

abbrev pub invariant-loop-number : goal.invariant-loop-number
invariant-loop-number g l =
    (vec_len l.turns ≡ l.number)
    × (length l.questions ≤ vec_capacity l.turns)
    × (length l.desks + l.number ≡ length l.questions)
    × All (λ d. All (AreWithin (lanes d.origin.program)) l.questions) l.desks
    × ((b : Book) (o : Origin) → AreDesksOf b o l.fn.desks → AreDesksOf b o l.desks)
    × ((b : Book) (o : Origin) → AreDesksOf b o l.fn.desks
    → AllTurns b o (take l.number l.questions) l.turns.items)
