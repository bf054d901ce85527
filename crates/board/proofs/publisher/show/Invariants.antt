use Rattle.std.proofs.Common.{◌≡◌, drop, []}
use Rattle.board.specs.Sheets.{sheet_of}
use Rattle.board.proofs.publisher.show.Given as goal

abbrev pub invariant-loop : goal.invariant-loop
invariant-loop g l =
    (goal.iterator-loop g).can_next l.iterator' × (goal.iterator-loop g).is_finite l.iterator'
    × (drop l.writer.behind l.writer.log.items ≡ [])
    × (sheet_of l.writer.desk.shown.value ≡ sheet_of l.fn.writer.desk.shown.value)
    × (l.change ≡ l.fn.change)
