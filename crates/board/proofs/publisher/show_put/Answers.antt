use Rattle.board.specs.Sheets.{sheet_of}
use Rattle.board.proofs.Keeping.{note_keeps_right}
use Rattle.board.proofs.publisher.show_put.Goals as goal

pub show-requires-clause-right : goal.show-requires-clause-right
show-requires-clause-right g c =
    note_keeps_right (sheet_of c.args.writer.desk.shown.value) c.args.put c.requires.next
