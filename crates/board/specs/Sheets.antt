-- What the two copies have in common.
use Rattle.std.specs.Prelude.{◌≡◌, List, [], ◌∷◌, ◌++◌}
use Rattle.run_model.specs.Program.{lanes}
use Rattle.board.specs.declared.kinds.Entry.{Entry}
use Rattle.board.specs.declared.kinds.Mark.{Mark}
use Rattle.board.specs.declared.kinds.Sheet.{Sheet}
use Rattle.board.specs.declared.face.Face.{Face}
use Rattle.board.specs.declared.face.Change.{Change}
use Rattle.board.specs.declared.face.Change.TheVariants.{Nothing, Put as Noted}
use Rattle.board.specs.declared.face.Put.{Put}
use Rattle.board.specs.Log.{shows, rounds_of, round_of, origin_of}
use Rattle.board.specs.Log.{IsRightLog, HasRoom, HasRoomFor, GoesOn}
use Rattle.board.specs.Marks.{mark_of}
use Rattle.board.specs.Halls.{Hall, with_changes_in}

abbrev pub sheet : List Entry → Hall → Mark → Sheet
sheet log hall m = record {
  mark = m;
  room = hall.room;
  width = hall.width;
  answer = hall.values;
  log = log;
}

abbrev pub sheet_of : Face → Sheet
sheet_of x =
    sheet x.front.seen.log x.answer (mark_of x.front.seen.book (origin_of x.front.seen.log))

abbrev pub changed : Sheet → Change → Sheet
changed s Nothing = s
changed s (Noted p) = record {
  mark = mark_of p.front.seen.book (origin_of p.front.seen.log);
  room = s.room;
  width = s.width;
  answer = with_changes_in s.width s.room s.answer p.note.changes;
  log = p.front.seen.log;
}

-- the answer is what the log shows, the log is right and has room, and the places have the
-- program's lanes
pub record IsRight (s : Sheet) : Type 0 where
  pub answer : s.answer ≡ shows s.mark.origin (rounds_of s.log)
  pub log : IsRightLog s.mark.origin (rounds_of s.log)
  pub room : HasRoom s.mark.origin s.room (rounds_of s.log)
  pub width : s.width ≡ lanes s.mark.origin.program

-- the note's round follows on what the sheet shows, and its log has that round behind
pub record IsNext (s : Sheet) (p : Put) : Type 0 where
  pub mark : mark_of p.front.seen.book (origin_of p.front.seen.log) ≡ s.mark
  pub log : rounds_of p.front.seen.log ≡ rounds_of s.log ++ round_of p.note ∷ []
  pub right : GoesOn s.mark.origin (rounds_of s.log) (round_of p.note)
  pub room : HasRoomFor s.mark.origin s.room (rounds_of s.log) (round_of p.note)
