-- Which board it is.
use Rattle.std.specs.Prelude.{true}
use Rattle.logbook.specs.Pages.{Book}
use Rattle.board.specs.declared.kinds.Mark.{Mark}
use Rattle.board.specs.declared.kinds.Origin.{Origin}

abbrev pub mark_of : Book → Origin → Mark
mark_of b o = record {
  known = true;
  number = b.number;
  log_name = b.log_name;
  cells_name = b.cells_name;
  origin = o;
}
