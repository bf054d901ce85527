-- The log of a board, and what it shows.
use Rattle.std.specs.Prelude.{◌≡◌, ℕ, pos, ◌≤◌, List, [], ◌∷◌, map, length}
use Rattle.bolt_base.specs.Edits.{after}
use Rattle.bolt_base.specs.Graph.{Graph}
use Rattle.std.specs.FinMap as finite
use Rattle.vertex_expr.specs.declared.program.Combine.TheVariants.{Sum}
use Rattle.vertex_expr.specs.declared.program.ProgramEntries.{ProgramEntries}
use Rattle.run_model.specs.Logs.{Round, shown, log_edits, IsRight, with_changes}
use Rattle.run_model.specs.Rows.{Lists, answer}
use Rattle.board.specs.declared.kinds.Entry.{Entry}
use Rattle.board.specs.declared.kinds.Origin.{Origin}
use Rattle.board.specs.declared.note.RoundNote.{RoundNote}

abbrev pub origin : ProgramEntries → Graph → Origin
origin p g = record { program = p; graph = g }

-- what an entry names that has no origin
abbrev pub no_program : ProgramEntries
no_program = record {
  name = [];
  limits = record {
    vertices = 0;
    degree = 0;
    edges = 0;
    weight_lo = pos 0;
    weight_hi = pos 0;
    attr_lo = pos 0;
    attr_hi = pos 0;
  };
  rounds = 0;
  combine = Sum;
  params = [];
  ranges = [];
  init = [];
  contribute = [];
  apply = [];
}

abbrev pub nowhere : Origin
nowhere = origin no_program (record { attrs = []; weights = finite.empty })

-- the round of a note, and that of an entry
abbrev pub round_of : RoundNote → Round
round_of n = record { edits = n.edits; changes = n.changes }

abbrev pub round_in : Entry → Round
round_in e = record { edits = e.edits; changes = e.changes }

-- the first entry has the origin
abbrev pub first_entry : Origin → Entry
first_entry o = record { origin = o; edits = []; changes = [] }

-- a later entry has a round
abbrev pub entry_of : RoundNote → Entry
entry_of n = record { origin = nowhere; edits = n.edits; changes = n.changes }

-- what the book of a board says that it began with
abbrev pub origin_of : List Entry → Origin
origin_of [] = nowhere
origin_of (e ∷ es) = e.origin

-- the rounds that a book names
abbrev pub rounds_of : List Entry → List Round
rounds_of [] = []
rounds_of (e ∷ es) = map round_in es

-- the answer that a log shows
abbrev pub shows : Origin → List Round → Lists
shows o log = shown (answer o.program o.graph) log (length log)

-- a further round turns the shown answer into that of the program after all edits
abbrev pub GoesOn : Origin → List Round → Round → Type 0
GoesOn o log r =
    with_changes (shows o log) r.changes
    ≡ answer o.program (after (after o.graph (log_edits log)) r.edits)

-- each beginning of the log shows the answer
abbrev pub IsRightLog : Origin → List Round → Type 0
IsRightLog o log = IsRight o.program o.graph log

-- each beginning of the log shows at most this many vertices
abbrev pub HasRoom : Origin → ℕ → List Round → Type 0
HasRoom o room log =
    (k : ℕ) → k ≤ length log → length (shown (answer o.program o.graph) log k) ≤ room

-- and so does a further round
abbrev pub HasRoomFor : Origin → ℕ → List Round → Round → Type 0
HasRoomFor o room log r = length (with_changes (shows o log) r.changes) ≤ room
