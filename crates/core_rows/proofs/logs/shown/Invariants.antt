use Rattle.std.proofs.Common.{◌≡◌, fold, map, take}
use Rattle.run_model.specs.Logs.{Round, with_changes}
use Rattle.run_model.specs.Rows.{Lists}
use Rattle.board.specs.Log.{round_of}
use Rattle.core_rows.proofs.logs.shown.Given as goal

abbrev pub invariant-loop-note : goal.invariant-loop-note
invariant-loop-note l = l.values.items
    ≡ fold (λ (values : Lists) (r : Round). with_changes values r.changes) l.start
    (map round_of (take l.note-index l.log))
