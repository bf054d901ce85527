use Rattle.std.proofs.Common.{◌≡◌, take}
use Rattle.run_model.specs.Rows.{row}
use Rattle.round_engine.specs.Parts.{changes_in}
use Rattle.round_engine.proofs.changes.changes_at_cut.Given as goal

abbrev pub invariant-loop-v : goal.invariant-loop-v
invariant-loop-v g l = l.changes
    ≡ changes_in (row l.program (g.A.Adjacency.plain l.graph) l.history.cut)
    (take l.v-index l.v-items)
