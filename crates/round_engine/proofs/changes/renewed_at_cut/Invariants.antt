use Rattle.run_model.specs.Rows.{row}
use Rattle.round_engine.proofs.ChangeLemmas.{AreListedTo}
use Rattle.round_engine.proofs.changes.renewed_at_cut.Given as goal

abbrev pub invariant-loop-v : goal.invariant-loop-v
invariant-loop-v g l = AreListedTo (row l.program g.O.OldGraph.graph l.history.cut)
    (row l.program (g.A.Adjacency.plain l.graph) l.history.cut) l.old l.count l.v l.vs.items
