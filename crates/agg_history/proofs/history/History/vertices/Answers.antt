use Rattle.std.proofs.Common.{sym}
use Rattle.agg_history.proofs.HistoryIs.{lean_is}
use Rattle.agg_history.proofs.history.History.vertices.Goals as goal

pub returns-clause-stored : goal.returns-clause-stored
returns-clause-stored c = sym
    (lean_is c.self.inside c.args.self.now c.self.view_is c.self.invariant)
