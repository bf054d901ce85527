use Rattle.std.proofs.Common.{◌∙◌}
use Rattle.round_engine.proofs.EngineLemmas.{count}
use Rattle.round_engine.proofs.engine.Engine.vertices.Goals as goal

pub returns : goal.returns
returns c = c.vertices.ensures.count
    ∙ count c.self.inside c.args.self.now c.self.view_is c.self.invariant
