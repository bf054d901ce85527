use Rattle.std.proofs.Common.{◌∙◌}
use Rattle.round_engine.proofs.EngineLemmas.{kept_is}
use Rattle.round_engine.proofs.engine.Engine.kept.Goals as goal

pub returns : goal.returns
returns c = c.kept.ensures
    ∙ kept_is c.self.inside c.args.self.now c.self.view_is c.self.invariant
