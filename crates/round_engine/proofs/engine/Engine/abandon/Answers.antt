use Rattle.std.proofs.Common.{ap}
use Rattle.round_engine.specs.State.{EngineState}
use Rattle.round_engine.proofs.PreparedLemmas.{is_out}
use Rattle.round_engine.proofs.engine.Engine.abandon.Goals as goal

pub revert-requires : goal.revert-requires
revert-requires c = is_out c.self.inside.graph c.args.self.now c.args.prepared
    (ap (λ (s : EngineState). s.now) c.self.view_is)
    (ap (λ (s : EngineState). s.next) c.self.view_is) c.requires
