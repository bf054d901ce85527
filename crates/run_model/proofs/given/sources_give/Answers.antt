use Rattle.run_model.proofs.Gathering.{table_more}
use Rattle.run_model.specs.Given.{source_gives}
use Rattle.run_model.proofs.given.sources_give.Goals as goal

pub loop-u-preserved : goal.loop-u-preserved
loop-u-preserved c =
    table_more (source_gives c.args.program.now c.args.graph.now c.args.vals.now) c.loop-u.u
    c.loop-u.given.items c.push.new.self.items c.source_gives.result
    c.in_ok-push.ensures.items c.loop-u.invariant c.source_gives.ensures.numbers
