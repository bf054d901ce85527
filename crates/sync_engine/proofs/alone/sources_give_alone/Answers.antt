use Rattle.run_model.proofs.Gathering.{table_more}
use Rattle.run_model.specs.Given.{source_gives}
use Rattle.sync_engine.proofs.alone.sources_give_alone.Goals as goal

pub loop-u-preserved : goal.loop-u-preserved
loop-u-preserved g c =
    table_more (source_gives c.args.program.now
    (g.A.Adjacency.plain c.args.graph.now) (g.V.ValueRow.values c.args.row.now)) c.loop-u.u
    c.loop-u.given.items
    c.push.new.self.items c.source_gives.result
    c.in_ok-push.ensures.items c.loop-u.invariant c.source_gives.ensures.numbers
