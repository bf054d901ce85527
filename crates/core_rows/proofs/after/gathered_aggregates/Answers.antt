use Rattle.run_model.specs.Rows.{gathered}
use Rattle.run_model.proofs.Gathering.{table_more}
use Rattle.core_rows.proofs.after.gathered_aggregates.Goals as goal

pub loop-v-preserved : goal.loop-v-preserved
loop-v-preserved g c =
    table_more (gathered c.args.program.now (g.A.Adjacency.plain c.args.graph.now)
    c.args.vals.now) c.loop-v.v c.loop-v.aggs.items c.push.new.self.items c.aggregate.result
    c.in_ok-push.ensures.items c.loop-v.invariant c.aggregate.ensures
