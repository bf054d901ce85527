use Rattle.run_model.specs.Rows.{begun}
use Rattle.run_model.proofs.Gathering.{table_more}
use Rattle.core_adds.proofs.values.first_values.Goals as goal

pub loop-v-preserved : goal.loop-v-preserved
loop-v-preserved g c =
    table_more (begun c.args.program.now (g.A.Adjacency.plain c.args.graph.now)) c.loop-v.v
    c.loop-v.vals.items c.push.new.self.items c.first_value.result
    c.in_ok-push.ensures.items c.loop-v.invariant c.first_value.ensures.value
