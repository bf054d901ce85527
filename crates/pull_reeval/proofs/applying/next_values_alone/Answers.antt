use Rattle.run_model.proofs.Gathering.{table_more}
use Rattle.pull_reeval.specs.Applying.{applied_at}
use Rattle.pull_reeval.proofs.applying.next_values_alone.Goals as goal

pub loop-place-preserved : goal.loop-place-preserved
loop-place-preserved g c =
    table_more (applied_at c.args.program.now (g.A.Adjacency.plain c.args.graph.now)
    (g.V.ValueRow.values c.args.row.now) c.args.vertices.now c.args.aggs.now) c.loop-place.place
    c.loop-place.vals.items c.push.new.self.items c.next_value_at.result c.in_ok-push.ensures.items
    c.loop-place.invariant c.next_value_at.ensures
