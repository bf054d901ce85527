use Rattle.bolt_base.specs.Graph.{Graph}
use Rattle.vertex_expr.specs.declared.program.ProgramEntries.{ProgramEntries}
use Rattle.run_model.specs.Rows.{applied, gathered, at}
use Rattle.run_model.proofs.Gathering.{table_more}
use Rattle.core_adds.proofs.values.values_after.Goals as goal

pub loop-v-preserved : goal.loop-v-preserved
loop-v-preserved g c =
    let p : ProgramEntries = c.args.program.now in
    let h : Graph = g.A.Adjacency.plain c.args.graph.now in
    table_more (λ v. applied p h (gathered p h c.args.vals.now v) (at c.args.vals.now v) v)
    c.loop-v.v c.loop-v.next.items c.push.new.self.items c.value_after.result
    c.in_ok-push.ensures.items c.loop-v.invariant c.value_after.ensures
