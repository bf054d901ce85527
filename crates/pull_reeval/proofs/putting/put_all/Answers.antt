use Rattle.std.proofs.Common.{◌≡◌, length, ap, arith}
use Rattle.bolt_base.specs.Graph.{Graph}
use Rattle.vertex_expr.specs.declared.program.ProgramEntries.{ProgramEntries}
use Rattle.refine_rows.specs.Progress.{again}
use Rattle.refine_rows.proofs.PutLemmas.{goes_on}
use Rattle.pull_reeval.proofs.putting.put_all.Goals as goal

pub returns : goal.returns
returns g c =
    let p : ProgramEntries = c.args.program.now in
    let was : Graph = g.O.OldGraph.graph in
    let now : Graph = g.A.Adjacency.plain c.args.graph.now in
    let long : length c.args.applied.now ≡ length (again p was now c.args.i) =
    ap length c.requires.applied in
    let past = c.loop-k-test.false in
    let count = c.loop-k.invariant.count in
    goes_on p was now c.args.history.now c.loop-k.overlay c.args.i c.loop-k.invariant.within
    (omega arith)
