use Rattle.std.proofs.Common.{◌∙◌, length, ap, arith}
use Rattle.bolt_base.specs.Graph.{Graph}
use Rattle.vertex_expr.specs.declared.program.ProgramEntries.{ProgramEntries}
use Rattle.run_model.proofs.RowLemmas.{values_whole}
use Rattle.refine_rows.proofs.PutLemmas.{ends}
use Rattle.round_engine.proofs.parts.answer_on.Goals as goal

pub finish-requires-clause-refined : goal.finish-requires-clause-refined
finish-requires-clause-refined g c κs within =
    ends c.args.accepted.now g.O.OldGraph.graph (g.A.Adjacency.plain c.args.graph.now)
    c.args.history.now c.args.overlay.now c.requires.over c.requires.refined

pub changes_between-requires : goal.changes_between-requires
changes_between-requires g c =
    let p : ProgramEntries = c.args.accepted.now in
    let now : Graph = g.A.Adjacency.plain c.args.graph.now in
    let whole = (values_whole p now p.rounds).each_vertex in
    let is = ap length (c.as_slice-in-Some.ensures ∙ c.in_ok-new-in-Some.ensures.answer) in
    let few = c.requires.over.new.few_vertices in
    let most = c.requires.over.safe.writable.limits.vertices.most in
    record { few = omega arith }
