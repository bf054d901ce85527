use Rattle.std.proofs.Common.{◌-◌, cond, ap, sym, ◌∙◌, arith}
use Rattle.bolt_base.specs.Graph.{Graph, vertices}
use Rattle.vertex_expr.specs.declared.program.ProgramEntries.{ProgramEntries}
use Rattle.run_model.specs.Rows.{at, row}
use Rattle.run_model.proofs.Still.{is_le, not_new}
use Rattle.refine_rows.proofs.ReadLemmas.{same_vertices}
use Rattle.refine_tasks.proofs.before.value_before.Goals as goal

pub laid_value-requires : goal.laid_value-requires
laid_value-requires g c =
    let some = c.requires.some in
    let low = c.requires.low in
    let within = c.requires.refined.within in
    record {
      over = c.requires.over;
      laid = within.laid;
      iteration = omega arith;
      vertex = c.requires.vertex;
      refined = within.done (c.args.i - 1) c.args.u (omega arith) c.requires.vertex;
    }

pub returns-then-vertices-u : goal.returns-then-vertices-u
returns-then-vertices-u g c =
    let p : ProgramEntries = c.args.program.now in
    let was : Graph = g.O.OldGraph.graph in
    let now : Graph = g.A.Adjacency.plain c.args.graph.now in
    let count = same_vertices p was c.args.history.now c.requires.refined.within.laid.stands in
    let some = c.vertices.ensures.count in
    let past = c.if-vertices-u.true in
    c.laid_value.ensures
    ∙ sym (ap (λ b. cond b (at (row p now (c.args.i - 1)) c.args.u)
    (at (row p was (c.args.i - 1)) c.args.u)) (is_le (vertices was) c.args.u (omega arith)))

pub old_value-requires : goal.old_value-requires
old_value-requires g c =
    let p : ProgramEntries = c.args.program.now in
    let was : Graph = g.O.OldGraph.graph in
    let count = same_vertices p was c.args.history.now c.requires.refined.within.laid.stands in
    let counted = c.vertices.ensures.count in
    let past = c.if-vertices-u.false in
    let some = c.requires.some in
    let low = c.requires.low in
    record {
      safe = c.requires.over.safe;
      stands = c.requires.refined.within.laid.stands;
      iteration = omega arith;
      vertex = omega arith;
    }

pub returns : goal.returns
returns g c =
    let p : ProgramEntries = c.args.program.now in
    let was : Graph = g.O.OldGraph.graph in
    let now : Graph = g.A.Adjacency.plain c.args.graph.now in
    let count = same_vertices p was c.args.history.now c.requires.refined.within.laid.stands in
    let some = c.vertices.ensures.count in
    let past = c.if-vertices-u.false in
    c.old_value.ensures
    ∙ sym (ap (λ b. cond b (at (row p now (c.args.i - 1)) c.args.u)
    (at (row p was (c.args.i - 1)) c.args.u)) (not_new (vertices was) c.args.u (omega arith)))
