use Rattle.std.proofs.Common.{rules, ◌-◌, FitsSigned, w64, ◌∙◌, arith}
use Rattle.std.proofs.lemmas.Int.{to_z-of_z}
use Rattle.vertex_expr.specs.declared.program.ProgramEntries.{ProgramEntries}
use Rattle.run_model.specs.Steps.{Step, step}
use Rattle.refine_tasks.proofs.SourceLemmas.{dirty_flag}
use Rattle.refine_tasks.proofs.sources.source_of.Goals as goal

pub value_before-requires : goal.value_before-requires
value_before-requires g c = record {
  over = c.requires.change.over;
  refined = c.requires.refined;
  some = c.requires.some;
  low = c.requires.low;
  vertex = c.requires.vertex;
}

pub laid_value-requires : goal.laid_value-requires
laid_value-requires g c =
    let some = c.requires.some in
    let low = c.requires.low in
    let within = c.requires.refined.within in
    record {
      over = c.requires.change.over;
      laid = within.laid;
      iteration = omega arith;
      vertex = c.requires.vertex;
      refined = within.done (c.args.i - 1) c.args.u (omega arith) c.requires.vertex;
    }

pub returns : goal.returns
returns g c =
    let p : ProgramEntries = c.args.program.now in
    let s : Step = step p g.O.OldGraph.graph (g.A.Adjacency.plain c.args.graph.now) c.args.i in
    let old_attr : FitsSigned w64 c.old_attr.result = search rules in
    let new_attr : FitsSigned w64 c.attr.result = search rules in
    let flag = c.is_ok.ensures.value
    ∙ dirty_flag p s c.args.dirty_vertices.now c.requires.sources c.args.u c.vertex_near.result
    c.vertex_near.ensures.found c.vertex_near.ensures.absent in
    λ j. record {
      vertex = c.args.u;
      old = c.value_before.ensures j;
      new = c.laid_value.ensures j;
      old_degree = c.old_degree.ensures j;
      new_degree = c.out_degree.ensures j;
      old_attr = (to_z-of_z w64 c.old_attr.result old_attr ∙ c.old_attr.ensures) j;
      new_attr = (to_z-of_z w64 c.attr.result new_attr ∙ c.attr.ensures) j;
      dirty = flag j;
    }
