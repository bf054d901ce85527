use Rattle.std.proofs.Common.{◌-◌, ℕ, List}
use Rattle.std.proofs.Common.{sym, ◌∙◌, arith}
use Rattle.bolt_base.specs.Graph.{Graph}
use Rattle.vertex_expr.specs.declared.program.ProgramEntries.{ProgramEntries}
use Rattle.run_model.specs.Steps.{step, value_changed}
use Rattle.refine_rows.specs.Picked.{old_only}
use Rattle.refine_rows.proofs.AgainLemmas.{again_there, changed_where}
use Rattle.refine_rows.proofs.PickLemmas.{picked_in, picked_out}
use Rattle.refine_rows.proofs.dirty.changed_vertices.Goals as goal
use Rattle.refine_rows.proofs.dirty.changed_vertices.Goals.{then-has_other_value+in_ok-push}
use Rattle.refine_rows.proofs.dirty.changed_vertices.Goals.{else-has_other_value}

pub vertices_at-put-requires : goal.vertices_at-put-requires
vertices_at-put-requires g c =
    let cuts = c.requires.refined.within.laid.belongs.cut in
    let low = c.requires.low in
    omega arith

pub has_other_value-requires : goal.has_other_value-requires
has_other_value-requires g c =
    let p : ProgramEntries = c.args.program.now in
    let was : Graph = g.O.OldGraph.graph in
    let now : Graph = g.A.Adjacency.plain c.args.graph.now in
    let within = c.requires.refined.within in
    let some = c.requires.some in
    let is = c.vertices_at-put.ensures ∙ within.listed (c.args.i - 1) (omega arith) in
    let there = again_there p was now (c.args.i - 1) c.vertices_at-put.result.now
    c.loop-u.u-index
    is c.loop-u-test.true in
    record {
      over = c.requires.over;
      laid = within.laid;
      some = c.requires.some;
      low = c.requires.low;
      vertex = there;
      refined = within.done (c.args.i - 1) _ (omega arith) there;
    }

pub loop-u-preserved : goal.loop-u-preserved
loop-u-preserved g c =
    let p : ProgramEntries = c.args.program.now in
    let was : Graph = g.O.OldGraph.graph in
    let now : Graph = g.A.Adjacency.plain c.args.graph.now in
    let test = old_only was (value_changed (step p was now c.args.i)) in
    let xs : List ℕ = c.vertices_at-put.result.now in
    elim c.if-has_other_value.branch [
      | then-has_other_value+in_ok-push w ↦ rw w.us-is
          (picked_in (λ (u : ℕ). u) test xs c.loop-u.u-index 0
          c.loop-u-test.true c.loop-u.us.items c.loop-u.invariant w.push.new.self.items
          (sym c.has_other_value.ensures ∙ w.if-has_other_value.true) w.in_ok-push.ensures.items)
      | else-has_other_value w ↦ rw w.us-is (picked_out (λ (u : ℕ). u) test xs c.loop-u.u-index 0
          c.loop-u-test.true c.loop-u.us.items c.loop-u.invariant
          (sym c.has_other_value.ensures ∙ w.if-has_other_value.false))
    ]

pub returns : goal.returns
returns g c =
    let p : ProgramEntries = c.args.program.now in
    let was : Graph = g.O.OldGraph.graph in
    let now : Graph = g.A.Adjacency.plain c.args.graph.now in
    let within = c.requires.refined.within in
    let some = c.requires.some in
    let is = c.vertices_at-put.ensures ∙ within.listed (c.args.i - 1) (omega arith) in
    changed_where p was now c.args.i c.vertices_at-put.result.now c.loop-u.us.items
    c.loop-u.u-index
    c.requires.over c.requires.some is c.loop-u-test.false c.loop-u.invariant
