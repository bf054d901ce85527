use Rattle.std.proofs.Common.{List}
use Rattle.std.proofs.Common.{sym, ◌∙◌}
use Rattle.bolt_base.specs.Differs.{degree_changed}
use Rattle.bolt_base.specs.Graph.{Graph, vertices}
use Rattle.bolt_base.specs.declared.edge.Touched.{Touched}
use Rattle.run_model.specs.Steps.{reads_outdeg}
use Rattle.refine_rows.specs.Picked.{old_only}
use Rattle.refine_rows.proofs.AgainLemmas.{degrees_where, touched_are}
use Rattle.refine_rows.proofs.PickLemmas.{picked_in, picked_out, read_where, unread_where}
use Rattle.refine_rows.proofs.dirty.degree_changes.Goals as goal
use Rattle.refine_rows.proofs.dirty.degree_changes.Goals.{then-has_other_degree+in_ok-push}
use Rattle.refine_rows.proofs.dirty.degree_changes.Goals.{else-has_other_degree}

pub returns-then-not-reads_outdeg : goal.returns-then-not-reads_outdeg
returns-then-not-reads_outdeg g c =
    let was : Graph = g.O.OldGraph.graph in
    let now : Graph = g.A.Adjacency.plain c.args.graph.now in
    c.new-us.ensures.items
    ∙ sym (unread_where (vertices was) (degree_changed was now) (reads_outdeg c.args.program.now)
    (sym c.reads_outdeg.ensures ∙ c.if-not-reads_outdeg.true))

pub has_other_degree-requires : goal.has_other_degree-requires
has_other_degree-requires g c =
    let was : Graph = g.O.OldGraph.graph in
    let now : Graph = g.A.Adjacency.plain c.args.graph.now in
    let xs : List Touched = c.as_slice-touched-items.result.now in
    let is = c.as_slice-touched-items.ensures ∙ c.requires.net.is_sources in
    record {
      vertex = (touched_are was now xs c.loop-touched.touched-index _ is
          c.loop-touched-test.true).there;
      degree = (touched_are was now xs c.loop-touched.touched-index _ is
          c.loop-touched-test.true).degree;
      old = c.requires.net.is_old_vertices;
    }

pub loop-touched-preserved : goal.loop-touched-preserved
loop-touched-preserved g c =
    let was : Graph = g.O.OldGraph.graph in
    let now : Graph = g.A.Adjacency.plain c.args.graph.now in
    let test = old_only was (degree_changed was now) in
    let xs : List Touched = c.as_slice-touched-items.result.now in
    elim c.if-has_other_degree.branch [
      | then-has_other_degree+in_ok-push w ↦ rw w.us-is
          (picked_in (λ (t : Touched). t.vertex) test xs c.loop-touched.touched-index _
          c.loop-touched-test.true c.loop-touched.us.items c.loop-touched.invariant
          w.push.new.self.items
          (sym c.has_other_degree.ensures ∙ w.if-has_other_degree.true)
          w.in_ok-push.ensures.items)
      | else-has_other_degree w ↦ rw w.us-is
          (picked_out (λ (t : Touched). t.vertex) test xs c.loop-touched.touched-index _
          c.loop-touched-test.true c.loop-touched.us.items c.loop-touched.invariant
          (sym c.has_other_degree.ensures ∙ w.if-has_other_degree.false))
    ]

pub returns : goal.returns
returns g c =
    let was : Graph = g.O.OldGraph.graph in
    let now : Graph = g.A.Adjacency.plain c.args.graph.now in
    let is = c.as_slice-touched-items.ensures ∙ c.requires.net.is_sources in
    degrees_where was now c.as_slice-touched-items.result.now c.loop-touched.us.items
    c.loop-touched.touched-index c.requires.over.more is c.loop-touched-test.false
    c.loop-touched.invariant
    ∙ sym (read_where (vertices was) (degree_changed was now) (reads_outdeg c.args.program.now)
    (sym c.reads_outdeg.ensures ∙ c.if-not-reads_outdeg.false))
