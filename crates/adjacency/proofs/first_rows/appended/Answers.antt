use Rattle.std.proofs.Common.{subst, sym, ap, ◌∙◌, ◌≡◌, [], pos, get_or, arith, length, ◌<◌}
use Rattle.std.proofs.Common.{rules, FitsSigned, w64, to_z, of_z}
use Rattle.std.specs.FinMap as finite
use Rattle.std.proofs.lemmas.Int.{to_z-of_z}
use Rattle.std.proofs.lemmas.List.{get_or_default}
use Rattle.bolt_base.specs.declared.edge.Edge.{Edge}
use Rattle.adjacency.specs.Rows.{row_at, full_of}
use Rattle.adjacency.specs.FirstRows.{AreOut, with_new}
use Rattle.adjacency.proofs.FirstLemmas.{out_none, out_step}
use Rattle.adjacency.proofs.first_rows.appended.Goals as goal

pub loop-edge-init : goal.loop-edge-init
loop-edge-init c = record {
  given = subst (λ rows. AreOut c.args.vertices [] rows)
      (sym (c.in_ok-rows.ensures ∙ ap (full_of []) c.requires.even)) (out_none c.args.vertices);
}

pub loop-edge-preserved : goal.loop-edge-preserved
loop-edge-preserved c =
    let none : Edge = record { src = 0; dst = 0; weight = pos 0 } in
    let e : Edge = get_or c.args.edges.now c.loop-edge.edge-index none in
    let same : to_z w64 (of_z w64 e.weight)
    ≡ e.weight = (let f : FitsSigned w64 e.weight = search rules in to_z-of_z w64 e.weight f) in
    let ends : (e.src < c.args.vertices)
    × (e.dst < c.args.vertices) = c.requires.ends c.loop-edge.edge-index none
    c.loop-edge-test.true in
    let long = c.loop-edge.invariant.given.long in
    let below = ends.0 in
    let there : e.src < length c.loop-edge.rows.items = omega arith in
    let read : c.index_mut-row.result.now
    ≡ row_at c.loop-edge.rows.items e.src = c.index_mut-row.ensures.value
    ∙ get_or_default c.loop-edge.rows.items e.src c.index_mut-row.result.now finite.empty
    there in
    record {
      given = out_step c.args.vertices c.args.edges.now c.loop-edge.rows.items
          c.loop-edge.edge-index none c.add_arc.new.row c.loop-edge.invariant.given c.requires.ends
          c.loop-edge-test.true
          (c.in_ok-add_arc.ensures ∙ ap (λ r. with_new r e.dst (to_z w64 (of_z w64 e.weight))) read
          ∙ ap (with_new (row_at c.loop-edge.rows.items e.src) e.dst) same);
    }
