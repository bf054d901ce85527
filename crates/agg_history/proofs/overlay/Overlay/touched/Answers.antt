use Rattle.std.proofs.Common.{◌==◌, length, get_or, sym, ap, ◌∙◌, arith}
use Rattle.std.specs.List.{list_any}
use Rattle.bolt_base.proofs.ListLemmas.{get_or-replicate_same}
use Rattle.agg_history.proofs.OverlayIs.{vertices_is, vertex_below, no_place}
use Rattle.agg_history.proofs.overlay.Overlay.touched.Goals as goal

pub returns-clause-few : goal.returns-clause-few
returns-clause-few c = omega (
  arith,
  c.touched.ensures.few,
  ap length c.touched.ensures.all,
  c.self.invariant.count,
  vertices_is c.self.inside c.args.self.now c.self.view_is c.self.invariant,
)

pub returns-clause-others : goal.returns-clause-others
returns-clause-others c = λ i v h l none.
    let inside = vertex_below c.self.inside c.args.self.now c.self.view_is c.self.invariant i v h
    l in
    let line = c.touched.ensures.others v inside
    (ap (list_any (λ u. v == u)) (sym c.touched.ensures.all) ∙ none) in
    no_place c.self.inside c.args.self.now c.self.view_is c.self.invariant i v h l
    (ap (λ xs. get_or xs i 0) line ∙ get_or-replicate_same c.self.inside.places.width i 0)
