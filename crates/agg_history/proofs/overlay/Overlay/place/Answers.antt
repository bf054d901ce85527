use Rattle.std.proofs.Common.{◌≡◌, suc, ◌+◌, sym, ◌∙◌, arith}
use Rattle.agg_history.proofs.OverlayIs.{no_place, place_put, place_few}
use Rattle.agg_history.proofs.overlay.Overlay.place.Goals as goal

pub returns-clause-below : goal.returns-clause-below
returns-clause-below c = omega (
  arith,
  c.get.ensures,
  place_few c.self.inside c.args.self.now c.self.view_is c.self.invariant c.args.i c.args.v
      c.requires.iteration c.requires.vertex,
)

pub returns-clause-none : goal.returns-clause-none
returns-clause-none c = λ e.
    no_place c.self.inside c.args.self.now c.self.view_is c.self.invariant c.args.i c.args.v
    c.requires.iteration c.requires.vertex (sym c.get.ensures ∙ e)

pub returns-clause-there : goal.returns-clause-there
returns-clause-there c = λ p e.
    place_put c.self.inside c.args.self.now c.self.view_is c.self.invariant c.args.i c.args.v
    c.requires.iteration c.requires.vertex p
    (sym c.get.ensures ∙ e ∙ (let f : p + 1 ≡ suc p = omega arith in f))
