use Rattle.std.proofs.Common.{◌≡◌, ◌<◌, ◌+◌, ◌-◌, ◌*◌, sym, ◌∙◌, suc, length, get_or, arith}
use Rattle.std.proofs.lemmas.List.{get_or_default}
use Rattle.agg_history.proofs.PlacesAre.{count_is, place_inside, place_there}
use Rattle.agg_history.proofs.places.Places.get.Goals as goal

pub index-requires : goal.index-requires
index-requires c =
    let below : c.args.v < length c.self.inside.slots.items = omega (
      arith,
      count_is c.self.inside c.args.self.now c.self.view_is c.self.invariant,
      c.requires.vertex,
    ) in
    let slot : get_or c.self.inside.slots.items c.args.v 0
    ≡ suc (c.index-slot.result.now - 1) = sym
    (get_or_default c.self.inside.slots.items c.args.v c.index-slot.result.now 0 below)
    ∙ sym c.index-slot.ensures
    ∙ (let e : c.index-slot.result.now ≡ suc (c.index-slot.result.now - 1) = omega arith in
    e) in
    omega (
      arith,
      place_inside c.self.inside c.args.self.now c.self.view_is c.self.invariant
          c.args.v c.args.i c.requires.vertex c.requires.iteration
          (c.index-slot.result.now - 1) slot,
      c.self.inside.places.ok.0,
    )

pub returns : goal.returns
returns c =
    let below : c.args.v < length c.self.inside.slots.items = omega (
      arith,
      count_is c.self.inside c.args.self.now c.self.view_is c.self.invariant,
      c.requires.vertex,
    ) in
    let slot : get_or c.self.inside.slots.items c.args.v 0
    ≡ suc (c.index-slot.result.now - 1) = sym
    (get_or_default c.self.inside.slots.items c.args.v c.index-slot.result.now 0 below)
    ∙ sym c.index-slot.ensures
    ∙ (let e : c.index-slot.result.now ≡ suc (c.index-slot.result.now - 1) = omega arith in
    e) in
    c.index.ensures ∙ get_or_default c.self.inside.places.items
    ((c.index-slot.result.now - 1) * c.self.inside.width + c.args.i) c.index.result.now 0
    (place_inside c.self.inside c.args.self.now c.self.view_is c.self.invariant c.args.v c.args.i
    c.requires.vertex c.requires.iteration (c.index-slot.result.now - 1) slot)
    ∙ place_there c.self.inside c.args.self.now c.self.view_is c.self.invariant c.args.v c.args.i
    c.requires.vertex c.requires.iteration (c.index-slot.result.now - 1) slot
