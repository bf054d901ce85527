use Rattle.std.proofs.Common.{◌≡◌, ◌<◌, ◌+◌, ◌-◌, ◌*◌, ap, ◌∙◌, suc, length, get_or, set, map, []}
use Rattle.std.proofs.Common.{arith}
use Rattle.agg_history.specs.Places.{line_of, place_at}
use Rattle.std.proofs.lemmas.List.{get_or_default, get_or-set_same}
use Rattle.agg_history.proofs.PlacesAre.{count_is, width_is, touched_is, slot_of, place_inside}
use Rattle.agg_history.proofs.PlacesAre.{place_put, line_width}
use Rattle.agg_history.proofs.places.Places.set.Goals as goal

pub overflow_sub-slot : goal.overflow_sub-slot
overflow_sub-slot c =
    let s = slot_of c.self.inside c.args.self.now c.self.view_is c.self.invariant c.args.v
    c.requires.vertex c.requires.touched in
    let below : c.args.v < length c.self.inside.slots.items = omega (
      arith,
      count_is c.self.inside c.args.self.now c.self.view_is c.self.invariant,
      c.requires.vertex,
    ) in
    let is : c.index-slot.result.now ≡ suc s.0 = c.index-slot.ensures
    ∙ get_or_default c.self.inside.slots.items c.args.v c.index-slot.result.now 0 below ∙ s.1 in
    omega arith

pub index_mut-requires : goal.index_mut-requires
index_mut-requires c =
    let s = slot_of c.self.inside c.args.self.now c.self.view_is c.self.invariant c.args.v
    c.requires.vertex c.requires.touched in
    let below : c.args.v < length c.self.inside.slots.items = omega (
      arith,
      count_is c.self.inside c.args.self.now c.self.view_is c.self.invariant,
      c.requires.vertex,
    ) in
    let is : c.index-slot.result.now ≡ suc s.0 = c.index-slot.ensures
    ∙ get_or_default c.self.inside.slots.items c.args.v c.index-slot.result.now 0 below ∙ s.1 in
    let less : c.index-slot.result.now - 1 ≡ s.0 = omega arith in
    let at = ap (λ k. k * c.self.inside.width + c.args.i) less in
    omega (
      arith,
      at,
      place_inside c.self.inside c.args.self.now c.self.view_is c.self.invariant c.args.v c.args.i
          c.requires.vertex c.requires.iteration s.0 s.1,
      c.self.inside.places.ok.0,
    )

pub returns-clause-table : goal.returns-clause-table
returns-clause-table c =
    let s = slot_of c.self.inside c.args.self.now c.self.view_is c.self.invariant c.args.v
    c.requires.vertex c.requires.touched in
    let below : c.args.v < length c.self.inside.slots.items = omega (
      arith,
      count_is c.self.inside c.args.self.now c.self.view_is c.self.invariant,
      c.requires.vertex,
    ) in
    let is : c.index-slot.result.now ≡ suc s.0 = c.index-slot.ensures
    ∙ get_or_default c.self.inside.slots.items c.args.v c.index-slot.result.now 0 below ∙ s.1 in
    let less : c.index-slot.result.now - 1 ≡ s.0 = omega arith in
    let all = ap (λ k.
    map (line_of c.self.inside.width
    (set c.self.inside.places.items (k * c.self.inside.width + c.args.i) c.args.place))
    c.self.inside.slots.items) less
    ∙ place_put c.self.inside c.args.self.now c.self.view_is c.self.invariant c.args.v c.args.i
    c.requires.vertex c.requires.iteration s.0 c.args.place s.1 in
    λ i. record {
      width = width_is c.self.inside c.args.self.now c.self.view_is c.self.invariant i;
      touched = touched_is c.self.inside c.args.self.now c.self.view_is c.self.invariant i;
      table = all i;
    }

pub returns-clause-there : goal.returns-clause-there
returns-clause-there c =
    let s = slot_of c.self.inside c.args.self.now c.self.view_is c.self.invariant c.args.v
    c.requires.vertex c.requires.touched in
    let below : c.args.v < length c.self.inside.slots.items = omega (
      arith,
      count_is c.self.inside c.args.self.now c.self.view_is c.self.invariant,
      c.requires.vertex,
    ) in
    let is : c.index-slot.result.now ≡ suc s.0 = c.index-slot.ensures
    ∙ get_or_default c.self.inside.slots.items c.args.v c.index-slot.result.now 0 below ∙ s.1 in
    let less : c.index-slot.result.now - 1 ≡ s.0 = omega arith in
    let all = ap (λ k.
    map (line_of c.self.inside.width
    (set c.self.inside.places.items (k * c.self.inside.width + c.args.i) c.args.place))
    c.self.inside.slots.items) less
    ∙ place_put c.self.inside c.args.self.now c.self.view_is c.self.invariant c.args.v c.args.i
    c.requires.vertex c.requires.iteration s.0 c.args.place s.1 in
    let line = get_or c.args.self.now.table c.args.v [] in
    ap (λ table. place_at table c.args.v c.args.i) all
    ∙ ap (λ xs. get_or xs c.args.i 0)
    (get_or-set_same c.args.self.now.table c.args.v
    (set line c.args.i c.args.place) [] c.requires.vertex)
    ∙ get_or-set_same line c.args.i c.args.place 0
    (omega (
      arith,
      line_width c.self.inside c.args.self.now c.self.view_is c.self.invariant
          c.args.v c.requires.vertex,
      c.requires.iteration,
    ))
