use Rattle.std.proofs.Common.{◌≡◌, ◌<◌, ◌∙◌, ℕ, ℤ, List, ap, arith, length}
use Rattle.run_model.specs.Logs.{with_value}
use Rattle.board.specs.Halls.{fitted}
use Rattle.board.proofs.PlacesAre.{count_is, room_is}
use Rattle.board.proofs.Roomy.{no_place_past, no_place_left, place_is_found}
use Rattle.board.proofs.places.Places.put.Goals as goal

pub returns-then-change-self : goal.returns-then-change-self
returns-then-change-self c =
    let t = c.args.self.now in
    let past : length t.values < c.args.change.now.vertex = omega
    (arith, count_is c.self.inside t c.self.view_is c.self.invariant, c.if-change-self.true) in
    let same = no_place_past t.width t.room t.values c.args.change.now.vertex
    c.args.change.now.value past in
    λ i. record { values = same i; room = t.room; width = t.width }

pub returns-then-change-self-2 : goal.returns-then-change-self-2
returns-then-change-self-2 c =
    let t = c.args.self.now in
    let count = count_is c.self.inside t c.self.view_is c.self.invariant in
    let room = room_is c.self.inside t c.self.view_is c.self.invariant in
    let fits = c.self.invariant.fits in
    let same = no_place_left t.width t.room t.values c.args.change.now.vertex
    c.args.change.now.value (omega (arith, count, c.if-change-self.false))
    (omega (arith, count, room, fits)) (omega (arith, room, c.if-change-self-2.true)) in
    λ i. record { values = same i; room = t.room; width = t.width }

pub write-requires-clause-next : goal.write-requires-clause-next
write-requires-clause-next c = omega (
  arith,
  count_is c.self.inside c.args.self.now c.self.view_is c.self.invariant,
  c.if-change-self.false,
)

pub returns : goal.returns
returns c =
    let t = c.args.self.now in
    let v = c.args.change.now.vertex in
    let x = c.args.change.now.value in
    let count = count_is c.self.inside t c.self.view_is c.self.invariant in
    let room = room_is c.self.inside t c.self.view_is c.self.invariant in
    let held : c.fitted-value.result ≡ fitted t.width x =
    c.fitted-value.ensures ∙ ap (λ (w : ℕ). fitted w x) c.width.ensures.width in
    let same = ap (λ (y : List ℤ). with_value t.values v y) held
    ∙ place_is_found t.width t.room t.values v x (omega (arith, count, c.if-change-self.false))
    (omega (arith, room, c.if-change-self-2.false)) in
    c.write.ensures ∙ (λ i. record { values = same i; room = t.room; width = t.width })
