use Rattle.std.proofs.Common.{◌≡◌, ◌<◌, ◌+◌, ◌*◌, ◌++◌, ◌∙◌, ap, sym, arith, length, take, drop}
use Rattle.std.proofs.lemmas.List.{with_items_is}
use Rattle.run_model.specs.Logs.{with_value}
use Rattle.run_model.specs.Rows.{Lists}
use Rattle.board.specs.Halls.{values_in}
use Rattle.board.proofs.Flat.{overwritten}
use Rattle.board.proofs.PlacesAre.{count_is, overwritten_is_long, room_is, value_ends_inside}
use Rattle.board.proofs.PlacesAre.{values_are, width_is}
use Rattle.board.proofs.Roomy.{written_in_use, written_next}
use Rattle.board.proofs.places.Places.write.Goals as goal

pub overwrite-requires : goal.overwrite-requires
overwrite-requires c =
    let r = c.self.inside in
    let there : c.args.vertex < r.room = omega (
      arith,
      room_is r c.args.self.now c.self.view_is c.self.invariant,
      c.requires.room,
    ) in
    let wide : length c.args.value.now ≡ r.width =
    c.requires.width ∙ sym (width_is r c.args.self.now c.self.view_is c.self.invariant) in
    omega (
      arith,
      value_ends_inside r.width r.room r.used r.words.items c.self.invariant c.args.vertex
          c.args.value.now there wide,
      ap length c.as_slice.ensures,
      ap length c.deref_mut.ensures.value,
    )

pub returns-then-vertex-self : goal.returns-then-vertex-self
returns-then-vertex-self c =
    let r = c.self.inside in
    let t = c.args.self.now in
    let x = c.args.value.now in
    let at = c.args.vertex * r.width in
    let there : c.args.vertex < r.room = omega
    (arith, room_is r t c.self.view_is c.self.invariant, c.requires.room) in
    let wide : length x ≡ r.width =
    c.requires.width ∙ sym (width_is r t c.self.view_is c.self.invariant) in
    let new : c.overwrite.new.words ≡ overwritten at x r.words.items =
    c.overwrite.ensures
    ∙ ap (λ ws. take at ws
    ++ (c.as_slice.result.now ++ drop (at + length c.as_slice.result.now) ws))
    c.deref_mut.ensures.value
    ∙ ap (λ xs. take at r.words.items ++ (xs ++ drop (at + length xs) r.words.items))
    c.as_slice.ensures in
    let long : length c.overwrite.new.words ≡ r.words.len = omega (
      arith,
      ap length new,
      overwritten_is_long r.width r.room r.used r.words.items c.self.invariant c.args.vertex x
          there wide,
      r.words.ok.0,
    ) in
    let values =
    ap (values_in r.width (r.used + 1)) (with_items_is r.words c.overwrite.new.words long ∙ new)
    ∙ written_next r.width r.room r.used r.words.items c.self.invariant c.args.vertex x wide
    c.if-vertex-self.true there
    ∙ ap (λ (l : Lists). with_value l c.args.vertex x)
    (values_are r t c.self.view_is c.self.invariant) in
    λ i. record {
      values = values i;
      room = room_is r t c.self.view_is c.self.invariant i;
      width = width_is r t c.self.view_is c.self.invariant i;
    }

pub returns-else-vertex-self : goal.returns-else-vertex-self
returns-else-vertex-self c =
    let r = c.self.inside in
    let t = c.args.self.now in
    let x = c.args.value.now in
    let at = c.args.vertex * r.width in
    let there : c.args.vertex < r.room = omega
    (arith, room_is r t c.self.view_is c.self.invariant, c.requires.room) in
    let wide : length x ≡ r.width =
    c.requires.width ∙ sym (width_is r t c.self.view_is c.self.invariant) in
    let low : c.args.vertex < r.used = omega (
      arith,
      count_is r t c.self.view_is c.self.invariant,
      c.requires.next,
      c.if-vertex-self.false,
    ) in
    let new : c.overwrite.new.words ≡ overwritten at x r.words.items =
    c.overwrite.ensures
    ∙ ap (λ ws. take at ws
    ++ (c.as_slice.result.now ++ drop (at + length c.as_slice.result.now) ws))
    c.deref_mut.ensures.value
    ∙ ap (λ xs. take at r.words.items ++ (xs ++ drop (at + length xs) r.words.items))
    c.as_slice.ensures in
    let long : length c.overwrite.new.words ≡ r.words.len = omega (
      arith,
      ap length new,
      overwritten_is_long r.width r.room r.used r.words.items c.self.invariant c.args.vertex x
          there wide,
      r.words.ok.0,
    ) in
    let values =
    ap (values_in r.width r.used) (with_items_is r.words c.overwrite.new.words long ∙ new)
    ∙ written_in_use r.width r.room r.used r.words.items c.self.invariant c.args.vertex x wide low
    ∙ ap (λ (l : Lists). with_value l c.args.vertex x)
    (values_are r t c.self.view_is c.self.invariant) in
    λ i. record {
      values = values i;
      room = room_is r t c.self.view_is c.self.invariant i;
      width = width_is r t c.self.view_is c.self.invariant i;
    }
