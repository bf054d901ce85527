use Rattle.std.proofs.Common.{◌≡◌, ◌<◌, ◌+◌, ◌-◌, ◌*◌, ◌++◌, ◌∷◌, [], ℕ, List, sym, ap, ◌∙◌, suc}
use Rattle.std.proofs.Common.{length, get_or, set, map, take, replicate, subst, arith}
use Rattle.std.proofs.lemmas.List.{get_or_default, length_push, length-set, take_all, take_at}
use Rattle.agg_history.specs.Numbered.{AreNumbered}
use Rattle.agg_history.specs.Places.{line_of}
use Rattle.agg_history.proofs.PlaceLemmas.{longer, touched_more, touched_room, same_table}
use Rattle.agg_history.proofs.PlacesAre.{count_is, table_is, touched_from_slot}
use Rattle.agg_history.proofs.places.Places.touch.Goals as goal

-- the places with a line of zeros more
resized : (places : List ℕ) (w old len : ℕ) → old ≡ len → len ≡ length places
    → take (old + w) places ++ replicate (old + w - len) 0 ≡ places ++ replicate w 0
resized places w old len e f =
    ap (λ xs. xs ++ replicate (old + w - len) 0) (take_all (old + w) places (omega arith))
    ∙ ap (λ n. places ++ replicate n 0) (let g : old + w - len ≡ w = omega arith in g)

pub returns-then-index-ne0-clause-touched : goal.returns-then-index-ne0-clause-touched
returns-then-index-ne0-clause-touched c =
    let below : c.args.v < length c.self.inside.slots.items = omega (
      arith,
      count_is c.self.inside c.args.self.now c.self.view_is c.self.invariant,
      c.requires,
    ) in
    let slot : get_or c.self.inside.slots.items c.args.v 0
    ≡ suc (c.index.result.now - 1) = sym
    (get_or_default c.self.inside.slots.items c.args.v c.index.result.now 0 below)
    ∙ sym c.index.ensures
    ∙ (let e : c.index.result.now
    ≡ suc (c.index.result.now - 1) = omega (arith, c.if-index-ne0.true) in e) in
    touched_from_slot c.self.inside c.args.self.now c.self.view_is c.self.invariant c.args.v
    (c.index.result.now - 1) c.requires slot

pub overflow_cast-len : goal.overflow_cast-len
overflow_cast-len c =
    let below : c.args.v < length c.self.inside.slots.items = omega (
      arith,
      count_is c.self.inside c.args.self.now c.self.view_is c.self.invariant,
      c.requires,
    ) in
    let new : get_or c.self.inside.slots.items c.args.v 0
    ≡ 0 = sym (get_or_default c.self.inside.slots.items c.args.v c.index.result.now 0 below)
    ∙ sym c.index.ensures ∙ c.if-index-ne0.false in
    let room = touched_room c.self.inside.width c.self.inside.slots.items
    c.self.inside.touched.items c.self.inside.places.items c.self.invariant.long
    c.self.invariant.numbered c.args.v below new in
    omega (
      arith,
      room,
      c.self.invariant.few,
      c.len.ensures,
      c.push.new.self.ok.0,
      ap length c.in-Ok.ensures.items,
      length_push c.self.inside.touched.items c.args.v,
    )

pub invariant_of-self-in-Ok : goal.invariant_of-self-in-Ok
invariant_of-self-in-Ok c =
    let below : c.args.v < length c.self.inside.slots.items = omega (
      arith,
      count_is c.self.inside c.args.self.now c.self.view_is c.self.invariant,
      c.requires,
    ) in
    let new : get_or c.self.inside.slots.items c.args.v 0
    ≡ 0 = sym (get_or_default c.self.inside.slots.items c.args.v c.index.result.now 0 below)
    ∙ sym c.index.ensures ∙ c.if-index-ne0.false in
    let places = c.in_ok-resize.ensures.items
    ∙ resized c.self.inside.places.items c.self.inside.width c.len-old.result
    c.self.inside.places.len c.len-old.ensures
    (let e : c.self.inside.places.len
    ≡ length c.self.inside.places.items = omega (arith, c.self.inside.places.ok.0) in e) in
    let count : c.len.result
    ≡ suc (length c.self.inside.touched.items) = omega (
      arith,
      c.len.ensures,
      c.push.new.self.ok.0,
      ap length c.in-Ok.ensures.items,
      length_push c.self.inside.touched.items c.args.v,
    ) in
    let long = longer c.self.inside.width c.self.inside.slots.items c.self.inside.touched.items
    c.self.inside.places.items c.self.invariant.long c.self.invariant.numbered c.args.v below
    new in
    let numbered = touched_more c.self.inside.width c.self.inside.slots.items
    c.self.inside.touched.items c.self.inside.places.items c.self.invariant.long
    c.self.invariant.numbered c.args.v below new in
    record {
      narrow = c.self.invariant.narrow;
      few = omega (
        arith,
        c.self.invariant.few,
        length-set c.self.inside.slots.items c.args.v c.len.result,
      );
      long = ap length places ∙ long
          ∙ ap (λ xs. length xs * c.self.inside.width) (sym c.in-Ok.ensures.items);
      numbered = subst (λ xs.
          AreNumbered (λ u. get_or (set c.self.inside.slots.items c.args.v c.len.result) u 0)
          (length (set c.self.inside.slots.items c.args.v c.len.result)) xs)
          (sym c.in-Ok.ensures.items)
          (subst (λ n. AreNumbered (λ u. get_or (set c.self.inside.slots.items c.args.v n) u 0)
          (length (set c.self.inside.slots.items c.args.v n))
          (c.self.inside.touched.items ++ c.args.v ∷ [])) (sym count) numbered);
    }

pub invariant_of-self-in-Err : goal.invariant_of-self-in-Err
invariant_of-self-in-Err c =
    let places = c.in_ok-resize.ensures.items
    ∙ resized c.self.inside.places.items c.self.inside.width c.len-old.result
    c.self.inside.places.len c.len-old.ensures
    (let e : c.self.inside.places.len
    ≡ length c.self.inside.places.items = omega (arith, c.self.inside.places.ok.0) in e) in
    let back = c.truncate.ensures.items ∙ ap (take c.len-old.result) places
    ∙ take_at c.self.inside.places.items (replicate c.self.inside.width 0) c.len-old.result
    (let e : length c.self.inside.places.items
    ≡ c.len-old.result = omega (arith, c.len-old.ensures, c.self.inside.places.ok.0) in e) in
    record {
      narrow = c.self.invariant.narrow;
      few = c.self.invariant.few;
      long = ap length back ∙ c.self.invariant.long
          ∙ ap (λ xs. length xs * c.self.inside.width) (sym c.in-Err.ensures.items);
      numbered = subst (λ xs.
          AreNumbered (λ u. get_or c.self.inside.slots.items u 0)
          (length c.self.inside.slots.items) xs)
          (sym c.in-Err.ensures.items) c.self.invariant.numbered;
    }

pub returns-in-Ok-clause-table : goal.returns-in-Ok-clause-table
returns-in-Ok-clause-table c =
    let below : c.args.v < length c.self.inside.slots.items = omega (
      arith,
      count_is c.self.inside c.args.self.now c.self.view_is c.self.invariant,
      c.requires,
    ) in
    let new : get_or c.self.inside.slots.items c.args.v 0
    ≡ 0 = sym (get_or_default c.self.inside.slots.items c.args.v c.index.result.now 0 below)
    ∙ sym c.index.ensures ∙ c.if-index-ne0.false in
    let places = c.in_ok-resize.ensures.items
    ∙ resized c.self.inside.places.items c.self.inside.width c.len-old.result
    c.self.inside.places.len c.len-old.ensures
    (let e : c.self.inside.places.len
    ≡ length c.self.inside.places.items = omega (arith, c.self.inside.places.ok.0) in e) in
    let count : c.len.result
    ≡ suc (length c.self.inside.touched.items) = omega (
      arith,
      c.len.ensures,
      c.push.new.self.ok.0,
      ap length c.in-Ok.ensures.items,
      length_push c.self.inside.touched.items c.args.v,
    ) in
    ap (λ xs. map (line_of c.self.inside.width xs)
    (set c.self.inside.slots.items c.args.v c.len.result)) places
    ∙ ap (λ n. map (line_of c.self.inside.width
    (c.self.inside.places.items ++ replicate c.self.inside.width 0))
    (set c.self.inside.slots.items c.args.v n)) count
    ∙ same_table c.self.inside.width c.self.inside.slots.items c.self.inside.touched.items
    c.self.inside.places.items c.self.invariant.long c.self.invariant.numbered c.args.v below
    new
    ∙ table_is c.self.inside c.args.self.now c.self.view_is c.self.invariant
