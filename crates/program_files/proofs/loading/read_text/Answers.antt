use Rattle.std.proofs.Common.{◌≡◌, ◌≤◌, ◌∙◌, ◌++◌, ℕ, List, length, take, sym, ap, subst, arith}
use Rattle.std.proofs.Common.{rules, length-append}
use Rattle.std.specs.Option.{option_map}
use Rattle.std.specs.Prelude.{IfSome}
use Rattle.std.proofs.lemmas.List.{length-take}
use Rattle.bolt_io.specs.Told.{Took, taken_from, left, GivesNext}
use Rattle.bolt_io.proofs.TakenLemmas.{Took-none, Took-then, Took-end, slot_told}
use Rattle.program_files.proofs.ReadSteps.{TookTo-text, text-far, text-ended}
use Rattle.program_files.proofs.loading.read_text.Goals as goal

pub pieces-init : goal.pieces-init
pieces-init g c = record {
  took =
      subst (λ (l : List ℕ). Took (g.S.Shelf.told c.args.shelf.now)
      (g.S.Shelf.told c.args.shelf.now) c.args.slot l) (sym c.new-text.ensures.items)
      (Took-none _ c.args.slot);
  within = omega (arith, ap length c.new-text.ensures.items);
  opened = search rules;
  calm = search rules;
}

-- ---- the slot's end
pub returns-then-n-eq0-clause-text : goal.returns-then-n-eq0-clause-text
returns-then-n-eq0-clause-text g c =
    let below = slot_told (g.S.Shelf.told c.args.shelf.now) (g.S.Shelf.opened c.args.shelf.now)
    c.args.slot (g.met.S.Shelf.tells_slots c.args.shelf.now) c.requires in
    let told = subst (λ n. g.S.Shelf.told c.read.new.self
    ≡ option_map (taken_from c.args.slot n) (g.S.Shelf.told c.pieces.shelf)) c.if-n-eq0.true
    c.in-Ok.ensures.told in
    let gives = subst (λ n. IfSome (g.S.Shelf.told c.pieces.shelf)
    (λ t. GivesNext (left t c.args.slot) n c.read.new.buf)) c.if-n-eq0.true
    c.in-Ok.ensures.bytes in
    text-ended (g.S.Shelf.told c.args.shelf.now) c.args.slot c.pieces.text.items
    c.pieces.invariant.within
    (Took-end _ _ _ c.args.slot _ _ below c.pieces.invariant.took told gives).1

pub returns-then-n-eq0-clause-took : goal.returns-then-n-eq0-clause-took
returns-then-n-eq0-clause-took g c =
    let below = slot_told (g.S.Shelf.told c.args.shelf.now) (g.S.Shelf.opened c.args.shelf.now)
    c.args.slot (g.met.S.Shelf.tells_slots c.args.shelf.now) c.requires in
    let told = subst (λ n. g.S.Shelf.told c.read.new.self
    ≡ option_map (taken_from c.args.slot n) (g.S.Shelf.told c.pieces.shelf)) c.if-n-eq0.true
    c.in-Ok.ensures.told in
    let gives = subst (λ n. IfSome (g.S.Shelf.told c.pieces.shelf)
    (λ t. GivesNext (left t c.args.slot) n c.read.new.buf)) c.if-n-eq0.true
    c.in-Ok.ensures.bytes in
    TookTo-text (g.S.Shelf.told c.args.shelf.now) _ c.args.slot c.pieces.text.items
    c.pieces.invariant.within
    (Took-end _ _ _ c.args.slot _ _ below c.pieces.invariant.took told gives).0

-- ---- one piece more
pub pieces-preserved : goal.pieces-preserved
pieces-preserved g c =
    let below = slot_told (g.S.Shelf.told c.args.shelf.now) (g.S.Shelf.opened c.args.shelf.now)
    c.args.slot (g.met.S.Shelf.tells_slots c.args.shelf.now) c.requires in
    let n = c.in-Ok.n in
    let items = c.in-Ok-extend_from_slice.ensures.items in
    let whole = c.read.auto.buf in
    let in_buf : n ≤ length c.read.new.buf = omega (arith, c.in-Ok.ensures.within, whole) in
    let room : n ≤ c.min-room.result = omega
    (arith, c.in-Ok.ensures.within, length-take c.min-room.result c.pieces.buf) in
    let took = Took-then _ _ _ c.args.slot n _ c.read.new.buf below c.pieces.invariant.took
    c.in-Ok.ensures.told c.in-Ok.ensures.bytes in_buf in
    record {
      took =
          subst (λ (l : List ℕ). Took (g.S.Shelf.told c.args.shelf.now)
          (g.S.Shelf.told c.read.new.self) c.args.slot l) (sym {A = List ℕ} items) took;
      within =
          omega (
            arith,
            ap length items,
            length-append c.pieces.text.items
                (take n c.read.new.buf),
            length-take n c.read.new.buf,
            room,
            c.min-room.ensures,
            c.len-in-pieces.ensures,
            c.pieces.invariant.within,
          );
      opened = c.in-Ok.ensures.opened ∙ c.pieces.invariant.opened;
      calm = c.in-Ok.ensures.calm ∙ c.pieces.invariant.calm;
    }

-- ---- no memory for a piece
pub returns-in_default-extend_from_slice-clause-took
    : goal.returns-in_default-extend_from_slice-clause-took
returns-in_default-extend_from_slice-clause-took g c =
    let below = slot_told (g.S.Shelf.told c.args.shelf.now) (g.S.Shelf.opened c.args.shelf.now)
    c.args.slot (g.met.S.Shelf.tells_slots c.args.shelf.now) c.requires in
    let n = c.in-Ok.n in
    let whole = c.read.auto.buf in
    let in_buf : n ≤ length c.read.new.buf = omega (arith, c.in-Ok.ensures.within, whole) in
    let room : n ≤ c.min-room.result = omega
    (arith, c.in-Ok.ensures.within, length-take c.min-room.result c.pieces.buf) in
    TookTo-text (g.S.Shelf.told c.args.shelf.now) _ c.args.slot
    (c.pieces.text.items ++ take n c.read.new.buf)
    (omega (
      arith,
      length-append c.pieces.text.items
          (take n c.read.new.buf),
      length-take n c.read.new.buf,
      room,
      c.min-room.ensures,
      c.len-in-pieces.ensures,
      c.pieces.invariant.within,
    ))
    (Took-then _ _ _ c.args.slot n _ c.read.new.buf below c.pieces.invariant.took
    c.in-Ok.ensures.told c.in-Ok.ensures.bytes in_buf)

-- ---- as far as is read
pub returns-clause-text : goal.returns-clause-text
returns-clause-text g c =
    text-far (g.S.Shelf.told c.args.shelf.now) (g.S.Shelf.told c.pieces.shelf) c.args.slot
    c.pieces.text.items
    (omega (arith, c.pieces.invariant.within, c.pieces-test.false, c.len.ensures))
    c.pieces.invariant.took

pub returns-clause-took : goal.returns-clause-took
returns-clause-took g c =
    TookTo-text (g.S.Shelf.told c.args.shelf.now) (g.S.Shelf.told c.pieces.shelf) c.args.slot
    c.pieces.text.items c.pieces.invariant.within c.pieces.invariant.took
