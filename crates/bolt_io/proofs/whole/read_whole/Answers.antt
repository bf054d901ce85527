use Rattle.std.proofs.Common.{◌+◌, ◌-◌, ◌≤◌, ℕ, List, length, take, drop, sym, ap, ◌∙◌}
use Rattle.std.proofs.Common.{subst, arith, rules, length-append, length-drop}
use Rattle.std.proofs.lemmas.List.{length-take}
use Rattle.bolt_io.specs.Told.{Took}
use Rattle.bolt_io.proofs.TakenLemmas.{Took-none, Took-then, read_behind, slot_told}
use Rattle.bolt_io.proofs.whole.read_whole.Goals as goal

pub pieces-init : goal.pieces-init
pieces-init g c = record {
  took = subst (λ (l : List ℕ). Took (g.S.Shelf.told c.args.shelf.now)
      (g.S.Shelf.told c.args.shelf.now) c.args.slot l) (sym c.new-bytes.ensures.items)
      (Took-none _ c.args.slot);
  within = omega (arith, ap length c.new-bytes.ensures.items);
  opened = search rules;
  calm = search rules;
}

pub returns-then-n-eq0-clause-took : goal.returns-then-n-eq0-clause-took
returns-then-n-eq0-clause-took g c =
    let below = slot_told (g.S.Shelf.told c.args.shelf.now) (g.S.Shelf.opened c.args.shelf.now)
    c.args.slot (g.met.S.Shelf.tells_slots c.args.shelf.now) c.requires in
    let n = c.in-Ok-read.n in
    let buf = c.read.new.buf in
    let at = c.len-taken.result in
    let view = c.deref_mut.result.now in
    let whole = c.read.auto.buf in
    let within : n ≤ length buf = omega (arith, c.in-Ok-read.ensures.within, whole) in
    let size = c.pieces.bytes.ok.0 in
    let grown = c.in-Ok.ensures.len in
    let full = c.resize.new.self.ok.0 in
    let seen = ap length c.deref_mut.ensures.value in
    let room : at + n ≤ c.resize.new.self.len =
    omega (
      arith,
      within,
      whole,
      grown,
      full,
      seen,
      length-take (length view - at) (drop at view),
      length-drop at view,
    ) in
    let is = read_behind c.pieces.bytes.items c.resize.new.self.items view
    c.truncate.new.self.items buf _ at _ n c.resize.new.self.len (at + c.min-room.result)
    (omega (arith, c.len-taken.ensures, size)) (omega arith) c.in-Ok.ensures.items
    c.deref_mut.ensures.value within room c.truncate.ensures.items in
    let took = Took-then _ _ _ c.args.slot n _ buf below c.pieces.invariant.took
    c.in-Ok-read.ensures.told c.in-Ok-read.ensures.bytes within in
    subst (λ (l : List ℕ). Took (g.S.Shelf.told c.args.shelf.now) (g.S.Shelf.told c.read.new.self)
    c.args.slot l) (sym {A = List ℕ} is) took

pub returns-then-n-eq0-clause-part : goal.returns-then-n-eq0-clause-part
returns-then-n-eq0-clause-part g c =
    (c.truncate.new.self.items, returns-then-n-eq0-clause-took g c)

pub pieces-preserved : goal.pieces-preserved
pieces-preserved g c =
    let below = slot_told (g.S.Shelf.told c.args.shelf.now) (g.S.Shelf.opened c.args.shelf.now)
    c.args.slot (g.met.S.Shelf.tells_slots c.args.shelf.now) c.requires in
    let n = c.in-Ok-read.n in
    let buf = c.read.new.buf in
    let at = c.len-taken.result in
    let view = c.deref_mut.result.now in
    let whole = c.read.auto.buf in
    let within : n ≤ length buf = omega (arith, c.in-Ok-read.ensures.within, whole) in
    let size = c.pieces.bytes.ok.0 in
    let grown = c.in-Ok.ensures.len in
    let full = c.resize.new.self.ok.0 in
    let seen = ap length c.deref_mut.ensures.value in
    let room : at + n ≤ c.resize.new.self.len =
    omega (
      arith,
      within,
      whole,
      grown,
      full,
      seen,
      length-take (length view - at) (drop at view),
      length-drop at view,
    ) in
    let is = read_behind c.pieces.bytes.items c.resize.new.self.items view
    c.truncate.new.self.items buf _ at _ n c.resize.new.self.len (at + c.min-room.result)
    (omega (arith, c.len-taken.ensures, size)) (omega arith) c.in-Ok.ensures.items
    c.deref_mut.ensures.value within room c.truncate.ensures.items in
    let took = Took-then _ _ _ c.args.slot n _ buf below c.pieces.invariant.took
    c.in-Ok-read.ensures.told c.in-Ok-read.ensures.bytes within in
    record {
      took = subst (λ (l : List ℕ). Took (g.S.Shelf.told c.args.shelf.now)
          (g.S.Shelf.told c.read.new.self) c.args.slot l) (sym {A = List ℕ} is) took;
      within = omega (
        arith,
        ap length is,
        length-append c.pieces.bytes.items (take n buf),
        length-take n buf,
        size,
        grown,
        full,
        room,
        c.min-room.ensures,
        c.len-taken.ensures,
        c.pieces.invariant.within,
      );
      opened = c.in-Ok-read.ensures.opened ∙ c.pieces.invariant.opened;
      calm = c.in-Ok-read.ensures.calm ∙ c.pieces.invariant.calm;
    }
