use Rattle.std.proofs.Common.{◌∙◌, ap}
use Rattle.std.proofs.lemmas.Result.{err_from_is_err_and}
use Rattle.program_files.specs.Judged.{judged}
use Rattle.program_files.proofs.ReadSteps.{judged-file, Reads-program}
use Rattle.program_files.proofs.loading.load_program.Goals as goal

pub returns-clause-program : goal.returns-clause-program
returns-clause-program g c =
    judged-file c.args.name.now c.in_ok-text.text.items (g.S.Shelf.told c.args.shelf.now)
    (g.S.Shelf.told c.open.new.shelf) (g.S.Shelf.opened c.args.shelf.now) c.in_ok-slot.slot _
    (g.met.S.Shelf.tells_slots c.args.shelf.now) c.in_ok-slot.ensures.slot c.in_ok-slot.ensures.told
    c.in_ok-text.ensures.text
    (c.in_ok-judge.ensures.judged ∙ ap judged c.deref.ensures.value)

pub returns-clause-reads : goal.returns-clause-reads
returns-clause-reads g c =
    Reads-program c.args.name.now _ (g.S.Shelf.told c.args.shelf.now)
    (g.S.Shelf.told c.open.new.shelf) (g.S.Shelf.told c.read_text.new.shelf)
    (g.S.Shelf.opened c.args.shelf.now) (g.S.Shelf.opened c.open.new.shelf)
    (g.S.Shelf.opened c.read_text.new.shelf) c.in_ok-slot.slot _
    (g.met.S.Shelf.tells_slots c.args.shelf.now) c.in_ok-slot.ensures.slot c.in_ok-slot.ensures.told
    c.in_ok-slot.ensures.opened c.read_text.ensures.took c.read_text.ensures.opened (λ wrong. cc)

-- ---- the reading stopped
pub returns-in_err-text-clause-reads : goal.returns-in_err-text-clause-reads
returns-in_err-text-clause-reads g c =
    let p = err_from_is_err_and c.from_residual-in_err-text.result
    c.from_residual-in_err-text.ensures.1 in
    rw (p.1, p.2)
    (Reads-program c.args.name.now _ (g.S.Shelf.told c.args.shelf.now)
    (g.S.Shelf.told c.open.new.shelf) (g.S.Shelf.told c.read_text.new.shelf)
    (g.S.Shelf.opened c.args.shelf.now) (g.S.Shelf.opened c.open.new.shelf)
    (g.S.Shelf.opened c.read_text.new.shelf) c.in_ok-slot.slot _
    (g.met.S.Shelf.tells_slots c.args.shelf.now) c.in_ok-slot.ensures.slot c.in_ok-slot.ensures.told
    c.in_ok-slot.ensures.opened c.read_text.ensures.took c.read_text.ensures.opened
    (λ is. c.in_err-text.ensures.no_length (cc)))

-- ---- no memory for the judging
pub returns-in_err-judge-clause-reads : goal.returns-in_err-judge-clause-reads
returns-in_err-judge-clause-reads g c =
    let p = err_from_is_err_and c.from_residual-in_err-judge.result
    c.from_residual-in_err-judge.ensures.1 in
    rw (p.1, p.2)
    (Reads-program c.args.name.now _ (g.S.Shelf.told c.args.shelf.now)
    (g.S.Shelf.told c.open.new.shelf) (g.S.Shelf.told c.read_text.new.shelf)
    (g.S.Shelf.opened c.args.shelf.now) (g.S.Shelf.opened c.open.new.shelf)
    (g.S.Shelf.opened c.read_text.new.shelf) c.in_ok-slot.slot _
    (g.met.S.Shelf.tells_slots c.args.shelf.now) c.in_ok-slot.ensures.slot c.in_ok-slot.ensures.told
    c.in_ok-slot.ensures.opened c.read_text.ensures.took c.read_text.ensures.opened (λ wrong. cc))
