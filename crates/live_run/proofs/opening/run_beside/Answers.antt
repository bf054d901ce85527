use Rattle.std.proofs.Common.{◌≡◌, ◌<◌, arith, length, List, sym, ap, subst}
use Rattle.std.specs.List.{All}
use Rattle.vertex_expr.specs.declared.program.ProgramEntries.{ProgramEntries}
use Rattle.run_model.specs.Program.{lanes}
use Rattle.board.specs.declared.kinds.Origin.{Origin}
use Rattle.live_text.specs.Questions.{AreWithin}
use Rattle.live_works.specs.Shop.{Shop, Standing}
use Rattle.live_works.proofs.Standings.{new_works_stand}
use Rattle.live_run.proofs.opening.run_beside.Goals as goal

pub run-requires-clause-standing : goal.run-requires-clause-standing
run-requires-clause-standing g c κs held =
    let b = c.requires.beside in
    subst (Standing c.args.publisher.now) (sym c.in_ok-works.ensures)
    (new_works_stand c.args.publisher.now c.args.engine c.args.streams.now b.begins b.roomy
    b.unpublished b.free c.requires.new c.requires.opened)

pub run-requires-clause-lane : goal.run-requires-clause-lane
run-requires-clause-lane g c κs held =
    let p = ap (λ (o : Origin). o.program) c.requires.beside.begins in
    let some = c.accepted-accepted.ensures.safe.writable.lanes.least in
    subst (λ (q : ProgramEntries). 0 < lanes q) (sym p)
    (let low : 0 < lanes c.args.engine.program = omega (arith, some) in low)

pub run-requires-clause-within : goal.run-requires-clause-within
run-requires-clause-within g c κs held =
    let p = ap (λ (o : Origin). o.program) c.requires.beside.begins in
    subst (λ (q : ProgramEntries). All (AreWithin (lanes q)) c.args.questions.now) (sym p)
    c.requires.within
