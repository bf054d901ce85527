use Rattle.std.proofs.lemmas.Result.{err_from_is_err_and}
use Rattle.std.proofs.Common.{◌≡◌, ◌∙◌, Result, Err, sym, ap}
use Rattle.graph_text.specs.declared.bad_line.BadLine.{BadLine}
use Rattle.command_files.specs.declared.stop.Stop.{Stop}
use Rattle.command_files.specs.declared.stop.Stop.TheVariants.{TooLong}
use Rattle.command_files.proofs.RefusalSteps.{TookTo-graph, short-graph, refused-graph, early-graph}
use Rattle.command_files.proofs.RefusalSteps.{calm-graph, too_long-graph, cause-graph}
use Rattle.command_files.proofs.files.load_slot.Goals as goal

-- ---- the graph
pub returns-in-Ok-clause-took : goal.returns-in-Ok-clause-took
returns-in-Ok-clause-took g c =
    TookTo-graph g.S.Shelf.told g.S.Shelf.opened g.S.Shelf.faults _ _ c.args.limits.now c.args.slot
    _ c.in-Ok.ensures.reads

pub returns-in-Ok-clause-short : goal.returns-in-Ok-clause-short
returns-in-Ok-clause-short g c =
    short-graph c.args.limits.now c.args.slot c.in-Ok.ensures.reads.taken c.in-Ok.graph
    (g.S.Shelf.told c.args.shelf.now) c.in-Ok.ensures.reads.as_far

pub returns-in-Ok-clause-opened : goal.returns-in-Ok-clause-opened
returns-in-Ok-clause-opened g c = c.in-Ok.ensures.reads.reads.slots

pub returns-in-Ok-clause-cause : goal.returns-in-Ok-clause-cause
returns-in-Ok-clause-cause g c = c.in-Ok.ensures.reads.reads.blames

-- ---- a bad line
pub returns-in_ok-bad_or_stop-in-Err-clause-took : goal.returns-in_ok-bad_or_stop-in-Err-clause-took
returns-in_ok-bad_or_stop-in-Err-clause-took g c =
    TookTo-graph g.S.Shelf.told g.S.Shelf.opened g.S.Shelf.faults _ _ c.args.limits.now c.args.slot
    _ c.in-Err.ensures.reads

pub returns-in_ok-bad_or_stop-in-Err-clause-graph
    : goal.returns-in_ok-bad_or_stop-in-Err-clause-graph
returns-in_ok-bad_or_stop-in-Err-clause-graph g c =
    refused-graph c.in-Err.refusal c.in_ok-bad_or_stop-in-Err.field-0
    (sym c.in_ok-bad_or_stop-in-Err.ensures) c.args.limits.now c.args.slot
    (g.S.Shelf.told c.args.shelf.now) c.in-Err.ensures.line

pub returns-in_ok-bad_or_stop-in-Err-clause-early
    : goal.returns-in_ok-bad_or_stop-in-Err-clause-early
returns-in_ok-bad_or_stop-in-Err-clause-early g c =
    early-graph c.in-Err.refusal c.in_ok-bad_or_stop-in-Err.field-0
    (sym c.in_ok-bad_or_stop-in-Err.ensures) c.args.limits.now c.args.slot
    c.in-Err.ensures.reads.taken (g.S.Shelf.told c.args.shelf.now) c.in-Err.ensures.reads.as_far

pub returns-in_ok-bad_or_stop-in-Err-clause-opened
    : goal.returns-in_ok-bad_or_stop-in-Err-clause-opened
returns-in_ok-bad_or_stop-in-Err-clause-opened g c = c.in-Err.ensures.reads.reads.slots

pub returns-in_ok-bad_or_stop-in-Err-clause-cause
    : goal.returns-in_ok-bad_or_stop-in-Err-clause-cause
returns-in_ok-bad_or_stop-in-Err-clause-cause g c =
    calm-graph c.in-Err.refusal c.in_ok-bad_or_stop-in-Err.field-0
    (sym c.in_ok-bad_or_stop-in-Err.ensures) _ _ c.in-Err.ensures.reads.reads.blames

-- ---- a stop
pub returns-in_err-bad_or_stop-in-Err-clause-took
    : goal.returns-in_err-bad_or_stop-in-Err-clause-took
returns-in_err-bad_or_stop-in-Err-clause-took g c =
    TookTo-graph g.S.Shelf.told g.S.Shelf.opened g.S.Shelf.faults _ _ c.args.limits.now c.args.slot
    _ c.in-Err.ensures.reads

pub returns-in_err-bad_or_stop-in-Err-clause-opened
    : goal.returns-in_err-bad_or_stop-in-Err-clause-opened
returns-in_err-bad_or_stop-in-Err-clause-opened g c = c.in-Err.ensures.reads.reads.slots

pub returns-in_err-bad_or_stop-in-Err-clause-too_long
    : goal.returns-in_err-bad_or_stop-in-Err-clause-too_long
returns-in_err-bad_or_stop-in-Err-clause-too_long g c =
    let p = err_from_is_err_and c.from_residual.result c.from_residual.ensures.1 in
    rw (p.1, p.2)
    (λ is.
    let same : c.in_err-bad_or_stop-in-Err.field-0.0 ≡ TooLong = cc in
    too_long-graph c.in-Err.refusal c.args.limits.now c.args.slot c.in-Err.ensures.reads.taken
    (g.S.Shelf.told c.args.shelf.now)
    (sym c.in_err-bad_or_stop-in-Err.ensures
    ∙ ap (λ (x : Stop). let r : Result BadLine Stop = Err x in r) same)
    c.in-Err.ensures.reads.as_far)

pub returns-in_err-bad_or_stop-in-Err-clause-cause
    : goal.returns-in_err-bad_or_stop-in-Err-clause-cause
returns-in_err-bad_or_stop-in-Err-clause-cause g c =
    let p = err_from_is_err_and c.from_residual.result c.from_residual.ensures.1 in
    rw (p.1, p.2) (cause-graph c.in-Err.refusal c.in_err-bad_or_stop-in-Err.field-0.0 _ _
    (sym c.in_err-bad_or_stop-in-Err.ensures) c.in-Err.ensures.reads.reads.blames)
