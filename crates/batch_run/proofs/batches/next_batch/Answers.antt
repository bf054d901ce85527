use Rattle.std.proofs.lemmas.Result.{err_from_is_err_and}
use Rattle.batch_run.proofs.BatchSteps.{feed_cause, feed_stands, feed_turns, feed_wanted}
use Rattle.batch_run.proofs.BatchSteps.{read_stop-ok}
use Rattle.batch_run.proofs.batches.next_batch.Goals as goal

-- ---- a batch, or the end
pub returns-clause-slot : goal.returns-clause-slot
returns-clause-slot g c = c.next.ensures.reads.slot

pub returns-clause-advances : goal.returns-clause-advances
returns-clause-advances g c = c.next.ensures.reads.reads.takes

pub returns-clause-later : goal.returns-clause-later
returns-clause-later g c = c.next.ensures.reads.reads.later

pub returns-clause-most : goal.returns-clause-most
returns-clause-most g c = c.next.ensures.reads.reads.most

pub returns-clause-opened : goal.returns-clause-opened
returns-clause-opened g c = c.next.ensures.reads.reads.slots

pub returns-clause-unended : goal.returns-clause-unended
returns-clause-unended g c = λ is. absurd (read_stop-ok c.in_ok-next.field-0 is)

pub returns-clause-cause : goal.returns-clause-cause
returns-clause-cause g c = c.in_ok-next.ensures.reads.reads.blames

-- ---- an error
pub returns-in_err-next-clause-slot : goal.returns-in_err-next-clause-slot
returns-in_err-next-clause-slot g c = c.next.ensures.reads.slot

pub returns-in_err-next-clause-advances : goal.returns-in_err-next-clause-advances
returns-in_err-next-clause-advances g c = c.next.ensures.reads.reads.takes

pub returns-in_err-next-clause-later : goal.returns-in_err-next-clause-later
returns-in_err-next-clause-later g c = c.next.ensures.reads.reads.later

pub returns-in_err-next-clause-most : goal.returns-in_err-next-clause-most
returns-in_err-next-clause-most g c = c.next.ensures.reads.reads.most

pub returns-in_err-next-clause-opened : goal.returns-in_err-next-clause-opened
returns-in_err-next-clause-opened g c = c.next.ensures.reads.reads.slots

pub returns-in_err-next-clause-unended : goal.returns-in_err-next-clause-unended
returns-in_err-next-clause-unended g c =
    let p = err_from_is_err_and c.from_residual.result c.from_residual.ensures.1 in
    rw (p.1, p.2) (λ is. feed_wanted c.in_err-next.field-0.0 _ c.in_err-next.ensures.unended is)

pub returns-in_err-next-clause-too_long : goal.returns-in_err-next-clause-too_long
returns-in_err-next-clause-too_long g c =
    let p = err_from_is_err_and c.from_residual.result c.from_residual.ensures.1 in
    rw (p.1, p.2) (λ is. feed_turns c.in_err-next.field-0.0 _ _
    c.in_err-next.ensures.reads.reads.turns is)

pub returns-in_err-next-clause-cause : goal.returns-in_err-next-clause-cause
returns-in_err-next-clause-cause g c =
    let p = err_from_is_err_and c.from_residual.result c.from_residual.ensures.1 in
    rw (p.1, p.2) (feed_cause c.in_err-next.field-0.0 _ _ c.in_err-next.ensures.reads.reads.blames)

pub returns-in_err-next-clause-stops : goal.returns-in_err-next-clause-stops
returns-in_err-next-clause-stops g c =
    let p = err_from_is_err_and c.from_residual.result c.from_residual.ensures.1 in
    rw (p.1, p.2) (feed_stands _ c.in_err-next.field-0.0 c.in_err-next.ensures.reads.stops)
