use Rattle.bolt_io.specs.declared.whole.TheConstants.{MOST_BYTES}
use Rattle.std.proofs.lemmas.Result.{err_from_is_err_and}
use Rattle.std.proofs.Common.{◌≡◌, ◌∙◌, ◌-◌, ◌<◌, ◌≤◌, ◌^◌, [], ℕ, length, ap, subst, arith}
use Rattle.std.specs.Prelude.{Option, Some, None, Result, Ok, Err, IfSome, OnOk}
use Rattle.bolt_io.specs.Told.{Told, left}
use Rattle.bolt_io.proofs.TakenLemmas.{slot_told}
use Rattle.text_lines.specs.Feed.{Advances}
use Rattle.text_lines.proofs.FeedLemmas.{taken_all}
use Rattle.graph_text.specs.BatchCode.{Reader}
use Rattle.command_files.proofs.WriteSteps.{Appended-part, Appended-then}
use Rattle.batch_run.proofs.BatchSteps.{Streamed-stopped, Streamed-end, read_stop_as}
use Rattle.report_text.specs.Runs.{run_steps}
use Rattle.engine_stream.proofs.stream.run_slot.Goals as goal

-- all that a slot had were few bytes
few_left : {A E : Type 0} (r : Result A E) (a : Option Told) (slot n : ℕ) → n < MOST_BYTES
    → IfSome a (λ t. length (left t slot) ≡ n)
    → OnOk r (IfSome a (λ t. length (left t slot) < MOST_BYTES))
few_left (Err e) a slot n few all = tt
few_left (Ok x) None slot n few all = tt
few_left (Ok x) (Some t) slot n few all = omega (arith, all)

pub returns-in_err-put_batches-clause-streamed : goal.returns-in_err-put_batches-clause-streamed
returns-in_err-put_batches-clause-streamed g c =
    let p = err_from_is_err_and c.from_residual.result c.from_residual.ensures.1 in
    rw (p.1, p.2)
    (Streamed-stopped run_steps c.args.run
    (g.S.Shelf.told c.args.shelf.now) (g.S.Shelf.told c.put_batches.new.shelf) c.args.slot
    c.put_batches.new.reader.feed.taken c.new-reader.result.feed
    (ap (λ (r : Reader). r.feed) c.new-reader.ensures) c.put_batches.ensures.advances
    c.put_batches.ensures.most _ _ _ c.put_batches.ensures.part
    (λ is. c.in_err-put_batches.ensures.kept_up (read_stop_as _ is)))

pub returns-clause-streamed : goal.returns-clause-streamed
returns-clause-streamed g c =
    Streamed-end run_steps c.args.run
    (g.S.Shelf.told c.args.shelf.now) (g.S.Shelf.told c.put_batches.new.shelf) c.args.slot
    c.put_batches.new.reader.feed.taken c.new-reader.result.feed
    (ap (λ (r : Reader). r.feed) c.new-reader.ensures) c.put_batches.ensures.advances
    c.put_batches.ensures.most _ _ _ _ _ c.in_ok-put_batches.ensures.all c.put_end.ensures.gives
    c.put_end.ensures.writing

pub returns-clause-appended : goal.returns-clause-appended
returns-clause-appended g c =
    Appended-then (g.K.Sink.written c.args.out.now) (g.K.Sink.written c.put_batches.new.out)
    (g.K.Sink.written c.put_end.new.out) c.put_batches.ensures.appended
    (Appended-part (g.K.Sink.written c.put_batches.new.out) (g.K.Sink.written c.put_end.new.out) _
    c.put_end.ensures.gives.part)

pub returns-clause-short : goal.returns-clause-short
returns-clause-short g c =
    let before = g.S.Shelf.told c.args.shelf.now in
    let after = g.S.Shelf.told c.put_batches.new.shelf in
    let n : ℕ = c.put_batches.new.reader.feed.taken - c.new-reader.result.feed.taken in
    let fresh : c.new-reader.result.feed.slot ≡ c.args.slot =
    ap (λ (r : Reader). r.feed.slot) c.new-reader.ensures in
    let below =
    slot_told before _ c.args.slot (g.met.S.Shelf.tells_slots c.args.shelf.now) c.requires.slot in
    let advances =
    subst (λ (s : ℕ). Advances before after s n) fresh c.put_batches.ensures.advances in
    let end =
    subst (λ (s : ℕ). IfSome after (λ t. left t s ≡ [])) (c.put_batches.ensures.slot ∙ fresh)
    c.in_ok-put_batches.ensures.end.1 in
    let fewer = c.in_ok-put_batches.ensures.fewer in
    few_left c.put_end.result before c.args.slot n (omega arith)
    (taken_all before after c.args.slot n below advances end)
