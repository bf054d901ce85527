use Rattle.std.proofs.lemmas.Result.{err_from_is_err_and}
use Rattle.std.proofs.Common.{◌≡◌, ◌∙◌, ◌+◌, ◌≤◌, ◌∷◌, ℕ, Option, Err, refl, sym, ap, subst, arith}
use Rattle.std.specs.Prelude.{IfSome}
use Rattle.std.specs.Option.{option_map}
use Rattle.bolt_io.proofs.TakenLemmas.{slot_told}
use Rattle.text_lines.proofs.FeedLemmas.{Advances-none, Advances-on}
use Rattle.graph_text.specs.declared.batch_text.BatchText.{BatchText}
use Rattle.graph_text.specs.BatchCode.{batches_ahead, IsFirstEnded}
use Rattle.batch_steps.specs.Steps.{prepend}
use Rattle.command_files.proofs.WriteSteps.{Appended-part, Appended-then}
use Rattle.batch_run.specs.Ahead.{reply_ahead}
use Rattle.batch_run.proofs.BatchSteps.{batch_ahead, up_to-none, up_to-then, up_to-part}
use Rattle.batch_run.proofs.BatchSteps.{up_to-nothing, part-behind, texts_within-first}
use Rattle.batch_run.proofs.BatchSteps.{texts_within-none, KeptUp-none, KeptUp-then, KeptUp-stop}
use Rattle.batch_run.proofs.BatchSteps.{not_read_stop, read_stop_as}
use Rattle.report_text.specs.Runs.{Run, run_steps}
use Rattle.engine_stream.proofs.batches.put_batches.Goals as goal

pub batches-init : goal.batches-init
batches-init g c = record {
  so_far = up_to-none _ _;
  kept_up = KeptUp-none _ _ _;
  numbered = c.requires.numbered;
  most = c.requires.most_batches;
  slot = refl;
  advances = Advances-none _ _ _ (omega arith);
  later = omega arith;
  opened = refl;
  shelf_calm = refl;
  sink_calm = refl;
}

pub batches-preserved : goal.batches-preserved
batches-preserved g c =
    let steps = run_steps in
    let s = c.batches.run in
    let mid = g.S.Shelf.told c.batches.shelf in
    let later = g.S.Shelf.told c.next_batch.new.shelf in
    let b : BatchText = c.in-Some.batch in
    let P : Option BatchText → Type 0 =
    λ o. IfSome o (λ x. batches_ahead mid c.batches.reader.feed
    ≡ option_map (λ rest. x ∷ rest) (batches_ahead later c.next_batch.new.reader.feed)) in
    let is = subst P c.in-Some.is c.in_ok-batch.ensures.batch in
    let F : Option BatchText → Type 0 =
    λ o. IfSome o (λ x. (most : ℕ) → c.next_batch.new.reader.feed.taken ≤ most
    → IsFirstEnded x most mid later c.batches.reader.feed c.next_batch.new.reader.feed) in
    let first = subst F c.in-Some.is c.in_ok-batch.ensures.first in
    let ahead =
    batch_ahead steps mid later c.batches.reader.feed c.next_batch.new.reader.feed s b is in
    let below =
    slot_told (g.S.Shelf.told c.args.shelf.now) _ _ (g.met.S.Shelf.tells_slots c.args.shelf.now)
    c.requires.slot in
    let one_more : c.next_batch.new.reader.batches ≡ c.batches.reader.batches + 1 =
    subst (λ (o : Option BatchText). IfSome o
    (λ _. c.next_batch.new.reader.batches ≡ c.batches.reader.batches + 1)) c.in-Some.is
    c.in_ok-batch.ensures.one_more in
    record {
      so_far =
          up_to-then _ _ _ _ _ _ (steps.text s b) c.batches.invariant.so_far
          c.in_ok-put_batch.ensures.all
          (ahead ∙ ap (λ (p : Run). option_map (prepend (steps.text s b))
          (reply_ahead steps p later c.next_batch.new.reader.feed))
          (sym c.in_ok-put_batch.ensures.next));
      kept_up =
          KeptUp-then _ _ _ _ _ _ _ _ (steps.text s b) mid c.batches.invariant.kept_up
          c.next_batch.ensures.later c.in_ok-put_batch.ensures.all
          (λ most le. texts_within-first steps s _ b most mid later c.batches.reader.feed
          c.next_batch.new.reader.feed c.in_ok-put_batch.ensures.next (first most le));
      numbered =
          c.in_ok-put_batch.ensures.counted ∙ ap (λ (n : ℕ). n + 1) c.batches.invariant.numbered
          ∙ sym one_more;
      most = c.next_batch.ensures.most_batches;
      slot = c.next_batch.ensures.slot ∙ c.batches.invariant.slot;
      advances =
          Advances-on _ _ _ _ _ _ _ below c.batches.invariant.advances c.batches.invariant.later _
          c.batches.invariant.slot c.next_batch.ensures.advances c.next_batch.ensures.later;
      later = omega arith;
      opened = c.next_batch.ensures.opened ∙ c.batches.invariant.opened;
      shelf_calm = c.in_ok-batch.ensures.cause ∙ c.batches.invariant.shelf_calm;
      sink_calm = c.in_ok-put_batch.ensures.cause ∙ c.batches.invariant.sink_calm;
    }

pub returns-in_err-batch-clause-part : goal.returns-in_err-batch-clause-part
returns-in_err-batch-clause-part g c = up_to-nothing _ _ _ _ c.batches.invariant.so_far

pub returns-in_err-batch-clause-advances : goal.returns-in_err-batch-clause-advances
returns-in_err-batch-clause-advances g c =
    let below =
    slot_told (g.S.Shelf.told c.args.shelf.now) _ _ (g.met.S.Shelf.tells_slots c.args.shelf.now)
    c.requires.slot in
    Advances-on _ _ _ _ _ _ _ below c.batches.invariant.advances c.batches.invariant.later _
    c.batches.invariant.slot c.next_batch.ensures.advances c.next_batch.ensures.later

pub returns-in_err-batch-clause-kept_up : goal.returns-in_err-batch-clause-kept_up
returns-in_err-batch-clause-kept_up g c =
    let p = err_from_is_err_and c.from_residual.result c.from_residual.ensures.1 in
    rw (p.1, p.2)
    (λ is. KeptUp-stop _ _ _ _ _ _ (g.S.Shelf.told c.batches.shelf) c.batches.invariant.kept_up
    c.next_batch.ensures.later
    (texts_within-none run_steps c.batches.run _
    (g.S.Shelf.told c.batches.shelf) c.batches.reader.feed
    (c.in_err-batch.ensures.unended (read_stop_as c.in_err-batch.field-0.0 is))))

pub returns-in_err-batch-clause-appended : goal.returns-in_err-batch-clause-appended
returns-in_err-batch-clause-appended g c =
    (c.batches.invariant.so_far.text, c.batches.invariant.so_far.wrote)

pub returns-in_default-clause-part : goal.returns-in_default-clause-part
returns-in_default-clause-part g c = up_to-nothing _ _ _ _ c.batches.invariant.so_far

pub returns-in_default-clause-advances : goal.returns-in_default-clause-advances
returns-in_default-clause-advances g c =
    let below =
    slot_told (g.S.Shelf.told c.args.shelf.now) _ _ (g.met.S.Shelf.tells_slots c.args.shelf.now)
    c.requires.slot in
    Advances-on _ _ _ _ _ _ _ below c.batches.invariant.advances c.batches.invariant.later _
    c.batches.invariant.slot c.next_batch.ensures.advances c.next_batch.ensures.later

pub returns-in_default-clause-appended : goal.returns-in_default-clause-appended
returns-in_default-clause-appended g c =
    (c.batches.invariant.so_far.text, c.batches.invariant.so_far.wrote)

pub returns-in_err-put_batch-clause-part : goal.returns-in_err-put_batch-clause-part
returns-in_err-put_batch-clause-part g c =
    let steps = run_steps in
    let s = c.batches.run in
    let mid = g.S.Shelf.told c.batches.shelf in
    let later = g.S.Shelf.told c.next_batch.new.shelf in
    let b : BatchText = c.in-Some.batch in
    let P : Option BatchText → Type 0 =
    λ o. IfSome o (λ x. batches_ahead mid c.batches.reader.feed
    ≡ option_map (λ rest. x ∷ rest) (batches_ahead later c.next_batch.new.reader.feed)) in
    let is = subst P c.in-Some.is c.in_ok-batch.ensures.batch in
    let ahead =
    batch_ahead steps mid later c.batches.reader.feed c.next_batch.new.reader.feed s b is in
    up_to-part _ _ _ _ _ c.batches.invariant.so_far
    (part-behind (reply_ahead steps s mid c.batches.reader.feed)
    (reply_ahead steps (steps.next s b) later c.next_batch.new.reader.feed) (steps.text s b) _ _
    ahead c.put_batch.ensures.part)

pub returns-in_err-put_batch-clause-advances : goal.returns-in_err-put_batch-clause-advances
returns-in_err-put_batch-clause-advances g c =
    let below =
    slot_told (g.S.Shelf.told c.args.shelf.now) _ _ (g.met.S.Shelf.tells_slots c.args.shelf.now)
    c.requires.slot in
    Advances-on _ _ _ _ _ _ _ below c.batches.invariant.advances c.batches.invariant.later _
    c.batches.invariant.slot c.next_batch.ensures.advances c.next_batch.ensures.later

pub returns-in_err-put_batch-clause-kept_up : goal.returns-in_err-put_batch-clause-kept_up
returns-in_err-put_batch-clause-kept_up g c =
    let p =
    err_from_is_err_and c.from_residual-in_err-put_batch.result
    c.from_residual-in_err-put_batch.ensures.1 in
    rw (p.1, p.2) (λ is. absurd (not_read_stop _ c.in_err-put_batch.ensures.writing is))

pub returns-in_err-put_batch-clause-appended : goal.returns-in_err-put_batch-clause-appended
returns-in_err-put_batch-clause-appended g c =
    Appended-then (g.K.Sink.written c.args.out.now) (g.K.Sink.written c.batches.out)
    (g.K.Sink.written c.put_batch.new.out)
    (c.batches.invariant.so_far.text, c.batches.invariant.so_far.wrote)
    (Appended-part (g.K.Sink.written c.batches.out) (g.K.Sink.written c.put_batch.new.out) _
    c.put_batch.ensures.part)
