use Rattle.std.proofs.Common.{◌≡◌, ◌∙◌, ◌≤◌, ◌∷◌, [], List, Option, refl, sym, ap, subst}
use Rattle.std.proofs.Common.{arith, length, zero, suc}
use Rattle.std.specs.Prelude.{IfSome}
use Rattle.std.specs.List.{All}
use Rattle.std.specs.Option.{option_map}
use Rattle.std.proofs.lemmas.List.Elements.{All-append}
use Rattle.bolt_io.proofs.TakenLemmas.{slot_told}
use Rattle.text_lines.proofs.FeedLemmas.{Advances-none, Advances-on}
use Rattle.graph_text.specs.declared.batch_reader.TheConstants.{MOST_EDITS}
use Rattle.graph_text.specs.declared.batch_text.BatchText.{BatchText}
use Rattle.graph_text.specs.BatchCode.{batches_ahead}
use Rattle.live_course.specs.Made.{IsSound}
use Rattle.live_streams.proofs.BatchesAhead.{batch_taken, batches_with}
use Rattle.live_streams.proofs.streams.take_batches.Goals as goal

pub batches-init : goal.batches-init
batches-init g c = record {
  so_far = refl;
  sound = λ h. h;
  most = c.requires.most_batches;
  slot = refl;
  advances = Advances-none _ _ _ (omega arith);
  later = omega arith;
  opened = refl;
  calm = refl;
}

one_sound : (b : BatchText) → length b.lines ≡ length b.edits → length b.edits ≤ MOST_EDITS
    → All IsSound (b ∷ [])
one_sound b paired few = one
  where
    one : All IsSound (b ∷ [])
    one zero d l = (paired, few)
    one (suc k) d l = absurd (omega arith)

pub batches-preserved : goal.batches-preserved
batches-preserved g c =
    let mid = g.S.Shelf.told c.batches.shelf in
    let later = g.S.Shelf.told c.next_batch.new.shelf in
    let b : BatchText = c.in-Some.batch in
    let is = subst (λ (o : Option BatchText). IfSome o (λ x. batches_ahead mid c.batches.reader.feed
    ≡ option_map (λ rest. x ∷ rest) (batches_ahead later c.next_batch.new.reader.feed)))
    c.in-Some.is c.in_ok-batch.ensures.batch in
    let paired = subst (λ (o : Option BatchText). IfSome o (λ x. length x.lines ≡ length x.edits))
    c.in-Some.is c.in_ok-batch.ensures.paired in
    let few = subst (λ (o : Option BatchText). IfSome o (λ x. length x.edits ≤ MOST_EDITS))
    c.in-Some.is c.in_ok-batch.ensures.small in
    let grown = c.in_ok-push.ensures.ok in
    let below =
    slot_told (g.S.Shelf.told c.args.shelf.now) _ _ (g.met.S.Shelf.tells_slots c.args.shelf.now)
    c.requires.slot in
    record {
      so_far =
          ap (λ (bs : List BatchText). batches_with bs
          (batches_ahead later c.next_batch.new.reader.feed)) grown
          ∙ batch_taken c.batches.batches b (batches_ahead mid c.batches.reader.feed)
          (batches_ahead later c.next_batch.new.reader.feed) is ∙ c.batches.invariant.so_far;
      sound = λ h. subst (All IsSound) (sym grown)
          (All-append IsSound c.batches.batches (b ∷ []) (c.batches.invariant.sound h)
          (one_sound b paired few));
      most = c.next_batch.ensures.most_batches;
      slot = c.next_batch.ensures.slot ∙ c.batches.invariant.slot;
      advances =
          Advances-on _ _ _ _ _ _ _ below c.batches.invariant.advances c.batches.invariant.later _
          c.batches.invariant.slot c.next_batch.ensures.advances c.next_batch.ensures.later;
      later = omega arith;
      opened = c.next_batch.ensures.opened ∙ c.batches.invariant.opened;
      calm = c.in_ok-batch.ensures.cause ∙ c.batches.invariant.calm;
    }

pub returns-in_err-batch-clause-advances : goal.returns-in_err-batch-clause-advances
returns-in_err-batch-clause-advances g c =
    let below =
    slot_told (g.S.Shelf.told c.args.shelf.now) _ _ (g.met.S.Shelf.tells_slots c.args.shelf.now)
    c.requires.slot in
    Advances-on _ _ _ _ _ _ _ below c.batches.invariant.advances c.batches.invariant.later _
    c.batches.invariant.slot c.next_batch.ensures.advances c.next_batch.ensures.later

pub returns-in_default-clause-advances : goal.returns-in_default-clause-advances
returns-in_default-clause-advances g c =
    let below =
    slot_told (g.S.Shelf.told c.args.shelf.now) _ _ (g.met.S.Shelf.tells_slots c.args.shelf.now)
    c.requires.slot in
    Advances-on _ _ _ _ _ _ _ below c.batches.invariant.advances c.batches.invariant.later _
    c.batches.invariant.slot c.next_batch.ensures.advances c.next_batch.ensures.later

pub returns-in_err-push-clause-advances : goal.returns-in_err-push-clause-advances
returns-in_err-push-clause-advances g c =
    let below =
    slot_told (g.S.Shelf.told c.args.shelf.now) _ _ (g.met.S.Shelf.tells_slots c.args.shelf.now)
    c.requires.slot in
    Advances-on _ _ _ _ _ _ _ below c.batches.invariant.advances c.batches.invariant.later _
    c.batches.invariant.slot c.next_batch.ensures.advances c.next_batch.ensures.later
