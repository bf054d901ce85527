use Rattle.std.proofs.Common.{◌≡◌, ◌∙◌, ◌-◌, ◌<◌, ◌≤◌, ℕ, List, [], sym, ap, subst, arith}
use Rattle.std.proofs.lemmas.List.Elements.{All-nil}
use Rattle.std.specs.List.{All}
use Rattle.std.proofs.lemmas.Result.{err_from_is_err_and}
use Rattle.std.specs.Prelude.{IfSome, Result, Ok, Err}
use Rattle.bolt_io.specs.Told.{left}
use Rattle.bolt_io.specs.declared.whole.TheConstants.{MOST_BYTES}
use Rattle.text_lines.specs.Feed.{Advances}
use Rattle.graph_text.specs.BatchCode.{Reader}
use Rattle.graph_text.specs.declared.batch_text.BatchText.{BatchText}
use Rattle.command_files.specs.declared.stop.Stop.{Stop}
use Rattle.command_files.specs.declared.stop.Stop.TheVariants.{TooLong}
use Rattle.live_streams.specs.Ends.{ReadsToEnd}
use Rattle.live_course.specs.Made.{IsSound}
use Rattle.live_streams.proofs.BatchesAhead.{slot_batches}
use Rattle.live_streams.proofs.EndSteps.{few_bytes_left, many_left, took_to_end}
use Rattle.live_streams.proofs.streams.load_batches.Goals as goal

pub returns-clause-batches : goal.returns-clause-batches
returns-clause-batches g c =
    slot_batches (g.S.Shelf.told c.args.shelf.now) c.args.slot c.new-reader.result.feed
    (ap (λ (r : Reader). r.feed) c.new-reader.ensures) c.new-batches.result
    c.take_batches.new.batches c.new-batches.ensures c.in_ok-take_batches.ensures.read

pub returns-clause-sound : goal.returns-clause-sound
returns-clause-sound g c =
    c.in_ok-take_batches.ensures.sound
    (subst (All IsSound) (sym c.new-batches.ensures) (All-nil _))

pub returns-clause-reads : goal.returns-clause-reads
returns-clause-reads g c =
    let before = g.S.Shelf.told c.args.shelf.now in
    let after = g.S.Shelf.told c.take_batches.new.shelf in
    let n : ℕ = c.take_batches.new.reader.feed.taken - c.new-reader.result.feed.taken in
    let fresh : c.new-reader.result.feed.slot ≡ c.args.slot =
    ap (λ (r : Reader). r.feed.slot) c.new-reader.ensures in
    let moved : Advances before after c.args.slot n =
    subst (λ (s : ℕ). Advances before after s n) fresh c.take_batches.ensures.advances in
    let end =
    subst (λ (s : ℕ). IfSome after (λ t. left t s ≡ [])) (c.take_batches.ensures.slot ∙ fresh)
    c.in_ok-take_batches.ensures.end.1 in
    let fewer = c.in_ok-take_batches.ensures.fewer in
    let most = c.take_batches.ensures.most in
    let few : n < MOST_BYTES = omega arith in
    let no_more : n ≤ MOST_BYTES = omega arith in
    let r : Result (List BatchText) Stop = Ok c.take_batches.new.batches in
    record {
      took = took_to_end before after c.args.slot n moved no_more;
      short =
          few_bytes_left r before after (g.S.Shelf.opened c.args.shelf.now) c.args.slot n
          (g.met.S.Shelf.tells_slots c.args.shelf.now) c.requires moved few end;
      end = end;
      too_long = λ wrong. cc;
      opened = c.take_batches.ensures.opened;
    }

pub returns-in_err-take_batches-clause-reads : goal.returns-in_err-take_batches-clause-reads
returns-in_err-take_batches-clause-reads g c =
    let p = err_from_is_err_and c.from_residual.result c.from_residual.ensures.1 in
    let before = g.S.Shelf.told c.args.shelf.now in
    let after = g.S.Shelf.told c.take_batches.new.shelf in
    let n : ℕ = c.take_batches.new.reader.feed.taken - c.new-reader.result.feed.taken in
    let fresh : c.new-reader.result.feed.slot ≡ c.args.slot =
    ap (λ (r : Reader). r.feed.slot) c.new-reader.ensures in
    let none : c.new-reader.result.feed.taken ≡ 0 =
    ap (λ (r : Reader). r.feed.taken) c.new-reader.ensures in
    let moved : Advances before after c.args.slot n =
    subst (λ (s : ℕ). Advances before after s n) fresh c.take_batches.ensures.advances in
    let most = c.take_batches.ensures.most in
    let no_more : n ≤ MOST_BYTES = omega arith in
    let e : Stop = c.in_err-take_batches.field-0.0 in
    let r : Result (List BatchText) Stop = Err e in
    let k : ReadsToEnd before after (g.S.Shelf.opened c.args.shelf.now)
    (g.S.Shelf.opened c.take_batches.new.shelf) c.args.slot r =
    record {
      took = took_to_end before after c.args.slot n moved no_more;
      short = tt;
      end = tt;
      too_long = λ is.
          let all : c.take_batches.new.reader.feed.taken ≡ MOST_BYTES =
          c.in_err-take_batches.ensures.too_long (as_long e is) in
          many_left before c.args.slot n moved.within (omega arith);
      opened = c.take_batches.ensures.opened;
    } in
    rw (p.1, p.2) k
  where
    as_long : (e : Stop) → (let r : Result (List BatchText) Stop = Err e in r) ≡ Err TooLong
        → (let r : Result (Unit {0}) Stop = Err e in r) ≡ Err TooLong
    as_long e is = cc is
