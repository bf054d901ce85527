use Rattle.std.proofs.Common.{rules, arith, ◌≡◌, ◌∙◌, ◌+◌, ◌-◌, ◌<◌, ℕ, length, ap, subst}
use Rattle.std.specs.Prelude.{slice_index_or}
use Rattle.std.proofs.lemmas.List.{get_or_default}
use Rattle.graph_text.specs.declared.batch_text.BatchText.{BatchText}
use Rattle.live_course.specs.Made.{batch_of, file_of, no_batch}
use Rattle.live_course.specs.declared.made.MadeEntry.{MadeEntry}
use Rattle.live_works.specs.Beside.{HasMade, becomes}
use Rattle.live_works.specs.Shop.{Shop, shop}
use Rattle.live_works.proofs.Standings.{IsTurn, fit_with_entry, pending_with_entry}
use Rattle.live_works.proofs.works.make_next.Goals as goal

pub returns-clause-fit : goal.returns-clause-fit
returns-clause-fit g c =
    let files = c.args.streams.now in
    let entry : MadeEntry = record {
      stream = c.args.stream;
      number = c.index-number.result.now + 1;
      outcome = c.in_ok-outcome.outcome;
    } in
    let items : c.reserve.new.self.items ≡ c.args.made.now.items = search rules in
    rw (c.add.ensures.next, c.add.ensures.made, items)
    (fit_with_entry c.args.publisher.now c.make_batch.new.publisher files c.args.engine.now
    c.make_batch.new.engine c.args.next.now.items c.args.made.now.items entry
    c.kept-batch.result.now.edits c.requires.fit c.in_ok-outcome.ensures.made)

pub returns-clause-ok : goal.returns-clause-ok
returns-clause-ok g c =
    let files = c.args.streams.now in
    let next = c.args.next.now.items in
    let stream = c.args.stream in
    let number = c.index-number.result.now in
    let e = c.args.engine.now in
    let s : Shop = shop files e next c.args.made.now.items in
    let entry : MadeEntry = record {
      stream = stream;
      number = number + 1;
      outcome = c.in_ok-outcome.outcome;
    } in
    let items : c.reserve.new.self.items ≡ c.args.made.now.items = search rules in
    let inside : stream < length next = omega (arith, c.requires.fit.sized, c.requires.stream) in
    let at : number ≡ slice_index_or next stream 0 =
    c.index-number.ensures ∙ get_or_default next stream number 0 inside in
    let same : number ≡ number + 1 - 1 = omega arith in
    let batch : c.kept-batch.result.now ≡ batch_of files entry =
    c.kept-batch.ensures
    ∙ ap (λ (k : ℕ). slice_index_or (file_of files stream) k no_batch) same in
    let turn : IsTurn s entry = record {
      known = c.requires.stream;
      sized = c.requires.fit.sized;
      number = ap (λ (k : ℕ). k + 1) at;
      inside = omega (arith, at, c.requires.left);
      outcome = c.in_ok-outcome.ensures.outcome ∙ ap (becomes e) batch;
    } in
    let made = subst (λ (b : BatchText). HasMade entry.outcome c.args.publisher.now
    c.make_batch.new.publisher e c.make_batch.new.engine b.edits) batch
    c.in_ok-outcome.ensures.made in
    rw (c.add.ensures.next, c.add.ensures.made, items)
    (pending_with_entry c.args.publisher.now s c.requires.standing c.make_batch.new.publisher
    c.make_batch.new.engine entry turn made)
