use Rattle.std.proofs.Common.{◌≡◌, ◌-◌, ◌<◌, ◌≤◌, ◌∙◌, ap, sym, subst, arith, rules, ℕ, [], length}
use Rattle.std.proofs.Common.{Option, None, Some, Result, Err, List}
use Rattle.std.specs.Prelude.{IfSome}
use Rattle.std.specs.Result.{result_err}
use Rattle.std.proofs.lemmas.List.Elements.{All-nil}
use Rattle.bolt_io.specs.declared.whole.TheConstants.{MOST_BYTES}
use Rattle.bolt_io.specs.Told.{Told, left}
use Rattle.bolt_io.proofs.TakenLemmas.{slot_told}
use Rattle.text_lines.specs.Feed.{Feed, Advances}
use Rattle.text_lines.specs.Reading.{ReadsSlot, StopsAt}
use Rattle.text_lines.specs.declared.feed.FeedError.{FeedError}
use Rattle.text_lines.specs.declared.feed.FeedError.TheVariants.{Shelf, Turns, Memory}
use Rattle.text_lines.proofs.FeedLemmas.{taken_all}
use Rattle.live_text.specs.declared.question.Question.{Question}
use Rattle.live_text.specs.Questions.{AreWithin}
use Rattle.live_text.specs.Reading.{ReadsAsFar, ReadsQuestions}
use Rattle.live_text.proofs.QuestionLemmas.{whole_text}
use Rattle.live_text.proofs.reader.read_questions.Goals as goal

pub returns-clause-questions : goal.returns-clause-questions
returns-clause-questions g c =
    whole_text c.args.lanes (g.S.Shelf.told c.args.shelf.now) c.args.slot c.new-feed.result
    c.new-feed.ensures c.new-questions.result c.take_lines.new.questions c.new-questions.ensures
    c.in_ok-take_lines.ensures.read

pub returns-clause-lanes : goal.returns-clause-lanes
returns-clause-lanes g c =
    c.in_ok-take_lines.ensures.lanes
    (subst (AreWithin c.args.lanes) (sym c.new-questions.ensures) (All-nil _))

-- all was taken, which is fewer than the most
all_is_taken : (start : Option Told) (slot n m : ℕ) → m ≡ n → n < MOST_BYTES
    → IfSome start (λ t. length (left t slot) ≡ m)
    → IfSome start (λ t. (n ≡ length (left t slot)) × (n < MOST_BYTES))
all_is_taken None slot n m same few all = tt
all_is_taken (Some t) slot n m same few all = (omega arith, few)

-- why no more was taken
stops_as_far : (start told : Option Told) (slot : ℕ) (h : Feed) (n : ℕ) (e : FeedError)
    → n ≡ h.taken → Advances start told slot n → StopsAt h e
    → IfSome start (ReadsAsFar slot h.taken (let r : Result (List Question) FeedError = Err e in r))
stops_as_far None told slot h n e same takes stops = tt
stops_as_far (Some t) told slot h n (Shelf fault) same takes stops = stops.0
stops_as_far (Some t) told slot h n (Turns k) same takes stops =
    let full = stops.1.all in
    let within : n ≤ length (left t slot) = takes.within in
    omega arith
stops_as_far (Some t) told slot h n Memory same takes stops = tt

pub returns-in_err-take_lines-clause-reads : goal.returns-in_err-take_lines-clause-reads
returns-in_err-take_lines-clause-reads g c =
    let start = g.S.Shelf.told c.args.shelf.now in
    let told = g.S.Shelf.told c.take_lines.new.shelf in
    let h = c.take_lines.new.feed in
    let e = c.in_err-take_lines.ensures in
    let error = c.in_err-take_lines.field-0.0 in
    let r : Result (List Question) FeedError = Err error in
    let reads : ReadsSlot g.S.Shelf.told g.S.Shelf.opened g.S.Shelf.faults c.args.shelf.now
    c.take_lines.new.shelf c.args.slot 0 h.taken (result_err r) = subst
    (λ (x : Feed). ReadsSlot g.S.Shelf.told g.S.Shelf.opened g.S.Shelf.faults c.args.shelf.now
    c.take_lines.new.shelf x.slot x.taken h.taken (result_err r)) c.new-feed.ensures
    e.reads.reads in
    let k : ReadsQuestions g.S.Shelf.told g.S.Shelf.opened g.S.Shelf.faults c.args.shelf.now
    c.take_lines.new.shelf c.args.slot r = record {
      taken = h.taken;
      reads = reads;
      as_far =
          stops_as_far start told c.args.slot h (h.taken - 0) error (omega arith) reads.takes
          e.reads.stops;
    } in
    search (rules, k)

pub returns-clause-reads : goal.returns-clause-reads
returns-clause-reads g c =
    let start = g.S.Shelf.told c.args.shelf.now in
    let told = g.S.Shelf.told c.take_lines.new.shelf in
    let h = c.take_lines.new.feed in
    let below =
    slot_told start (g.S.Shelf.opened c.args.shelf.now) c.args.slot
    (g.met.S.Shelf.tells_slots c.args.shelf.now) c.requires.slot in
    let e = c.in_ok-take_lines.ensures in
    let reads =
    subst (λ (x : Feed). ReadsSlot g.S.Shelf.told g.S.Shelf.opened g.S.Shelf.faults c.args.shelf.now
    c.take_lines.new.shelf x.slot x.taken h.taken None) c.new-feed.ensures e.reads.reads in
    let at : h.slot ≡ c.args.slot = e.reads.slot ∙ ap (λ (x : Feed). x.slot) c.new-feed.ensures in
    let ended = subst (λ (s : ℕ). IfSome told (λ t. left t s ≡ [])) at e.end.1 in
    record {
      taken = h.taken;
      reads = reads;
      as_far =
          all_is_taken start c.args.slot h.taken (h.taken - 0) (omega arith) e.fewer
          (taken_all start told c.args.slot (h.taken - 0) below reads.takes ended);
    }
