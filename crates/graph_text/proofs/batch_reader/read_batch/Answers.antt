use Rattle.std.proofs.Common.{◌≡◌, ℕ, ◌+◌, ◌≤◌, ◌∙◌, ap, sym, subst, refl, arith, rules, inl}
use Rattle.std.proofs.Common.{List, [], ◌∷◌, length, Option, None, Some}
use Rattle.std.specs.Prelude.{IfSome, IfNone, MatchOption, take, ◌<◌}
use Rattle.std.specs.Option.{option_map}
use Rattle.bolt_io.specs.declared.whole.TheConstants.{MOST_BYTES}
use Rattle.bolt_io.specs.Told.{Told}
use Rattle.bolt_io.proofs.TakenLemmas.{slot_told}
use Rattle.text_lines.specs.Lines.{seen}
use Rattle.text_lines.specs.Feed.{Feed, ahead, answered, ended_within, IsAtEnd, IsFront}
use Rattle.text_lines.specs.Feed.{IsLastLine, MeetsLimit}
use Rattle.text_lines.specs.Reading.{FeedReads, IsSpent}
use Rattle.text_lines.proofs.FeedLemmas.{ahead_front, ended_needs, front_some, front_within}
use Rattle.text_lines.proofs.FeedLemmas.{front_unspent, limit_before, limit_not, limit_not_last}
use Rattle.text_lines.specs.declared.feed.FeedError.{FeedError}
use Rattle.text_lines.proofs.ReadingLemmas.{SoFar, so_far_none, so_far_on, feed_reads_on}
use Rattle.text_lines.proofs.ReadingLemmas.{feed_reads_answered, feed_reads_starved, if_more_wanted}
use Rattle.text_lines.proofs.ReadingLemmas.{if_turns}
use Rattle.graph_text.specs.declared.batch_text.BatchText.{BatchText}
use Rattle.graph_text.specs.declared.batch_text.OpenBatch.{OpenBatch}
use Rattle.graph_text.specs.declared.stream_lines.StreamLine.TheVariants.{Commit}
use Rattle.graph_text.specs.StreamText.{stream_line, unfinished}
use Rattle.graph_text.specs.OpenCode.{IsPaired, with_line, committed}
use Rattle.graph_text.specs.BatchCode.{NoBatchEnds, IsBatchStuck, IsFirstEnded, batches_ahead}
use Rattle.graph_text.proofs.BatchLemmas.{EndsAhead, open_on, open_first, open_commit, open_line}
use Rattle.graph_text.proofs.BatchLemmas.{open_found, told_alike, ended_at_end, ends_found}
use Rattle.graph_text.proofs.BatchLemmas.{ends_fresh, ends_none, ends_more, ends_commit}
use Rattle.graph_text.proofs.BatchLemmas.{batch_at_end, none_at_end, no_batch_ends, batch_stuck}
use Rattle.graph_text.proofs.BatchLemmas.{short_not_stuck, batch_not_stuck}
use Rattle.graph_text.proofs.batch_reader.read_batch.Given.{Over}
use Rattle.graph_text.proofs.batch_reader.read_batch.Goals as goal
use Rattle.graph_text.proofs.batch_reader.read_batch.Goals.{After-find, In_ok-found, In-Some}
use Rattle.graph_text.proofs.batch_reader.read_batch.Goals.{After-stream_line-line}

pub lines-init : goal.lines-init
lines-init g c =
    let first = c.args.feed.now in
    let start = g.S.Shelf.told c.args.shelf.now in
    let new = c.new-open.ensures in
    record {
      so_far = so_far_none _ _ _ _ _ _;
      read =
          ap (λ (b : OpenBatch). open_on unfinished b (first.lines + 1) (ahead start first)) new
          ∙ open_first unfinished (first.lines + 1) (ahead start first);
      ended = λ most few. ends_fresh start first c.new-open.result most new;
      paired = subst IsPaired (sym new) (record { lines = refl; few = omega arith });
      begun = λ _. ap (λ (b : OpenBatch). b.first_line) new;
      lines = omega arith;
      slot = refl;
      due = λ _. refl;
    }

module _ (g : Over) (c : After-find g) where
  below : IfSome (g.S.Shelf.told c.args.shelf.now) (λ t. c.args.feed.now.slot < length t.slots)
  below =
      slot_told (g.S.Shelf.told c.args.shelf.now) (g.S.Shelf.opened c.args.shelf.now)
      c.args.feed.now.slot (g.met.S.Shelf.tells_slots c.args.shelf.now) c.requires.slot

  -- what was read since the call began
  read_since : (error : Option FeedError)
      → FeedReads g.S.Shelf.told g.S.Shelf.opened g.S.Shelf.faults c.lines.shelf c.find.new.shelf
      c.lines.feed c.find.new.self error
      → FeedReads g.S.Shelf.told g.S.Shelf.opened g.S.Shelf.faults c.args.shelf.now
      c.find.new.shelf c.args.feed.now c.find.new.self error
  read_since error reads =
      feed_reads_on g.S.Shelf.told g.S.Shelf.opened g.S.Shelf.faults _ _ _ c.args.feed.now
      c.lines.feed c.find.new.self error below c.lines.invariant.so_far c.lines.invariant.slot
      c.lines.invariant.lines reads

  -- whether the shelf tells its bytes stays
  alike : (error : Option FeedError)
      → FeedReads g.S.Shelf.told g.S.Shelf.opened g.S.Shelf.faults c.args.shelf.now
      c.find.new.shelf c.args.feed.now c.find.new.self error
      → (let none : Option Told → Option (List BatchText) = option_map (λ _. []) in
      none (g.S.Shelf.told c.find.new.shelf) ≡ none (g.S.Shelf.told c.args.shelf.now))
  alike error all =
      told_alike [] (g.S.Shelf.told c.args.shelf.now) (g.S.Shelf.told c.find.new.shelf)
      c.args.feed.now.slot _ all.reads.takes

  -- the lines ahead that end are those that were ahead
  ends_ahead : c.find.new.self.lines ≡ c.lines.feed.lines
      → c.lines.feed.taken ≤ c.find.new.self.taken
      → ((most : ℕ) → c.find.new.self.taken ≤ most
      → ended_within most (g.S.Shelf.told c.find.new.shelf) c.find.new.self
      ≡ ended_within most (g.S.Shelf.told c.lines.shelf) c.lines.feed)
      → (most : ℕ) → c.find.new.self.taken ≤ most
      → EndsAhead (g.S.Shelf.told c.args.shelf.now) (g.S.Shelf.told c.find.new.shelf)
      c.args.feed.now c.find.new.self c.lines.open most
  ends_ahead lines later same most few =
      ends_found (g.S.Shelf.told c.args.shelf.now) (g.S.Shelf.told c.lines.shelf)
      (g.S.Shelf.told c.find.new.shelf) c.args.feed.now c.lines.feed c.find.new.self c.lines.open
      most lines (same most few) (c.lines.invariant.ended most (omega arith))

-- the batches ahead, seen from the line that was looked for
batches_from : (g : Over) (c : In_ok-found g)
    → open_on unfinished c.lines.open (c.find.new.self.lines + 1)
    (ahead (g.S.Shelf.told c.find.new.shelf) c.find.new.self)
    ≡ batches_ahead (g.S.Shelf.told c.args.shelf.now) c.args.feed.now
batches_from g c =
    open_found (g.S.Shelf.told c.lines.shelf) (g.S.Shelf.told c.find.new.shelf) c.lines.feed
    c.find.new.self c.lines.open c.in_ok-found.ensures.lines c.in_ok-found.ensures.ahead
    ∙ c.lines.invariant.read

-- the line in front
module _ (g : Over) (c : In-Some g) where
  front : IsFront (g.S.Shelf.told c.find.new.shelf) c.find.new.self c.in-Some.found.len
      c.in-Some.found.whole
  front =
      subst (λ r. MatchOption r (IsAtEnd (g.S.Shelf.told c.find.new.shelf) c.find.new.self)
      (λ x. IsFront (g.S.Shelf.told c.find.new.shelf) c.find.new.self x.len x.whole)) c.in-Some.is
      c.in_ok-found.ensures.line

  -- a line that has no end doesn't stand where so many bytes were taken as are at most
  short : FeedReads g.S.Shelf.told g.S.Shelf.opened g.S.Shelf.faults c.args.shelf.now
      c.find.new.shelf c.args.feed.now c.find.new.self None
      → IfSome (g.S.Shelf.told c.args.shelf.now) (λ t. c.args.feed.now.slot < length t.slots)
      → IsLastLine (g.S.Shelf.told c.find.new.shelf) c.find.new.self c.in-Some.found.len
      c.in-Some.found.whole
      → IfSome (g.S.Shelf.told c.args.shelf.now) (λ t. ¬ MeetsLimit c.args.feed.now t)
  short all there =
      limit_not_last (g.S.Shelf.told c.args.shelf.now) (g.S.Shelf.told c.find.new.shelf)
      c.args.feed.now c.find.new.self there all.slot all.reads.later all.reads.takes
      c.in-Some.found.len c.in-Some.found.whole

line_is : (g : Over) (c : After-stream_line-line g)
    → c.stream_line-line.result
    ≡ stream_line (seen (take c.in-Some.found.len c.find.new.self.pending))
line_is g c = c.stream_line-line.ensures ∙ ap stream_line c.text.ensures

pub returns-in_err-found-clause-reads : goal.returns-in_err-found-clause-reads
returns-in_err-found-clause-reads g c =
    let at = goal.at.returns-in_err-found-clause-reads g c in
    let e = c.in_err-found.ensures in
    let all = read_since g at.After-find (Some c.in_err-found.field-0.0) e.reads in
    search (rules, all)

pub returns-in_err-found-clause-unended : goal.returns-in_err-found-clause-unended
returns-in_err-found-clause-unended g c =
    let at = goal.at.returns-in_err-found-clause-unended g c in
    let first = c.args.feed.now in
    let f = c.find.new.self in
    let start = g.S.Shelf.told c.args.shelf.now in
    let told = g.S.Shelf.told c.find.new.shelf in
    let e = c.in_err-found.ensures in
    let all = read_since g at.After-find (Some c.in_err-found.field-0.0) e.reads in
    let ended = ends_ahead g at.After-find e.lines e.reads.reads.later e.ended in
    let same = alike g at.After-find (Some c.in_err-found.field-0.0) all in
    let h =
    if_more_wanted f c.in_err-found.field-0.0 (IfSome start (NoBatchEnds f.taken first))
    e.reads.stops
    (λ none. no_batch_ends start first f.taken
    (ends_none start told first f c.lines.open f.taken c.lines.invariant.paired same
    (ended_needs told f f.taken (omega arith) none) (ended f.taken (omega arith)))) in
    search (rules, h)

pub returns-in_err-found-clause-stuck : goal.returns-in_err-found-clause-stuck
returns-in_err-found-clause-stuck g c =
    let at = goal.at.returns-in_err-found-clause-stuck g c in
    let first = c.args.feed.now in
    let f = c.find.new.self in
    let start = g.S.Shelf.told c.args.shelf.now in
    let told = g.S.Shelf.told c.find.new.shelf in
    let e = c.in_err-found.ensures in
    let all = read_since g at.After-find (Some c.in_err-found.field-0.0) e.reads in
    let ended = ends_ahead g at.After-find e.lines e.reads.reads.later e.ended in
    let same = alike g at.After-find (Some c.in_err-found.field-0.0) all in
    let there = below g at.After-find in
    let h =
    if_turns f c.in_err-found.field-0.0 (IfSome start (IsBatchStuck first)) e.reads.stops
    (λ spent. batch_stuck start first
    (limit_before start told first f there all.slot all.reads.later all.reads.takes spent.all)
    (no_batch_ends start first MOST_BYTES
    (ends_none start told first f c.lines.open MOST_BYTES c.lines.invariant.paired same
    (ended_needs told f MOST_BYTES (let full = spent.all in omega arith) spent.none)
    (ended MOST_BYTES e.reads.reads.most)))) in
    search (rules, h)

pub returns-in_default-clause-reads : goal.returns-in_default-clause-reads
returns-in_default-clause-reads g c =
    let at = goal.at.returns-in_default-clause-reads g c in
    let e = c.in_ok-found.ensures in
    read_since g at.After-find None e.reads

pub returns-in_default-clause-batch : goal.returns-in_default-clause-batch
returns-in_default-clause-batch g c =
    let at = goal.at.returns-in_default-clause-batch g c in
    let first = c.args.feed.now in
    let f = c.find.new.self in
    let start = g.S.Shelf.told c.args.shelf.now in
    let told = g.S.Shelf.told c.find.new.shelf in
    let e = c.in_ok-found.ensures in
    let end : IsAtEnd told f =
    subst (λ r. MatchOption r (IsAtEnd told f) (λ x. IsFront told f x.len x.whole)) c.in_default.is
    e.line in
    batch_at_end start told first f c.lines.open c.lines.invariant.paired end
    (batches_from g at.In_ok-found) c.leave_open.result c.leave_open.ensures.batch

pub returns-in_default-clause-none : goal.returns-in_default-clause-none
returns-in_default-clause-none g c =
    let at = goal.at.returns-in_default-clause-none g c in
    let first = c.args.feed.now in
    let f = c.find.new.self in
    let start = g.S.Shelf.told c.args.shelf.now in
    let told = g.S.Shelf.told c.find.new.shelf in
    let e = c.in_ok-found.ensures in
    let end : IsAtEnd told f =
    subst (λ r. MatchOption r (IsAtEnd told f) (λ x. IsFront told f x.len x.whole)) c.in_default.is
    e.line in
    none_at_end start told first f c.lines.open c.lines.invariant.paired end
    (batches_from g at.In_ok-found) c.leave_open.result c.leave_open.ensures.batch

pub returns-in_default-clause-first : goal.returns-in_default-clause-first
returns-in_default-clause-first g c =
    let at = goal.at.returns-in_default-clause-first g c in
    let first = c.args.feed.now in
    let f = c.find.new.self in
    let start = g.S.Shelf.told c.args.shelf.now in
    let told = g.S.Shelf.told c.find.new.shelf in
    let e = c.in_ok-found.ensures in
    let all = read_since g at.After-find None e.reads in
    let end : IsAtEnd told f =
    subst (λ r. MatchOption r (IsAtEnd told f) (λ x. IsFront told f x.len x.whole)) c.in_default.is
    e.line in
    let ended = ends_ahead g at.After-find e.lines e.reads.reads.later e.ended in
    let same = alike g at.After-find None all in
    each c.leave_open.result (λ b most few. inl
    (ends_none start told first f c.lines.open most c.lines.invariant.paired same
    (ended_at_end told f end most) (ended most few)))
  where
    each : {P : BatchText → Type 0} (r : Option BatchText) → ((b : BatchText) → P b) → IfSome r P
    each None h = tt
    each (Some b) h = h b

pub returns-in_default-clause-not_stuck : goal.returns-in_default-clause-not_stuck
returns-in_default-clause-not_stuck g c =
    let at = goal.at.returns-in_default-clause-not_stuck g c in
    let first = c.args.feed.now in
    let f = c.find.new.self in
    let start = g.S.Shelf.told c.args.shelf.now in
    let told = g.S.Shelf.told c.find.new.shelf in
    let e = c.in_ok-found.ensures in
    let all = read_since g at.After-find None e.reads in
    let end : IsAtEnd told f =
    subst (λ r. MatchOption r (IsAtEnd told f) (λ x. IsFront told f x.len x.whole)) c.in_default.is
    e.line in
    let there = below g at.After-find in
    let few = subst (λ r. IfNone r (f.taken < MOST_BYTES)) c.in_default.is e.fewer in
    short_not_stuck start first
    (limit_not start told first f there all.slot all.reads.later all.reads.takes few end.1)

pub returns-in-Commit-clause-reads : goal.returns-in-Commit-clause-reads
returns-in-Commit-clause-reads g c =
    let at = goal.at.returns-in-Commit-clause-reads g c in
    let first = c.args.feed.now in
    let f = c.find.new.self in
    let told = g.S.Shelf.told c.find.new.shelf in
    let e = c.in_ok-found.ensures in
    let all = read_since g at.After-find None e.reads in
    let found = c.in-Some.found in
    let ahead_is = front g at.In-Some in
    subst (λ (x : Feed). FeedReads g.S.Shelf.told g.S.Shelf.opened g.S.Shelf.faults c.args.shelf.now
    c.find.new.shelf first x None) (sym c.skip.ensures)
    (feed_reads_answered g.S.Shelf.told g.S.Shelf.opened g.S.Shelf.faults _ _ first f found.whole
    (front_some told f found.len found.whole ahead_is)
    (front_within told f found.len found.whole ahead_is) all)

pub returns-in-Commit-clause-batch : goal.returns-in-Commit-clause-batch
returns-in-Commit-clause-batch g c =
    let at = goal.at.returns-in-Commit-clause-batch g c in
    let f = c.find.new.self in
    let told = g.S.Shelf.told c.find.new.shelf in
    let found = c.in-Some.found in
    let ahead_is = front g at.In-Some in
    let line = line_is g at.After-stream_line-line in
    let commit = sym line ∙ c.in-Commit.is in
    let number : c.lines-number.result ≡ f.lines = c.lines-number.ensures.value in
    let batch_is : c.commit.result ≡ committed c.lines.open (f.lines + 1) =
    c.commit.ensures.batch ∙ ap (λ (n : ℕ). committed c.lines.open (n + 1)) number in
    sym (batches_from g at.In_ok-found)
    ∙ open_commit unfinished c.lines.open (f.lines + 1) (seen (take found.len f.pending))
    (ahead told f) (ahead told (answered found.whole f)) c.lines.invariant.paired
    (ahead_front told f found.len found.whole ahead_is) commit
    ∙ ap (λ (x : BatchText). option_map (λ rest. x ∷ rest)
    (batches_ahead told (answered found.whole f))) (sym batch_is)
    ∙ ap (λ (x : Feed). option_map (λ rest. c.commit.result ∷ rest) (batches_ahead told x))
    (sym c.skip.ensures)

pub returns-in-Commit-clause-first : goal.returns-in-Commit-clause-first
returns-in-Commit-clause-first g c =
    let at = goal.at.returns-in-Commit-clause-first g c in
    let first = c.args.feed.now in
    let f = c.find.new.self in
    let start = g.S.Shelf.told c.args.shelf.now in
    let told = g.S.Shelf.told c.find.new.shelf in
    let e = c.in_ok-found.ensures in
    let all = read_since g at.After-find None e.reads in
    let found = c.in-Some.found in
    let ahead_is = front g at.In-Some in
    let line = line_is g at.After-stream_line-line in
    let ended = ends_ahead g at.After-find e.lines e.reads.reads.later e.ended in
    let same = alike g at.After-find None all in
    let there = below g at.After-find in
    let last = short g at.In-Some all there in
    let commit = sym line ∙ c.in-Commit.is in
    let number : c.lines-number.result ≡ f.lines = c.lines-number.ensures.value in
    let batch_is : c.commit.result ≡ committed c.lines.open (f.lines + 1) =
    c.commit.ensures.batch ∙ ap (λ (n : ℕ). committed c.lines.open (n + 1)) number in
    λ most few.
    let skipped = ap (λ (x : Feed). x.taken) c.skip.ensures in
    let h =
    ends_commit start told first f c.lines.open most c.lines.invariant.paired same found.len
    found.whole last ahead_is commit (ended most (omega arith)) in
    subst (λ (x : Feed). IsFirstEnded c.commit.result most start told first x) (sym c.skip.ensures)
    (subst (λ (y : BatchText). IsFirstEnded y most start told first (answered found.whole f))
    (sym batch_is) h)

pub returns-in-Commit-clause-not_stuck : goal.returns-in-Commit-clause-not_stuck
returns-in-Commit-clause-not_stuck g c =
    let at = goal.at.returns-in-Commit-clause-not_stuck g c in
    let first = c.args.feed.now in
    let f = c.find.new.self in
    let start = g.S.Shelf.told c.args.shelf.now in
    let told = g.S.Shelf.told c.find.new.shelf in
    let e = c.in_ok-found.ensures in
    let all = read_since g at.After-find None e.reads in
    let found = c.in-Some.found in
    let ahead_is = front g at.In-Some in
    let line = line_is g at.After-stream_line-line in
    let ended = ends_ahead g at.After-find e.lines e.reads.reads.later e.ended in
    let there = below g at.After-find in
    let last = short g at.In-Some all there in
    let commit = sym line ∙ c.in-Commit.is in
    batch_not_stuck start told first f c.lines.open found.len found.whole c.lines.invariant.paired
    last ahead_is commit (ended MOST_BYTES e.reads.reads.most)

pub returns-in_err-take_line-clause-reads : goal.returns-in_err-take_line-clause-reads
returns-in_err-take_line-clause-reads g c =
    let at = goal.at.returns-in_err-take_line-clause-reads g c in
    let first = c.args.feed.now in
    let f = c.find.new.self in
    let told = g.S.Shelf.told c.find.new.shelf in
    let e = c.in_ok-found.ensures in
    let all = read_since g at.After-find None e.reads in
    let found = c.in-Some.found in
    let ahead_is = front g at.In-Some in
    let h =
    feed_reads_starved g.S.Shelf.told g.S.Shelf.opened g.S.Shelf.faults _ _ first f
    (front_unspent told f found.len found.whole ahead_is) all in
    search (rules, h)

pub lines-preserved : goal.lines-preserved
lines-preserved g c =
    let at = goal.at.lines-preserved g c in
    let first = c.args.feed.now in
    let f = c.find.new.self in
    let start = g.S.Shelf.told c.args.shelf.now in
    let told = g.S.Shelf.told c.find.new.shelf in
    let e = c.in_ok-found.ensures in
    let all = read_since g at.After-find None e.reads in
    let found = c.in-Some.found in
    let ahead_is = front g at.In-Some in
    let line = line_is g at.After-stream_line-line in
    let ended = ends_ahead g at.After-find e.lines e.reads.reads.later e.ended in
    let same = alike g at.After-find None all in
    let there = below g at.After-find in
    let last = short g at.In-Some all there in
    let n = f.lines + 1 in
    let number : c.lines-number.result ≡ f.lines = c.lines-number.ensures.value in
    let other : stream_line (seen (take found.len f.pending)) ≡ Commit → ⊥ =
    λ is. c.in_default-line.not-Commit (line ∙ is) in
    let taken : c.take_line.new.self
    ≡ with_line c.lines.open n (stream_line (seen (take found.len f.pending))) =
    c.in_ok-take_line.ensures.taken ∙ ap
    (λ (k : ℕ). with_line c.lines.open (k + 1) c.stream_line-line.result) number
    ∙ ap (with_line c.lines.open n) line in
    let skipped = c.skip-in-lines.ensures in
    let same_taken = ap (λ (x : Feed). x.taken) skipped in
    let counted = ap (λ (x : Feed). x.lines) skipped in
    let more = all.no_fewer_lines in
    record {
      so_far =
          subst (λ (k : ℕ). SoFar g.S.Shelf.told g.S.Shelf.opened g.S.Shelf.faults c.args.shelf.now
          c.find.new.shelf first.slot first.taken k) (sym same_taken)
          (so_far_on g.S.Shelf.told g.S.Shelf.opened g.S.Shelf.faults _ _ _ first.slot first.taken
          c.lines.feed.taken f.taken there c.lines.invariant.so_far _ c.lines.invariant.slot
          e.reads.reads);
      read =
          ap (λ (x : Feed). open_on unfinished c.take_line.new.self (x.lines + 1) (ahead told x))
          skipped
          ∙ open_line unfinished c.lines.open n (seen (take found.len f.pending)) (ahead told f)
          (ahead told (answered found.whole f)) c.lines.invariant.paired
          (ahead_front told f found.len found.whole ahead_is) c.take_line.new.self other taken
          ∙ batches_from g at.In_ok-found;
      ended =
          λ most few. subst (λ (x : Feed). EndsAhead start told first x c.take_line.new.self most)
          (sym skipped)
          (ends_more start told first f c.lines.open most c.lines.invariant.paired same found.len
          found.whole last ahead_is c.take_line.new.self other taken (ended most (omega arith)));
      paired = c.in_ok-take_line.ensures.paired;
      begun = λ h. absurd (omega arith);
      lines = omega arith;
      slot = ap (λ (x : Feed). x.slot) skipped ∙ all.slot;
      due =
          λ h. let wrong = e.due (subst IsSpent (sym (c.lines.invariant.due h)) h) in absurd
          (cc wrong);
    }
