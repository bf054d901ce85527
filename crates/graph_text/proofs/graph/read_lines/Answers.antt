use Rattle.std.proofs.Common.{◌≡◌, ℕ, suc, ◌+◌, ◌<◌, ◌≤◌, ◌∙◌, ap, sym, subst, refl, arith}
use Rattle.std.proofs.Common.{rules, List, [], length, Option, None, Some}
use Rattle.std.specs.Prelude.{IfNone, IfSome, IsOk, MatchOption, take}
use Rattle.std.specs.Option.{option_map}
use Rattle.bolt_base.specs.declared.limits.LineCause.{LineCause}
use Rattle.bolt_io.specs.declared.whole.TheConstants.{MOST_BYTES}
use Rattle.bolt_io.proofs.TakenLemmas.{slot_told}
use Rattle.text_lines.specs.Feed.{Feed, ahead, ended_ahead, ended_within, bytes_after, answered}
use Rattle.text_lines.specs.Feed.{IsAtEnd, IsFront}
use Rattle.text_lines.specs.Lines.{seen}
use Rattle.text_lines.proofs.FeedLemmas.{ahead_end, ahead_front, bytes_after_front, ended_needs}
use Rattle.text_lines.proofs.FeedLemmas.{front_unspent, limit_later}
use Rattle.text_lines.proofs.ReadingLemmas.{SoFar, so_far_none, so_far_on, feed_reads_on}
use Rattle.text_lines.proofs.ReadingLemmas.{feed_reads_starved, if_more_wanted}
use Rattle.graph_text.specs.GraphText.{graph_line, cause, taken_in, draft_after}
use Rattle.graph_text.specs.DraftCode.{draft_of}
use Rattle.graph_text.specs.DraftGood.{IsSound}
use Rattle.graph_text.specs.ReadCode.{ReadsGoodLines}
use Rattle.graph_text.proofs.SoundLemmas.{sound_line}
use Rattle.graph_text.proofs.ReadLemmas.{Lines, all_found, ended_found, ended_front_limit, read_end}
use Rattle.graph_text.proofs.ReadLemmas.{read_bad, read_good, no_sooner, good_front, good_none}
use Rattle.graph_text.proofs.ReadLemmas.{none_behind, front_in_hand, wanted_as_refusal}
use Rattle.graph_text.proofs.ReadLemmas.{no_lines_found, behind_more, reading_error_of}
use Rattle.text_lines.specs.declared.feed.FeedError.{FeedError}
use Rattle.text_lines.specs.Reading.{FeedReads}
use Rattle.graph_text.proofs.graph.read_lines.Given.{Over}
use Rattle.graph_text.proofs.graph.read_lines.Goals as goal
use Rattle.graph_text.proofs.graph.read_lines.Goals.{After-find, In-Some}
use Rattle.graph_text.proofs.graph.read_lines.Goals.{After-graph_line-line, In-Some-2}

pub lines-init : goal.lines-init
lines-init g c = record {
  so_far = so_far_none _ _ _ _ _ _;
  all = refl;
  ended = λ limit. refl;
  good = λ most few h. h;
  no_lines = λ most few h. h;
  bytes_left =
      λ n k count. ap (λ (j : ℕ). bytes_after (suc j) (g.S.Shelf.told c.args.shelf.now)
      c.args.feed.now) (let same : n ≡ n + k = omega arith in same);
  grows = λ h. h;
  lines = omega arith;
  slot = refl;
}

module _ (g : Over) (c : After-find g) where
  below : IfSome (g.S.Shelf.told c.args.shelf.now) (λ t. c.args.feed.now.slot < length t.slots)
  below =
      slot_told (g.S.Shelf.told c.args.shelf.now) (g.S.Shelf.opened c.args.shelf.now)
      c.args.feed.now.slot (g.met.S.Shelf.tells_slots c.args.shelf.now) c.requires.slot

  -- what was read since the call began
  read_since : (error : Option FeedError)
      → FeedReads g.S.Shelf.told g.S.Shelf.opened g.S.Shelf.faults c.lines.shelf c.find.new.shelf
      c.lines.feed c.find.new.self error
      → FeedReads g.S.Shelf.told g.S.Shelf.opened g.S.Shelf.faults c.args.shelf.now
      c.find.new.shelf c.args.feed.now c.find.new.self error
  read_since error reads =
      feed_reads_on g.S.Shelf.told g.S.Shelf.opened g.S.Shelf.faults _ _ _ c.args.feed.now
      c.lines.feed c.find.new.self error below c.lines.invariant.so_far c.lines.invariant.slot
      c.lines.invariant.lines reads

  module _ (same : c.find.new.self.lines ≡ c.lines.feed.lines) where
    -- what is read of the lines ahead is what is read of all lines
    read_ahead : ahead (g.S.Shelf.told c.find.new.shelf) c.find.new.self
        ≡ ahead (g.S.Shelf.told c.lines.shelf) c.lines.feed
        → option_map (draft_after c.args.limits.now (draft_of c.lines.draft)
        (c.find.new.self.lines + 1)) (ahead (g.S.Shelf.told c.find.new.shelf) c.find.new.self)
        ≡ option_map (draft_after c.args.limits.now (draft_of c.args.draft.now)
        (c.args.feed.now.lines + 1)) (ahead (g.S.Shelf.told c.args.shelf.now) c.args.feed.now)
    read_ahead same_ahead =
        all_found c.args.limits.now (draft_of c.lines.draft) (g.S.Shelf.told c.lines.shelf)
        (g.S.Shelf.told c.find.new.shelf) c.lines.feed c.find.new.self same same_ahead
        ∙ c.lines.invariant.all

    good_so_far : ahead (g.S.Shelf.told c.find.new.shelf) c.find.new.self
        ≡ ahead (g.S.Shelf.told c.lines.shelf) c.lines.feed
        → ((n : ℕ) → bytes_after (suc n) (g.S.Shelf.told c.find.new.shelf) c.find.new.self
        ≡ bytes_after (suc n) (g.S.Shelf.told c.lines.shelf) c.lines.feed)
        → ReadsGoodLines c.args.limits.now (g.S.Shelf.told c.args.shelf.now)
        (g.S.Shelf.told c.find.new.shelf) c.args.feed.now c.find.new.self
        (draft_of c.args.draft.now)
    good_so_far same_ahead after = record {
      bytes_left = λ n k count. after n ∙ c.lines.invariant.bytes_left n k (omega arith);
      no_sooner =
          no_sooner c.args.limits.now (draft_of c.lines.draft) (c.find.new.self.lines + 1)
          (draft_after c.args.limits.now (draft_of c.args.draft.now) (c.args.feed.now.lines + 1))
          (ahead (g.S.Shelf.told c.args.shelf.now) c.args.feed.now)
          (ahead (g.S.Shelf.told c.find.new.shelf) c.find.new.self) (read_ahead same_ahead);
    }

  -- where no line ended in the bytes taken, none does
  no_line_ends : (error : Option FeedError)
      → FeedReads g.S.Shelf.told g.S.Shelf.opened g.S.Shelf.faults c.lines.shelf c.find.new.shelf
      c.lines.feed c.find.new.self error
      → ((most : ℕ) → c.find.new.self.taken ≤ most
      → ended_within most (g.S.Shelf.told c.find.new.shelf) c.find.new.self
      ≡ ended_within most (g.S.Shelf.told c.lines.shelf) c.lines.feed)
      → (most : ℕ) → c.find.new.self.taken ≤ most
      → ended_within most (g.S.Shelf.told c.args.shelf.now) c.args.feed.now
      ≡ option_map (λ _. []) (g.S.Shelf.told c.args.shelf.now)
      → ended_within most (g.S.Shelf.told c.find.new.shelf) c.find.new.self
      ≡ option_map (λ _. []) (g.S.Shelf.told c.find.new.shelf)
  no_line_ends error reads same most few =
      no_lines_found (g.S.Shelf.told c.args.shelf.now) (g.S.Shelf.told c.lines.shelf)
      (g.S.Shelf.told c.find.new.shelf) c.args.feed.now c.lines.feed c.find.new.self most
      c.args.feed.now.slot _ _ c.lines.invariant.so_far.takes (read_since error reads).reads.takes
      (same most few)
      (c.lines.invariant.no_lines most (let later = reads.reads.later in omega arith))

-- the line in front
front : (g : Over) (c : In-Some g)
    → IsFront (g.S.Shelf.told c.find.new.shelf) c.find.new.self c.in-Some.found.len
    c.in-Some.found.whole
front g c =
    subst (λ r. MatchOption r (IsAtEnd (g.S.Shelf.told c.find.new.shelf) c.find.new.self)
    (λ x. IsFront (g.S.Shelf.told c.find.new.shelf) c.find.new.self x.len x.whole)) c.in-Some.is
    c.in_ok-found.ensures.line

line_is : (g : Over) (c : After-graph_line-line g)
    → c.graph_line-line.result
    ≡ graph_line (seen (take c.in-Some.found.len c.find.new.self.pending))
line_is g c = c.graph_line-line.ensures ∙ ap graph_line c.text.ensures

line_is_bad : (g : Over) (c : In-Some-2 g)
    → c.graph_line-line.result
    ≡ graph_line (seen (take c.in-Some.found.len c.find.new.self.pending))
    → cause c.args.limits.now (draft_of c.lines.draft)
    (graph_line (seen (take c.in-Some.found.len c.find.new.self.pending)))
    ≡ Some c.in-Some-2.cause
line_is_bad g c is =
    ap (cause c.args.limits.now (draft_of c.lines.draft)) (sym is)
    ∙ sym c.in_ok-cause.ensures.cause ∙ c.in-Some-2.is

pub returns-in_err-found-clause-reads : goal.returns-in_err-found-clause-reads
returns-in_err-found-clause-reads g c =
    let at = goal.at.returns-in_err-found-clause-reads g c in
    let first = c.args.feed.now in
    let f = c.find.new.self in
    let e = c.in_err-found.ensures in
    let reads = read_since g at.After-find (Some c.in_err-found.field-0.0) e.reads in
    let h =
    subst (λ o. FeedReads g.S.Shelf.told g.S.Shelf.opened g.S.Shelf.faults c.args.shelf.now
    c.find.new.shelf first f o) (sym (reading_error_of c.in_err-found.field-0.0)) reads in
    search (rules, h)

pub returns-in_err-found-clause-far : goal.returns-in_err-found-clause-far
returns-in_err-found-clause-far g c =
    let at = goal.at.returns-in_err-found-clause-far g c in
    let e = c.in_err-found.ensures in
    good_so_far g at.After-find e.lines e.ahead e.after

pub returns-in_err-found-clause-good : goal.returns-in_err-found-clause-good
returns-in_err-found-clause-good g c =
    let at = goal.at.returns-in_err-found-clause-good g c in
    let l = c.args.limits.now in
    let d = draft_of c.lines.draft in
    let d0 = draft_of c.args.draft.now in
    let first = c.args.feed.now in
    let f = c.find.new.self in
    let start = g.S.Shelf.told c.args.shelf.now in
    let told = g.S.Shelf.told c.find.new.shelf in
    let e = c.in_err-found.ensures in
    let h =
    if_more_wanted f c.in_err-found.field-0.0
    (IfSome (ended_within f.taken start first)
    (λ lines. IsOk (draft_after l d0 (first.lines + 1) lines))) e.reads.stops
    (λ none. c.lines.invariant.good f.taken (let later = e.reads.reads.later in omega arith)
    (good_none l d (c.lines.feed.lines + 1) told
    (ended_within f.taken (g.S.Shelf.told c.lines.shelf) c.lines.feed)
    (sym (e.ended f.taken (omega arith)) ∙ ended_needs told f f.taken (omega arith) none))) in
    let k = wanted_as_refusal c.in_err-found.field-0.0 _ h in
    search (rules, k)

pub returns-in_err-found-clause-no_lines : goal.returns-in_err-found-clause-no_lines
returns-in_err-found-clause-no_lines g c =
    let at = goal.at.returns-in_err-found-clause-no_lines g c in
    let f = c.find.new.self in
    let e = c.in_err-found.ensures in
    no_line_ends g at.After-find (Some c.in_err-found.field-0.0) e.reads e.ended f.taken
    (omega arith)

pub returns-in_default-clause-reads : goal.returns-in_default-clause-reads
returns-in_default-clause-reads g c =
    let at = goal.at.returns-in_default-clause-reads g c in
    let e = c.in_ok-found.ensures in
    read_since g at.After-find None e.reads

pub returns-in_default-clause-far : goal.returns-in_default-clause-far
returns-in_default-clause-far g c =
    let at = goal.at.returns-in_default-clause-far g c in
    let e = c.in_ok-found.ensures in
    good_so_far g at.After-find e.lines e.ahead e.after

pub returns-in_default-clause-no_lines : goal.returns-in_default-clause-no_lines
returns-in_default-clause-no_lines g c =
    let at = goal.at.returns-in_default-clause-no_lines g c in
    let f = c.find.new.self in
    let e = c.in_ok-found.ensures in
    no_line_ends g at.After-find None e.reads e.ended f.taken (omega arith)

pub returns-in_err-cause-clause-reads : goal.returns-in_err-cause-clause-reads
returns-in_err-cause-clause-reads g c =
    let at = goal.at.returns-in_err-cause-clause-reads g c in
    let first = c.args.feed.now in
    let f = c.find.new.self in
    let told = g.S.Shelf.told c.find.new.shelf in
    let e = c.in_ok-found.ensures in
    let reads = read_since g at.After-find None e.reads in
    let found = c.in-Some.found in
    let ahead_is = front g at.In-Some in
    let h =
    feed_reads_starved g.S.Shelf.told g.S.Shelf.opened g.S.Shelf.faults _ _ first f
    (front_unspent told f found.len found.whole ahead_is) reads in
    search (rules, h)

pub returns-in_err-cause-clause-far : goal.returns-in_err-cause-clause-far
returns-in_err-cause-clause-far g c =
    let at = goal.at.returns-in_err-cause-clause-far g c in
    let e = c.in_ok-found.ensures in
    good_so_far g at.After-find e.lines e.ahead e.after

pub returns-in_err-cause-clause-no_lines : goal.returns-in_err-cause-clause-no_lines
returns-in_err-cause-clause-no_lines g c =
    let at = goal.at.returns-in_err-cause-clause-no_lines g c in
    let f = c.find.new.self in
    let e = c.in_ok-found.ensures in
    no_line_ends g at.After-find None e.reads e.ended f.taken (omega arith)

pub returns-in-Some-2-clause-reads : goal.returns-in-Some-2-clause-reads
returns-in-Some-2-clause-reads g c =
    let at = goal.at.returns-in-Some-2-clause-reads g c in
    let e = c.in_ok-found.ensures in
    read_since g at.After-find None e.reads

pub returns-in-Some-2-clause-far : goal.returns-in-Some-2-clause-far
returns-in-Some-2-clause-far g c =
    let at = goal.at.returns-in-Some-2-clause-far g c in
    let e = c.in_ok-found.ensures in
    good_so_far g at.After-find e.lines e.ahead e.after

pub returns-in-Some-2-clause-no_lines : goal.returns-in-Some-2-clause-no_lines
returns-in-Some-2-clause-no_lines g c =
    let at = goal.at.returns-in-Some-2-clause-no_lines g c in
    let f = c.find.new.self in
    let e = c.in_ok-found.ensures in
    no_line_ends g at.After-find None e.reads e.ended f.taken (omega arith)

pub returns-in_default-clause-read : goal.returns-in_default-clause-read
returns-in_default-clause-read g c =
    let at = goal.at.returns-in_default-clause-read g c in
    let l = c.args.limits.now in
    let d = draft_of c.lines.draft in
    let d0 = draft_of c.args.draft.now in
    let first = c.args.feed.now in
    let f = c.find.new.self in
    let start = g.S.Shelf.told c.args.shelf.now in
    let told = g.S.Shelf.told c.find.new.shelf in
    let e = c.in_ok-found.ensures in
    let end : IsAtEnd told f =
    subst (λ r. MatchOption r (IsAtEnd told f) (λ x. IsFront told f x.len x.whole)) c.in_default.is
    e.line in
    read_end l d (f.lines + 1) (draft_after l d0 (first.lines + 1)) (ahead start first)
    (ahead told f) (read_ahead g at.After-find e.lines e.ahead) told (ahead_end told f end)

pub returns-in-Some-2-clause-bad : goal.returns-in-Some-2-clause-bad
returns-in-Some-2-clause-bad g c =
    let at = goal.at.returns-in-Some-2-clause-bad g c in
    let l = c.args.limits.now in
    let d = draft_of c.lines.draft in
    let d0 = draft_of c.args.draft.now in
    let first = c.args.feed.now in
    let f = c.find.new.self in
    let start = g.S.Shelf.told c.args.shelf.now in
    let told = g.S.Shelf.told c.find.new.shelf in
    let e = c.in_ok-found.ensures in
    let all = read_ahead g at.After-find e.lines e.ahead in
    let found = c.in-Some.found in
    let line : Option (List ℕ) = seen (take found.len f.pending) in
    let ahead_is = front g at.In-Some in
    let is = line_is g at.After-graph_line-line in
    let bad = line_is_bad g at.In-Some-2 is in
    let number : c.lines-in-Some-2.result ≡ f.lines = c.lines-in-Some-2.ensures.value in
    let h =
    read_bad l d (f.lines + 1) (draft_after l d0 (first.lines + 1)) (ahead start first)
    (ahead told f) all line (ahead told (answered found.whole f))
    (ahead_front told f found.len found.whole ahead_is) c.in-Some-2.cause bad in
    search (rules, h, number)

pub returns-in-Some-2-clause-early : goal.returns-in-Some-2-clause-early
returns-in-Some-2-clause-early g c =
    let at = goal.at.returns-in-Some-2-clause-early g c in
    let l = c.args.limits.now in
    let d = draft_of c.lines.draft in
    let d0 = draft_of c.args.draft.now in
    let first = c.args.feed.now in
    let f = c.find.new.self in
    let start = g.S.Shelf.told c.args.shelf.now in
    let told = g.S.Shelf.told c.find.new.shelf in
    let e = c.in_ok-found.ensures in
    let reads = read_since g at.After-find None e.reads in
    let there = below g at.After-find in
    let found = c.in-Some.found in
    let line : Option (List ℕ) = seen (take found.len f.pending) in
    let ahead_is = front g at.In-Some in
    let is = line_is g at.After-graph_line-line in
    let bad = line_is_bad g at.In-Some-2 is in
    λ limit.
    let here =
    limit_later start told first f there reads.slot reads.reads.later reads.reads.takes limit in
    let ended =
    ended_found l d (g.S.Shelf.told c.lines.shelf) told c.lines.feed f e.lines
    (e.ended MOST_BYTES e.reads.reads.most) ∙ c.lines.invariant.ended limit in
    let h =
    read_bad l d (f.lines + 1) (draft_after l d0 (first.lines + 1)) (ended_ahead start first)
    (ended_ahead told f) ended line (ended_ahead told (answered found.whole f))
    (ended_front_limit told f found.len found.whole here ahead_is) c.in-Some-2.cause bad in
    search (rules, h)

pub returns-in-Some-2-clause-front : goal.returns-in-Some-2-clause-front
returns-in-Some-2-clause-front g c =
    let at = goal.at.returns-in-Some-2-clause-front g c in
    let f = c.find.new.self in
    let told = g.S.Shelf.told c.find.new.shelf in
    let found = c.in-Some.found in
    let ahead_is = front g at.In-Some in
    let h = front_in_hand told f found.len found.whole ahead_is in
    search (rules, h)

pub lines-preserved : goal.lines-preserved
lines-preserved g c =
    let at = goal.at.lines-preserved g c in
    let l = c.args.limits.now in
    let d = draft_of c.lines.draft in
    let d0 = draft_of c.args.draft.now in
    let first = c.args.feed.now in
    let f = c.find.new.self in
    let start = g.S.Shelf.told c.args.shelf.now in
    let told = g.S.Shelf.told c.find.new.shelf in
    let e = c.in_ok-found.ensures in
    let reads = read_since g at.After-find None e.reads in
    let there = below g at.After-find in
    let found = c.in-Some.found in
    let line : Option (List ℕ) = seen (take found.len f.pending) in
    let ahead_is = front g at.In-Some in
    let is = line_is g at.After-graph_line-line in
    let all = read_ahead g at.After-find e.lines e.ahead in
    let good : cause l d (graph_line line) ≡ None =
    ap (cause l d) (sym is) ∙ sym c.in_ok-cause.ensures.cause ∙ c.in_default-2.is in
    let taken : draft_of c.take_line.new.self ≡ taken_in d (graph_line line) =
    subst (λ (o : Option LineCause). IfNone o
    (draft_of c.take_line.new.self ≡ taken_in d c.graph_line-line.result)) c.in_default-2.is
    c.in_ok-cause.ensures.taken ∙ ap (taken_in d) is in
    let grown : IsSound l d → IsSound l (draft_of c.take_line.new.self) =
    λ (h : IsSound l d). subst (IsSound l) (sym taken) (sound_line l d (graph_line line) good h) in
    let skipped = c.skip.ensures in
    let same_taken = ap (λ (x : Feed). x.taken) skipped in
    let counted = ap (λ (x : Feed). x.lines) skipped in
    let more = reads.no_fewer_lines in
    let later = e.reads.reads.later in
    record {
      so_far =
          subst (λ (k : ℕ). SoFar g.S.Shelf.told g.S.Shelf.opened g.S.Shelf.faults c.args.shelf.now
          c.find.new.shelf first.slot first.taken k) (sym same_taken)
          (so_far_on g.S.Shelf.told g.S.Shelf.opened g.S.Shelf.faults _ _ _ first.slot first.taken
          c.lines.feed.taken f.taken there c.lines.invariant.so_far _ c.lines.invariant.slot
          e.reads.reads);
      all =
          ap (λ (x : Feed). option_map (draft_after l (draft_of c.take_line.new.self) (x.lines + 1))
          (ahead told x)) skipped
          ∙ read_good l d (f.lines + 1) (draft_after l d0 (first.lines + 1)) _ _ all line _
          (ahead_front told f found.len found.whole ahead_is) good (draft_of c.take_line.new.self)
          taken;
      ended = λ limit.
          let here =
          limit_later start told first f there reads.slot reads.reads.later reads.reads.takes limit
          in
          let ended =
          ended_found l d (g.S.Shelf.told c.lines.shelf) told c.lines.feed f e.lines
          (e.ended MOST_BYTES e.reads.reads.most) ∙ c.lines.invariant.ended limit in
          ap (λ (x : Feed). option_map (draft_after l (draft_of c.take_line.new.self) (x.lines + 1))
          (ended_ahead told x)) skipped
          ∙ read_good l d (f.lines + 1) (draft_after l d0 (first.lines + 1)) _ _ ended line _
          (ended_front_limit told f found.len found.whole here ahead_is) good
          (draft_of c.take_line.new.self) taken;
      good = λ most few h. c.lines.invariant.good most (omega arith)
          (subst (λ (o : Option Lines). IfSome o
          (λ lines. IsOk (draft_after l d (c.lines.feed.lines + 1) lines)))
          (e.ended most (omega arith))
          (subst (λ (k : ℕ). IfSome (ended_within most told f)
          (λ lines. IsOk (draft_after l d (k + 1) lines))) e.lines
          (good_front l told f found.len found.whole ahead_is d (draft_of c.take_line.new.self)
          (f.lines + 1) most good taken
          (subst (λ (x : Feed). IfSome (ended_within most told x)
          (λ lines. IsOk (draft_after l (draft_of c.take_line.new.self) (x.lines + 1) lines)))
          skipped h))));
      no_lines = λ most few h. ap (ended_within most told) skipped
          ∙ none_behind told f found.len found.whole most ahead_is
          (no_line_ends g at.After-find None e.reads e.ended most (omega arith) h);
      bytes_left =
          λ n k count. behind_more start told first f c.skip.new.self (answered found.whole f) n k
          skipped (bytes_after_front told f found.len found.whole ahead_is (suc n))
          (λ j more_count. e.after (suc n)
          ∙ c.lines.invariant.bytes_left (suc n) j (let same = e.lines in omega arith))
          (omega arith) (omega arith);
      grows = λ h. grown (c.lines.invariant.grows h);
      lines = omega arith;
      slot = ap (λ (x : Feed). x.slot) skipped ∙ reads.slot;
    }
