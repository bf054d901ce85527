use Rattle.std.proofs.Common.{rules, ◌≡◌, ◌≢◌, ◌<◌, ◌≤◌, ◌∙◌, ap, sym, subst, arith, refl, [], ℕ}
use Rattle.std.proofs.Common.{suc, ◌-◌, ◌++◌, take, length, inl, inr, Option, Some, None}
use Rattle.std.specs.Prelude.{MatchOption, IfSome}
use Rattle.bolt_io.specs.declared.whole.TheConstants.{MOST_BYTES}
use Rattle.bolt_io.specs.Told.{Told, left}
use Rattle.bolt_io.proofs.TakenLemmas.{slot_told}
use Rattle.text_lines.specs.declared.line_feed.FrontLine.{FrontLine}
use Rattle.std.proofs.lemmas.List.Elements.{All-take}
use Rattle.std.specs.Prelude.{false}
use Rattle.lexical.specs.Bytes.{is_line_feed}
use Rattle.text_lines.specs.Feed.{Feed, ahead, bytes_after, ended_within, NeedsMore, IsFront}
use Rattle.text_lines.specs.Feed.{IsLastLine, IsAtEnd}
use Rattle.text_lines.specs.Reading.{FeedReads}
use Rattle.text_lines.proofs.FeedLemmas.{ahead_read, ended_read, after_read, ahead_kept, ended_kept}
use Rattle.text_lines.proofs.FeedLemmas.{after_kept, below_later, last_found, still_ended}
use Rattle.text_lines.proofs.ReadingLemmas.{so_far_none, so_far_on, reads_on, stops_early}
use Rattle.text_lines.proofs.line_feed.LineFeed.find.Given.{Over}
use Rattle.text_lines.proofs.line_feed.LineFeed.find.Goals as goal
use Rattle.text_lines.proofs.line_feed.LineFeed.find.Goals.{In_ok-n}

pub reads-init : goal.reads-init
reads-init g c = record {
  so_far = so_far_none _ _ _ _ _ _;
  ahead = refl;
  ended = λ most few. refl;
  after = λ n. refl;
  slot = refl;
  lines = refl;
  at_hand = λ _. refl;
  unread = λ _. refl;
  due = λ _. refl;
}

pub returns-in-Some-clause-line : goal.returns-in-Some-clause-line
returns-in-Some-clause-line g c = inl c.in-Some.ensures.line

pub returns-in_err-n-clause-ahead : goal.returns-in_err-n-clause-ahead
returns-in_err-n-clause-ahead g c =
    let e = c.in_err-n.ensures in
    ahead_kept _ _ c.reads.self c.read_more.new.self c.in_default.ensures.line e.untouched e.kept
    ∙ c.reads.invariant.ahead

pub returns-in_err-n-clause-ended : goal.returns-in_err-n-clause-ended
returns-in_err-n-clause-ended g c = λ most few.
    let e = c.in_err-n.ensures in
    let same : c.read_more.new.self.taken ≡ c.reads.self.taken =
    ap (λ (f : Feed). f.taken) e.kept in
    ended_kept _ _ c.reads.self c.read_more.new.self c.in_default.ensures.line e.untouched e.kept
    most ∙ c.reads.invariant.ended most (omega arith)

pub returns-in_err-n-clause-after : goal.returns-in_err-n-clause-after
returns-in_err-n-clause-after g c =
    λ n. let e = c.in_err-n.ensures in after_kept _ _ c.reads.self c.read_more.new.self
    c.in_default.ensures.line e.untouched e.kept n ∙ c.reads.invariant.after n

pub returns-in_err-n-clause-reads : goal.returns-in_err-n-clause-reads
returns-in_err-n-clause-reads g c =
    let start =
    slot_told (g.S.Shelf.told c.args.shelf.now) (g.S.Shelf.opened c.args.shelf.now)
    c.args.self.now.slot (g.met.S.Shelf.tells_slots c.args.shelf.now) c.requires.slot in
    let e = c.in_err-n.ensures in
    let not_all : c.reads.self.taken ≢ MOST_BYTES =
    λ all. c.if-self-eq-MOST_BYTES.false (ap (λ (f : Feed). f.taken) c.self.view_is ∙ all) in
    let same : c.read_more.new.self.taken ≡ c.reads.self.taken =
    ap (λ (f : Feed). f.taken) e.kept in
    let none : NeedsMore c.read_more.new.self =
    subst NeedsMore (sym e.kept) (All-take (λ b. is_line_feed b ≡ false) 257 c.reads.self.pending
    c.in_default.ensures.line) in
    let few : c.read_more.new.self.taken < MOST_BYTES =
    omega (arith, c.ended_line.ensures.most, not_all) in
    let lines : c.read_more.new.self.lines ≡ c.args.self.now.lines =
    e.lines ∙ c.reads.invariant.lines in
    let h : FeedReads g.S.Shelf.told g.S.Shelf.opened g.S.Shelf.faults c.args.shelf.now
    c.read_more.new.shelf c.args.self.now c.read_more.new.self
    (Some c.in_err-n.field-0.0) = record {
      reads =
          reads_on g.S.Shelf.told g.S.Shelf.opened g.S.Shelf.faults _ _ _ _ _ _ _ _ start
          c.reads.invariant.so_far _ c.reads.invariant.slot e.reads;
      slot = e.slot ∙ c.reads.invariant.slot;
      no_fewer_lines = omega arith;
      counted = e.counted;
      held = e.held;
      stops = stops_early c.read_more.new.self c.in_err-n.field-0.0 e.no_turns few none;
    } in
    search (rules, h)

-- bytes were taken, and no line ended in those before
module _ (g : Over) (c : In_ok-n g) where
  start : IfSome (g.S.Shelf.told c.args.shelf.now) (λ t. c.args.self.now.slot < length t.slots)
  start =
      slot_told (g.S.Shelf.told c.args.shelf.now) (g.S.Shelf.opened c.args.shelf.now)
      c.args.self.now.slot (g.met.S.Shelf.tells_slots c.args.shelf.now) c.requires.slot

  below : IfSome (g.S.Shelf.told c.reads.shelf) (λ t. c.reads.self.slot < length t.slots)
  below =
      subst (λ (s : ℕ). IfSome (g.S.Shelf.told c.reads.shelf) (λ t. s < length t.slots))
      (sym c.reads.invariant.slot) (below_later _ _ _ _ c.reads.invariant.so_far.takes start)

  bytes : IfSome (g.S.Shelf.told c.reads.shelf)
      (λ t. c.read_more.new.self.pending ≡ take 257 c.reads.self.pending ++ take
      (c.read_more.new.self.taken - c.reads.self.taken) (left t c.reads.self.slot))
  bytes =
      let count : c.in_ok-n.n ≡ c.read_more.new.self.taken - c.reads.self.taken =
      (let taken = c.in_ok-n.ensures.taken in omega arith) in
      subst (λ (k : ℕ). IfSome (g.S.Shelf.told c.reads.shelf)
      (λ t. c.read_more.new.self.pending
      ≡ take 257 c.reads.self.pending ++ take k (left t c.reads.self.slot))) count
      c.in_ok-n.ensures.bytes

  -- what is ahead stays
  same_ahead : ahead (g.S.Shelf.told c.read_more.new.shelf) c.read_more.new.self
      ≡ ahead (g.S.Shelf.told c.args.shelf.now) c.args.self.now
  same_ahead =
      let ok = c.in_ok-n.ensures in
      ahead_read _ _ c.reads.self c.read_more.new.self c.in_default.ensures.line ok.slot
      ok.reads.later ok.reads.takes below bytes ok.reads.most ∙ c.reads.invariant.ahead

  same_ended : (most : ℕ) → c.read_more.new.self.taken ≤ most
      → ended_within most (g.S.Shelf.told c.read_more.new.shelf) c.read_more.new.self
      ≡ ended_within most (g.S.Shelf.told c.args.shelf.now) c.args.self.now
  same_ended most few =
      let ok = c.in_ok-n.ensures in
      let later = ok.reads.later in
      ended_read _ _ c.reads.self c.read_more.new.self c.in_default.ensures.line ok.slot
      ok.reads.later ok.reads.takes below bytes most few
      ∙ c.reads.invariant.ended most (omega arith)

  same_after : (n : ℕ) → bytes_after (suc n) (g.S.Shelf.told c.read_more.new.shelf)
      c.read_more.new.self
      ≡ bytes_after (suc n) (g.S.Shelf.told c.args.shelf.now) c.args.self.now
  same_after n =
      let ok = c.in_ok-n.ensures in
      after_read _ _ c.reads.self c.read_more.new.self c.in_default.ensures.line ok.slot
      ok.reads.later ok.reads.takes below bytes ok.reads.most n ∙ c.reads.invariant.after n

pub returns-then-n-eq0-clause-ahead : goal.returns-then-n-eq0-clause-ahead
returns-then-n-eq0-clause-ahead g c =
    same_ahead g (goal.at.returns-then-n-eq0-clause-ahead g c).In_ok-n

pub returns-then-n-eq0-clause-ended : goal.returns-then-n-eq0-clause-ended
returns-then-n-eq0-clause-ended g c =
    same_ended g (goal.at.returns-then-n-eq0-clause-ended g c).In_ok-n

pub returns-then-n-eq0-clause-after : goal.returns-then-n-eq0-clause-after
returns-then-n-eq0-clause-after g c =
    same_after g (goal.at.returns-then-n-eq0-clause-after g c).In_ok-n

pub returns-then-n-eq0-clause-reads : goal.returns-then-n-eq0-clause-reads
returns-then-n-eq0-clause-reads g c =
    let there = start g (goal.at.returns-then-n-eq0-clause-reads g c).In_ok-n in
    let ok = c.in_ok-n.ensures in
    let lines : c.read_more.new.self.lines ≡ c.args.self.now.lines =
    ok.lines ∙ c.reads.invariant.lines in
    record {
      reads =
          reads_on g.S.Shelf.told g.S.Shelf.opened g.S.Shelf.faults _ _ _ _ _ _ _ _ there
          c.reads.invariant.so_far _ c.reads.invariant.slot ok.reads;
      slot = ok.slot ∙ c.reads.invariant.slot;
      no_fewer_lines = omega arith;
      counted = ok.counted;
      held = ok.held;
      stops = tt;
    }

pub returns-then-n-eq0-clause-line : goal.returns-then-n-eq0-clause-line
returns-then-n-eq0-clause-line g c =
    let there = below g (goal.at.returns-then-n-eq0-clause-line g c).In_ok-n in
    let ok = c.in_ok-n.ensures in
    let not_all : c.reads.self.taken ≢ MOST_BYTES =
    λ all. c.if-self-eq-MOST_BYTES.false (ap (λ (f : Feed). f.taken) c.self.view_is ∙ all) in
    let few : c.reads.self.taken < MOST_BYTES = omega (arith, c.ended_line.ensures.most, not_all) in
    let zero = c.if-n-eq0.true in
    let same : c.read_more.new.self.taken ≡ c.reads.self.taken =
    (let taken = ok.taken in omega arith) in
    let pending = ok.none zero in
    let end = ok.at_end zero in
    each c.last_line.result c.last_line.ensures
    (still_ended _ _ c.reads.self.slot c.read_more.new.self.slot _ ok.slot ok.reads.takes there end)
    (λ len whole some bare all. last_found _ _ c.reads.self c.read_more.new.self len whole
    c.in_default.ensures.line ok.slot same few ok.reads.takes there pending end some bare all)
  where
    each : {told : Option Told} {f : Feed} (r : Option FrontLine)
        → MatchOption r (f.pending ≡ [])
        (λ x. (0 < x.whole) × (x.len ≡ x.whole) × (x.whole ≡ length f.pending))
        → IfSome told (λ t. left t f.slot ≡ [])
        → ((len whole : ℕ) → 0 < whole → len ≡ whole → whole ≡ length f.pending
        → IsLastLine told f len whole)
        → MatchOption r (IsAtEnd told f) (λ x. IsFront told f x.len x.whole)
    each None h end last = (h, end)
    each (Some x) h end last = inr (last x.len x.whole h.0 h.1 h.2)

pub reads-preserved : goal.reads-preserved
reads-preserved g c =
    let at = (goal.at.reads-preserved g c).In_ok-n in
    let ok = c.in_ok-n.ensures in
    record {
      so_far =
          so_far_on g.S.Shelf.told g.S.Shelf.opened g.S.Shelf.faults _ _ _ _ _ _ _ (start g at)
          c.reads.invariant.so_far _ c.reads.invariant.slot ok.reads;
      ahead = same_ahead g at;
      ended = same_ended g at;
      after = same_after g at;
      slot = ok.slot ∙ c.reads.invariant.slot;
      lines = ok.lines ∙ c.reads.invariant.lines;
      at_hand =
          λ h. absurd (h (subst NeedsMore (c.reads.invariant.at_hand h) c.in_default.ensures.line));
      unread =
          λ h. absurd (h (subst NeedsMore (c.reads.invariant.at_hand h) c.in_default.ensures.line));
      due =
          λ h. absurd (c.if-self-eq-MOST_BYTES.false
          (ap (λ (f : Feed). f.taken) c.self.view_is
          ∙ ap (λ (f : Feed). f.taken) (c.reads.invariant.due h) ∙ h.all));
    }
