use Rattle.std.proofs.Common.{rules, ◌∙◌, sym, subst, Option}
use Rattle.std.specs.Prelude.{MatchOption, IfSome}
use Rattle.bolt_io.specs.declared.whole.TheConstants.{MOST_BYTES}
use Rattle.text_lines.specs.declared.line_feed.FrontLine.{FrontLine}
use Rattle.text_lines.specs.Feed.{IsAtEnd, IsFront, IsStuck}
use Rattle.bolt_io.proofs.TakenLemmas.{slot_told}
use Rattle.text_lines.proofs.FeedLemmas.{stuck_before, ahead_front, ended_front_before}
use Rattle.text_lines.proofs.FeedLemmas.{not_stuck_front, long_is_none}
use Rattle.text_lines.proofs.ReadingLemmas.{if_turns}
use Rattle.text_lines.proofs.line_feed.LineFeed.next.Goals as goal

pub returns-in_err-found-clause-stuck : goal.returns-in_err-found-clause-stuck
returns-in_err-found-clause-stuck g c =
    let e = c.in_err-found.ensures in
    let below =
    slot_told (g.S.Shelf.told c.args.shelf.now) (g.S.Shelf.opened c.args.shelf.now)
    c.args.self.now.slot (g.met.S.Shelf.tells_slots c.args.shelf.now) c.requires.slot in
    let h =
    if_turns c.find.new.self c.in_err-found.field-0.0
    (IfSome (g.S.Shelf.told c.args.shelf.now) (IsStuck c.args.self.now)) e.reads.stops
    (stuck_before _ _ c.args.self.now c.find.new.self below e.reads.slot e.reads.reads.later
    e.reads.reads.takes (e.ended MOST_BYTES e.reads.reads.most)) in
    search (rules, h)

pub returns-in_err-from_slice-in-Some-text-clause-long_at_hand
    : goal.returns-in_err-from_slice-in-Some-text-clause-long_at_hand
returns-in_err-from_slice-in-Some-text-clause-long_at_hand g c = λ rest more is.
    let front =
    subst (λ (o : Option FrontLine). MatchOption o
    (IsAtEnd (g.S.Shelf.told c.find.new.shelf) c.find.new.self)
    (λ f. IsFront (g.S.Shelf.told c.find.new.shelf) c.find.new.self f.len f.whole)) c.in-Some.is
    c.in_ok-found.ensures.line in
    absurd (long_is_none _ _ c.in-Some-text.text.now rest
    (sym (ahead_front _ c.find.new.self c.in-Some.found.len c.in-Some.found.whole front)
    ∙ c.in_ok-found.ensures.ahead ∙ is) c.in-Some-text.ensures)

pub returns-clause-line : goal.returns-clause-line
returns-clause-line g c =
    let front =
    subst (λ (o : Option FrontLine). MatchOption o
    (IsAtEnd (g.S.Shelf.told c.find.new.shelf) c.find.new.self)
    (λ f. IsFront (g.S.Shelf.told c.find.new.shelf) c.find.new.self f.len f.whole)) c.in-Some.is
    c.in_ok-found.ensures.line in
    let h =
    sym c.in_ok-found.ensures.ahead ∙ ahead_front _ c.find.new.self c.in-Some.found.len
    c.in-Some.found.whole front in
    search (rules, h)

pub returns-clause-ended_line : goal.returns-clause-ended_line
returns-clause-ended_line g c = λ limit.
    let ok = c.in_ok-found.ensures in
    let below =
    slot_told (g.S.Shelf.told c.args.shelf.now) (g.S.Shelf.opened c.args.shelf.now)
    c.args.self.now.slot (g.met.S.Shelf.tells_slots c.args.shelf.now) c.requires.slot in
    let front =
    subst (λ (o : Option FrontLine). MatchOption o
    (IsAtEnd (g.S.Shelf.told c.find.new.shelf) c.find.new.self)
    (λ f. IsFront (g.S.Shelf.told c.find.new.shelf) c.find.new.self f.len f.whole)) c.in-Some.is
    c.in_ok-found.ensures.line in
    let h =
    ended_front_before _ _ c.args.self.now c.find.new.self below ok.reads.slot ok.reads.reads.later
    ok.reads.reads.takes (ok.ended MOST_BYTES ok.reads.reads.most) limit c.in-Some.found.len
    c.in-Some.found.whole front in
    search (rules, h)

pub returns-clause-not_stuck : goal.returns-clause-not_stuck
returns-clause-not_stuck g c =
    let ok = c.in_ok-found.ensures in
    let below =
    slot_told (g.S.Shelf.told c.args.shelf.now) (g.S.Shelf.opened c.args.shelf.now)
    c.args.self.now.slot (g.met.S.Shelf.tells_slots c.args.shelf.now) c.requires.slot in
    let front =
    subst (λ (o : Option FrontLine). MatchOption o
    (IsAtEnd (g.S.Shelf.told c.find.new.shelf) c.find.new.self)
    (λ f. IsFront (g.S.Shelf.told c.find.new.shelf) c.find.new.self f.len f.whole)) c.in-Some.is
    c.in_ok-found.ensures.line in
    not_stuck_front _ _ c.args.self.now c.find.new.self below ok.reads.slot ok.reads.reads.later
    ok.reads.reads.takes (ok.ended MOST_BYTES ok.reads.reads.most) c.in-Some.found.len
    c.in-Some.found.whole front
