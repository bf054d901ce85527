use Rattle.std.proofs.Common.{◌≡◌, ℕ, suc, ◌-◌, ◌≤◌}
use Rattle.bolt_io.specs.declared.whole.TheConstants.{MOST_BYTES}
use Rattle.text_lines.specs.Feed.{ahead, ended_within, bytes_after, NeedsMore}
use Rattle.text_lines.specs.Reading.{IsSpent}
use Rattle.text_lines.proofs.ReadingLemmas.{SoFar}
use Rattle.text_lines.proofs.line_feed.LineFeed.find.Given as goal

abbrev pub invariant-reads : goal.invariant-reads
invariant-reads g l = record {
  so_far : SoFar g.S.Shelf.told g.S.Shelf.opened g.S.Shelf.faults l.initial.shelf l.shelf
      l.initial.self.slot l.initial.self.taken l.self.taken;
  ahead : ahead (g.S.Shelf.told l.shelf) l.self
      ≡ ahead (g.S.Shelf.told l.initial.shelf) l.initial.self;
  ended : (most : ℕ) → l.self.taken ≤ most
      → ended_within most (g.S.Shelf.told l.shelf) l.self
      ≡ ended_within most (g.S.Shelf.told l.initial.shelf) l.initial.self;
  after : (n : ℕ) → bytes_after (suc n) (g.S.Shelf.told l.shelf) l.self
      ≡ bytes_after (suc n) (g.S.Shelf.told l.initial.shelf) l.initial.self;
  slot : l.self.slot ≡ l.initial.self.slot;
  lines : l.self.lines ≡ l.initial.self.lines;
  at_hand : ¬ NeedsMore l.initial.self → l.self ≡ l.initial.self;
  unread : ¬ NeedsMore l.initial.self → l.shelf ≡ l.initial.shelf;
  due : IsSpent l.initial.self → l.self ≡ l.initial.self;
}

abbrev pub decreases-reads : goal.decreases-reads
decreases-reads g l = MOST_BYTES - l.self.taken
