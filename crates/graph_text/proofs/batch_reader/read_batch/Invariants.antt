use Rattle.std.proofs.Common.{◌≡◌, ℕ, ◌+◌, ◌-◌, ◌≤◌, None}
use Rattle.bolt_io.specs.declared.whole.TheConstants.{MOST_BYTES}
use Rattle.text_lines.specs.Feed.{ahead}
use Rattle.text_lines.specs.Reading.{IsSpent}
use Rattle.text_lines.proofs.ReadingLemmas.{SoFar}
use Rattle.graph_text.specs.StreamText.{unfinished}
use Rattle.graph_text.specs.OpenCode.{IsPaired}
use Rattle.graph_text.specs.BatchCode.{batches_ahead}
use Rattle.graph_text.proofs.BatchLemmas.{open_on, EndsAhead}
use Rattle.graph_text.proofs.batch_reader.read_batch.Given as goal

abbrev pub invariant-lines : goal.invariant-lines
invariant-lines g l = record {
  so_far : SoFar g.S.Shelf.told g.S.Shelf.opened g.S.Shelf.faults l.initial.shelf l.shelf
      l.initial.feed.slot l.initial.feed.taken l.feed.taken;
  read : open_on unfinished l.open (l.feed.lines + 1) (ahead (g.S.Shelf.told l.shelf) l.feed)
      ≡ batches_ahead (g.S.Shelf.told l.initial.shelf) l.initial.feed;
  ended : (most : ℕ) → l.feed.taken ≤ most
      → EndsAhead (g.S.Shelf.told l.initial.shelf) (g.S.Shelf.told l.shelf) l.initial.feed l.feed
      l.open most;
  paired : IsPaired l.open;
  begun : l.feed.lines ≡ l.initial.feed.lines → l.open.first_line ≡ None;
  lines : l.initial.feed.lines ≤ l.feed.lines;
  slot : l.feed.slot ≡ l.initial.feed.slot;
  due : IsSpent l.initial.feed → l.feed ≡ l.initial.feed;
}

abbrev pub decreases-lines : goal.decreases-lines
decreases-lines g l = MOST_BYTES + 1 - l.feed.lines
