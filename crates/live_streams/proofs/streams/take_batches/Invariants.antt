use Rattle.bolt_io.specs.declared.whole.TheConstants.{MOST_BYTES}
use Rattle.std.proofs.Common.{◌≡◌, ◌-◌, ◌≤◌}
use Rattle.std.specs.List.{All}
use Rattle.text_lines.specs.Feed.{Advances}
use Rattle.graph_text.specs.BatchCode.{batches_ahead}
use Rattle.live_course.specs.Made.{IsSound}
use Rattle.live_streams.proofs.BatchesAhead.{batches_with}
use Rattle.live_streams.proofs.streams.take_batches.Given as goal

abbrev pub invariant-batches : goal.invariant-batches
invariant-batches g l = record {
  so_far : batches_with l.batches (batches_ahead (g.S.Shelf.told l.shelf) l.reader.feed)
      ≡ batches_with l.initial.batches
      (batches_ahead (g.S.Shelf.told l.initial.shelf) l.initial.reader.feed);
  sound : All IsSound l.initial.batches → All IsSound l.batches;
  most : l.reader.batches ≤ MOST_BYTES;
  slot : l.reader.feed.slot ≡ l.initial.reader.feed.slot;
  advances : Advances (g.S.Shelf.told l.initial.shelf) (g.S.Shelf.told l.shelf)
      l.initial.reader.feed.slot (l.reader.feed.taken - l.initial.reader.feed.taken);
  later : l.initial.reader.feed.taken ≤ l.reader.feed.taken;
  opened : g.S.Shelf.opened l.shelf ≡ g.S.Shelf.opened l.initial.shelf;
  calm : g.S.Shelf.faults l.shelf ≡ g.S.Shelf.faults l.initial.shelf;
}

abbrev pub decreases-batches : goal.decreases-batches
decreases-batches g l = MOST_BYTES - l.reader.batches
