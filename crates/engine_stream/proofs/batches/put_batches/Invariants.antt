use Rattle.bolt_io.specs.declared.whole.TheConstants.{MOST_BYTES}
use Rattle.std.proofs.Common.{◌≡◌, ◌+◌, ◌-◌, ◌≤◌, ◌^◌}
use Rattle.text_lines.specs.Feed.{Advances}
use Rattle.batch_run.specs.Ahead.{reply_ahead, WroteUpTo, texts_within, KeptUp}
use Rattle.engine_stream.specs.Taken.{taken}
use Rattle.report_text.specs.Runs.{run_steps}
use Rattle.engine_stream.proofs.batches.put_batches.Given as goal

abbrev pub invariant-batches : goal.invariant-batches
invariant-batches g l = record {
  so_far : WroteUpTo (reply_ahead run_steps l.initial.run
      (g.S.Shelf.told l.initial.shelf) l.initial.reader.feed)
      (reply_ahead run_steps l.run (g.S.Shelf.told l.shelf)
      l.reader.feed) (g.K.Sink.written l.initial.out) (g.K.Sink.written l.out);
  kept_up : KeptUp (texts_within run_steps l.initial.run
      (g.S.Shelf.told l.initial.shelf) l.initial.reader.feed)
      (texts_within run_steps l.run (g.S.Shelf.told l.shelf)
      l.reader.feed) l.reader.feed.taken (g.K.Sink.written l.initial.out) (g.K.Sink.written l.out);
  numbered : taken l.run ≡ l.reader.batches;
  most : l.reader.batches ≤ MOST_BYTES;
  slot : l.reader.feed.slot ≡ l.initial.reader.feed.slot;
  advances : Advances (g.S.Shelf.told l.initial.shelf) (g.S.Shelf.told l.shelf)
      l.initial.reader.feed.slot (l.reader.feed.taken - l.initial.reader.feed.taken);
  later : l.initial.reader.feed.taken ≤ l.reader.feed.taken;
  opened : g.S.Shelf.opened l.shelf ≡ g.S.Shelf.opened l.initial.shelf;
  shelf_calm : g.S.Shelf.faults l.shelf ≡ g.S.Shelf.faults l.initial.shelf;
  sink_calm : g.K.Sink.faults l.out ≡ g.K.Sink.faults l.initial.out;
}

abbrev pub decreases-batches : goal.decreases-batches
decreases-batches g l = MOST_BYTES - l.reader.batches
