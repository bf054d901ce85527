use Rattle.std.proofs.Common.{◌≡◌, length, map, take}
use Rattle.std.specs.Prelude.{IfSome}
use Rattle.graph_text.specs.StreamText.{batches}
use Rattle.command_files.specs.Files.{content}
use Rattle.live_course.specs.Made.{AreSound}
use Rattle.live_streams.proofs.FileLists.{AreReadTo}
use Rattle.live_streams.proofs.streams.read_stream_files.Given as goal

abbrev pub invariant-loop-name : goal.invariant-loop-name
invariant-loop-name g l = record {
  says : IfSome (g.S.Shelf.told l.initial.shelf) (λ t. l.all
      ≡ map (λ n. batches (content t n)) (take l.name-index (map (λ n. n.now) l.names)));
  sound : AreSound l.all;
  count : length l.all ≡ l.name-index;
  reads : AreReadTo (map (λ n. n.now) l.names) l.name-index (g.S.Shelf.told l.initial.shelf)
      (g.S.Shelf.told l.shelf) (g.S.Shelf.opened l.initial.shelf) (g.S.Shelf.opened l.shelf);
  calm : g.S.Shelf.faults l.shelf ≡ g.S.Shelf.faults l.initial.shelf;
}
