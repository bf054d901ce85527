use Rattle.std.proofs.Common.{◌≡◌, length, map, take}
use Rattle.std.specs.List.{All}
use Rattle.std.specs.Prelude.{IfSome}
use Rattle.command_files.specs.Files.{content}
use Rattle.live_text.specs.Questions.{AreWithin, questions}
use Rattle.live_streams.proofs.FileLists.{AreReadTo}
use Rattle.live_streams.proofs.questions.read_question_files.Given as goal

abbrev pub invariant-loop-name : goal.invariant-loop-name
invariant-loop-name g l = record {
  says : IfSome (g.S.Shelf.told l.initial.shelf) (λ t. l.all
      ≡ map (λ n. questions l.lanes (content t n)) (take l.name-index (map (λ n. n.now) l.names)));
  within : All (AreWithin l.lanes) l.all;
  count : length l.all ≡ l.name-index;
  reads : AreReadTo (map (λ n. n.now) l.names) l.name-index (g.S.Shelf.told l.initial.shelf)
      (g.S.Shelf.told l.shelf) (g.S.Shelf.opened l.initial.shelf) (g.S.Shelf.opened l.shelf);
  calm : g.S.Shelf.faults l.shelf ≡ g.S.Shelf.faults l.initial.shelf;
}
