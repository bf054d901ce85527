use Rattle.std.proofs.Common.{◌≡◌, ◌+◌, ◌-◌, ◌≤◌}
use Rattle.bolt_io.specs.declared.whole.TheConstants.{MOST_BYTES}
use Rattle.text_lines.specs.Feed.{ahead}
use Rattle.text_lines.proofs.ReadingLemmas.{SoFar}
use Rattle.live_text.specs.Questions.{AreWithin}
use Rattle.live_text.proofs.QuestionLemmas.{questions_with}
use Rattle.live_text.proofs.reader.take_lines.Given as goal

abbrev pub invariant-lines : goal.invariant-lines
invariant-lines g l = record {
  so_far : SoFar g.S.Shelf.told g.S.Shelf.opened g.S.Shelf.faults l.initial.shelf l.shelf
      l.initial.feed.slot l.initial.feed.taken l.feed.taken;
  read : questions_with l.lanes l.questions (ahead (g.S.Shelf.told l.shelf) l.feed)
      ≡ questions_with l.lanes l.initial.questions
      (ahead (g.S.Shelf.told l.initial.shelf) l.initial.feed);
  within : AreWithin l.lanes l.initial.questions → AreWithin l.lanes l.questions;
  lines : l.initial.feed.lines ≤ l.feed.lines;
  slot : l.feed.slot ≡ l.initial.feed.slot;
}

abbrev pub decreases-lines : goal.decreases-lines
decreases-lines g l = MOST_BYTES + 1 - l.feed.lines
