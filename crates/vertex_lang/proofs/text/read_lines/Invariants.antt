use Rattle.std.proofs.Common.{◌≡◌, ◌≤◌, ◌-◌, length, drop}
use Rattle.lexical.specs.Lines.{lines_from}
use Rattle.vertex_lang.specs.Entries.{IsSmall}
use Rattle.vertex_lang.specs.Drafts.{lines_read, blank}
use Rattle.vertex_lang.proofs.text.read_lines.Given as goal

abbrev pub invariant-lines : goal.invariant-lines
invariant-lines l = record {
  within : l.at ≤ length l.text;
  small : IsSmall l.draft.entries;
  rest : lines_read l.draft l.text (lines_from 0 l.at (drop l.at l.text))
      ≡ lines_read blank l.text (lines_from 0 0 l.text);
}

abbrev pub decreases-lines : goal.decreases-lines
decreases-lines l = length l.text - l.at
