-- How a batch whose `commit` wasn't read yet is kept, line by line.
use Rattle.std.specs.Prelude.{◌≡◌, ℕ, ◌≤◌, is_some, nat_lt, if◌then◌else◌, [], ◌∷◌, ◌++◌}
use Rattle.std.specs.Prelude.{length, Some, None, unwrap_or}
use Rattle.bolt_base.specs.declared.edge.Edit.{Edit}
use Rattle.bolt_base.specs.declared.limits.LineCause.TheVariants.{Syntax, Size}
use Rattle.graph_text.specs.declared.batch_reader.TheConstants.{MOST_EDITS}
use Rattle.graph_text.specs.declared.batch_text.BatchText.{BatchText}
use Rattle.graph_text.specs.declared.batch_text.OpenBatch.{OpenBatch}
use Rattle.graph_text.specs.declared.stream_lines.StreamLine.{StreamLine}
use Rattle.graph_text.specs.declared.stream_lines.StreamLine.TheVariants.{Empty, Edit as EditLine}
use Rattle.graph_text.specs.declared.stream_lines.StreamLine.TheVariants.{Commit, Unknown}
use Rattle.graph_text.specs.StreamText.{bad_at}

-- each edit has its line, and they aren't too many
pub record IsPaired (b : OpenBatch) : Type 0 where
  pub lines : length b.lines ≡ length b.edits
  pub few : length b.edits ≤ MOST_EDITS

-- a batch of which no line was read
abbrev pub unopened : OpenBatch
unopened = record { first_line = None; edits = []; lines = []; bad = None }

abbrev pub begun_at : OpenBatch → ℕ → OpenBatch
begun_at b number = record b { first_line = Some (unwrap_or b.first_line number) }

-- one edit more, where there is room
abbrev pub with_room : OpenBatch → ℕ → Edit → OpenBatch
with_room b number e =
    if nat_lt (length b.edits) MOST_EDITS then record b
    { edits = b.edits ++ e ∷ []; lines = b.lines ++ number ∷ [] }
    else record b { bad = bad_at number Size }

-- behind a bad line nothing more is taken in
unfoldable pub with_edit : OpenBatch → ℕ → Edit → OpenBatch
with_edit b number e = if is_some b.bad then b else with_room (begun_at b number) number e

unfoldable pub with_unknown : OpenBatch → ℕ → OpenBatch
with_unknown b number =
    if is_some b.bad then b else record (begun_at b number) { bad = bad_at number Syntax }

-- a line more that ends no batch
unfoldable pub with_line : OpenBatch → ℕ → StreamLine → OpenBatch
with_line b number Empty = b
with_line b number (EditLine e) = with_edit b number e
with_line b number Commit = b
with_line b number Unknown = with_unknown b number

-- the batch that a `commit` ends
unfoldable pub committed : OpenBatch → ℕ → BatchText
committed b number =
    record {
      first_line = unwrap_or b.first_line number;
      edits = b.edits;
      lines = b.lines;
      bad = b.bad;
    }
