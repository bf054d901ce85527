-- The batches that a `commit` ends.
use Rattle.std.specs.Prelude.{ℕ, List}
use Rattle.text_lines.specs.Lines.{seen_ended_lines}
use Rattle.graph_text.specs.declared.batch_text.BatchText.{BatchText}
use Rattle.graph_text.specs.StreamText.{ended_batches_of}

-- those of some bytes, of which only the lines count that an LF ends
abbrev pub ended_batches : List ℕ → List BatchText
ended_batches bytes = ended_batches_of 1 (seen_ended_lines bytes)
