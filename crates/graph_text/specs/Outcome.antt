-- What becomes of a batch.
use Rattle.std.specs.Prelude.{ℕ, List, Option, Some, None, slice_index}
use Rattle.bolt_base.specs.declared.limits.Limits.{Limits}
use Rattle.bolt_base.specs.declared.limits.LineCause.{LineCause}
use Rattle.bolt_base.specs.Graph.{Graph}
use Rattle.bolt_base.specs.Edits.{bad}
use Rattle.graph_text.specs.declared.bad_line.BadLine.{BadLine}
use Rattle.graph_text.specs.declared.batch_text.BatchText.{BatchText}

-- the line of the first bad edit, or else the batch's own bad line
abbrev pub first_refused : Option (ℕ × LineCause) → List ℕ → Option BadLine → Option BadLine
first_refused None lines own = own
first_refused (Some (k, why)) lines own = Some (record { line = slice_index lines k; cause = why })

-- the line and the cause for which a batch is refused, or none where it is accepted
abbrev pub outcome : Limits → Graph → BatchText → Option BadLine
outcome l g batch = first_refused (bad l g batch.edits) batch.lines batch.bad
