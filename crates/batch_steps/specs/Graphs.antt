-- The file of a graph.
use Rattle.std.specs.Prelude.{ℕ, Bool, List, is_ok}
use Rattle.bolt_base.specs.declared.limits.Limits.{Limits}
use Rattle.text_lines.specs.Lines.{seen_ended_lines}
use Rattle.graph_text.specs.GraphText.{draft_after, blank}
use Rattle.graph_text.specs.Refusals.{graph_far}
use Rattle.batch_steps.specs.Files.{Content, Named}

-- it is read to its end where no line that an LF ends is bad, and else to the end of the first that
-- is
abbrev pub graph_to_end : Limits → List ℕ → Bool
graph_to_end l text = is_ok (draft_after l blank 1 (seen_ended_lines text))

abbrev pub graph_file : Limits → List ℕ → Content → Named
graph_file l name c =
    record { name = name; far = graph_far l (c name); to_end = graph_to_end l (c name) }
