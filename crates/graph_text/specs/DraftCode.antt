-- How a draft of a graph is kept.
use Rattle.std.specs.Prelude.{ℕ, ℤ, ◌+◌, max, true, Option, List, None, slice_index_or}
use Rattle.graph_text.specs.GraphText.{Draft}
use Rattle.graph_text.specs.declared.graph_draft.GraphDraft.{GraphDraft}

abbrev pub attr_at : List (Option ℤ) → ℕ → Option ℤ
attr_at attrs v = slice_index_or attrs v None

-- what is said by the lines that were taken in
abbrev pub draft_of : GraphDraft → Draft
draft_of c = record {
  begun = c.begun;
  counted = c.counted;
  named = c.named;
  attr = λ v. attr_at c.attrs.items v;
  weights = c.edges;
}

-- a draft after a line that names vertices up to this one
abbrev pub named_in : GraphDraft → ℕ → GraphDraft
named_in c v =
    record {
      begun = true;
      counted = c.counted;
      named = max c.named (v + 1);
      attrs = c.attrs;
      edges = c.edges;
    }
