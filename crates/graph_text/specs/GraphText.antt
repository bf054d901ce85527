-- The graph of a text, or its first bad line.
use Rattle.std.specs.Prelude.{ℕ, ℤ, pos, ◌+◌, ◌==◌, max, Bool, true, false, not, nat_lt, nat_le}
use Rattle.std.specs.Prelude.{is_none, if◌then◌else◌, List, [], ◌∷◌, map, Option, Some, None}
use Rattle.std.specs.Prelude.{Result, Ok, Err, IsOk, unwrap_or, codes}
use Rattle.std.specs.List.{range_with_len}
use Rattle.std.specs.Str.{bytes_eq}
use Rattle.std.specs.FinMap as finite
use Rattle.bolt_base.specs.declared.edge.Edit.TheVariants.{Add}
use Rattle.bolt_base.specs.declared.limits.Limits.{Limits}
use Rattle.bolt_base.specs.declared.limits.LineCause.{LineCause}
use Rattle.bolt_base.specs.declared.limits.LineCause.TheVariants.{Syntax, Vertex, Attribute}
use Rattle.bolt_base.specs.declared.limits.LineCause.TheVariants.{Present}
use Rattle.bolt_base.specs.Graph.{Graph, Weights}
use Rattle.bolt_base.specs.Edits.{unless, is_between, one}
use Rattle.text_lines.specs.Lines.{seen_lines, seen_ended_lines}
use Rattle.lexical.specs.Words.{words}
use Rattle.text_lines.specs.Numbers.{vertex_word, whole_word}
use Rattle.graph_text.specs.declared.graph_lines.GraphLine.{GraphLine}
use Rattle.graph_text.specs.declared.graph_lines.GraphLine.TheVariants.{Empty, Vertices, Attr}
use Rattle.graph_text.specs.declared.graph_lines.GraphLine.TheVariants.{Edge as EdgeLine, Unknown}
use Rattle.graph_text.specs.declared.bad_line.BadLine.{BadLine}

-- the forms of a line: `vertices N`, `attr U A`, and `U V` or `U V W`, whose weight is 1 where it
-- is left out
abbrev pub vertices_line : Option ℕ → GraphLine
vertices_line None = Unknown
vertices_line (Some n) = Vertices n

abbrev pub attr_line : Option ℕ → Option ℤ → GraphLine
attr_line None a = Unknown
attr_line (Some u) None = Unknown
attr_line (Some u) (Some a) = Attr u a

abbrev pub edge_line : Option ℕ → Option ℕ → Option ℤ → GraphLine
edge_line None v w = Unknown
edge_line (Some u) None w = Unknown
edge_line (Some u) (Some v) None = Unknown
edge_line (Some u) (Some v) (Some w) = EdgeLine (record { src = u; dst = v; weight = w })

unfoldable pub two_words : List ℕ → List ℕ → GraphLine
two_words first second =
    if bytes_eq first (codes "vertices") then vertices_line (vertex_word second) else edge_line
    (vertex_word first) (vertex_word second) (Some (pos 1))

unfoldable pub three_words : List ℕ → List ℕ → List ℕ → GraphLine
three_words first second third =
    if bytes_eq first (codes "attr") then attr_line (vertex_word second) (whole_word third) else
    edge_line (vertex_word first) (vertex_word second) (whole_word third)

abbrev pub form_of : List (List ℕ) → GraphLine
form_of [] = Empty
form_of (a ∷ []) = Unknown
form_of (a ∷ b ∷ []) = two_words a b
form_of (a ∷ b ∷ c ∷ []) = three_words a b c
form_of (a ∷ b ∷ c ∷ d ∷ ws) = Unknown

-- what a line says; a long line has none of the forms
abbrev pub graph_line : Option (List ℕ) → GraphLine
graph_line None = Unknown
graph_line (Some line) = form_of (words line)

-- what the lines so far say
pub record Draft : Type 0 where
  -- whether one of them isn't empty
  pub begun : Bool
  -- the number of vertices, where it is told
  pub counted : Option ℕ
  -- 1 more than the greatest vertex that is named, 0 where none is
  pub named : ℕ
  -- the attribute of each vertex that has one
  pub attr : ℕ → Option ℤ
  -- the weight of each edge
  pub weights : Weights

abbrev pub blank : Draft
blank =
    record { begun = false; counted = None; named = 0; attr = λ v. None; weights = finite.empty }

-- the number that each vertex has to be below
abbrev pub bound : Limits → Draft → ℕ
bound l d = unwrap_or d.counted l.vertices

-- the graph of that many vertices; an attribute that isn't given is 0
abbrev pub drafted : Draft → ℕ → Graph
drafted d n =
    record {
      attrs = map (λ v. unwrap_or (d.attr v) (pos 0)) (range_with_len 0 n);
      weights = d.weights;
    }

-- The first cause for which a line is bad, or none. An edge is bad where its addition to the graph
-- so far is
unfoldable pub cause : Limits → Draft → GraphLine → Option LineCause
cause l d Empty = None
cause l d Unknown = Some Syntax
cause l d (Vertices n) = unless (not d.begun) Syntax (unless (nat_le n l.vertices) Vertex None)
cause l d (Attr u a) =
    unless (nat_lt u (bound l d)) Vertex
    (unless (is_between l.attr_lo l.attr_hi a) Attribute
    (unless (is_none (d.attr u)) Present None))
cause l d (EdgeLine e) = one l (drafted d (bound l d)) (Add e)

-- what is said once a line is taken in
unfoldable pub taken_in : Draft → GraphLine → Draft
taken_in d Empty = d
taken_in d Unknown = d
taken_in d (Vertices n) = record d { begun = true; counted = Some n }
taken_in d (Attr u a) =
    record d {
      begun = true;
      named = max d.named (u + 1);
      attr = λ v. if v == u then Some a else
          d.attr v;
    }
taken_in d (EdgeLine e) =
    record d {
      begun = true;
      named = max d.named (max e.src e.dst + 1);
      weights = finite.insert
          d.weights (e.src, e.dst) e.weight;
    }

-- a bad line ends the reading
abbrev pub judged : {A : Type 0} → Option LineCause → ℕ → Result A BadLine → Result A BadLine
judged None number rest = rest
judged (Some why) number rest = Err (record { line = number; cause = why })

-- the draft of lines, of which the first one has that number
abbrev pub draft_after : Limits → Draft → ℕ → List (Option (List ℕ)) → Result Draft BadLine
draft_after l d number [] = Ok d
draft_after l d number (line ∷ lines) =
    judged (cause l d (graph_line line)) number
    (draft_after l (taken_in d (graph_line line)) (number + 1) lines)

-- the graph of a draft: without a told number of vertices it has those up to the greatest one that
-- is named
abbrev pub complete : Draft → Graph
complete d = drafted d (unwrap_or d.counted d.named)

abbrev pub completed : Result Draft BadLine → Result Graph BadLine
completed (Ok d) = Ok (complete d)
completed (Err bad) = Err bad

-- the graph of a text, or its first bad line
abbrev pub graph_of : Limits → List ℕ → Result Graph BadLine
graph_of l text = completed (draft_after l blank 1 (seen_lines text))

-- no line that an LF ends is bad
abbrev pub EndedLinesAreGood : Limits → List ℕ → Type 0
EndedLinesAreGood l text = IsOk (draft_after l blank 1 (seen_ended_lines text))
