-- The lines that refuse words, graphs and batches.
use Rattle.std.specs.Prelude.{ℕ, List, ◌++◌, codes}
use Rattle.bolt_base.specs.declared.limits.LineCause.{LineCause}
use Rattle.bolt_base.specs.declared.limits.LineCause.TheVariants.{Syntax, Vertex, Weight, Attribute}
use Rattle.bolt_base.specs.declared.limits.LineCause.TheVariants.{Present, Absent, Degree, Edges}
use Rattle.bolt_base.specs.declared.limits.LineCause.TheVariants.{Size, Unfinished}
use Rattle.graph_text.specs.declared.bad_line.BadLine.{BadLine}
use Rattle.report_text.specs.Lines.{labelled}

-- the word of a cause
abbrev pub cause_word : LineCause → List ℕ
cause_word Syntax = codes "syntax"
cause_word Vertex = codes "vertex"
cause_word Weight = codes "weight"
cause_word Attribute = codes "attribute"
cause_word Present = codes "present"
cause_word Absent = codes "absent"
cause_word Degree = codes "degree"
cause_word Edges = codes "edges"
cause_word Size = codes "size"
cause_word Unfinished = codes "unfinished"

-- where and why something is refused, to the end of the line
abbrev pub refused_at : BadLine → List ℕ
refused_at bad =
    labelled (codes " refused line ") bad.line ++ codes " " ++ cause_word bad.cause ++ codes "\n"

-- a refused batch: its number, its bad line, and the cause
abbrev pub refused_line : ℕ → BadLine → List ℕ
refused_line number bad = labelled (codes "batch ") number ++ refused_at bad

-- a refused graph: its bad line, and the cause
abbrev pub graph_refused : BadLine → List ℕ
graph_refused bad = codes "graph" ++ refused_at bad

-- a graph for which too many cells would be needed: how many, and the most that there may be
abbrev pub cells_refused : (need limit : ℕ) → List ℕ
cells_refused need limit =
    labelled (codes "graph refused cells ") need ++ labelled (codes " limit ") limit ++ codes "\n"

-- the refusal of the word at a place
abbrev pub words_refused : ℕ → List ℕ
words_refused at = labelled (codes "words refused at ") at ++ codes "\n"
