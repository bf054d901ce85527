-- The lines that refuse programs, and those of an accepted one.
use Rattle.std.specs.Prelude.{ℕ, ℤ, List, [], ◌++◌, codes}
use Rattle.std.specs.List.{range_with_len, flat_map}
use Rattle.range_check.specs.Laws.{span_at}
use Rattle.range_check.specs.declared.refusal.RangeRefusal.{RangeRefusal}
use Rattle.range_check.specs.declared.refusal.RangeRefusal.TheVariants as range
use Rattle.run_model.specs.Program.{lanes}
use Rattle.text_words.specs.declared.error.Keyword.{Keyword}
use Rattle.text_words.specs.declared.error.Keyword.TheVariants as keyword
use Rattle.text_words.specs.declared.error.LangError.{LangError}
use Rattle.text_words.specs.declared.error.LangError.TheVariants as lang
use Rattle.vertex_expr.specs.ProgramBounds.{spans_in}
use Rattle.vertex_expr.specs.Span.{Span}
use Rattle.vertex_expr.specs.declared.expr.Part.{Part}
use Rattle.vertex_expr.specs.declared.expr.Part.TheVariants as part
use Rattle.vertex_expr.specs.declared.program.Combine.{Combine}
use Rattle.vertex_expr.specs.declared.program.Combine.TheVariants as combine
use Rattle.vertex_expr.specs.declared.program.ProgramEntries.{ProgramEntries}
use Rattle.report_text.specs.Lines.{labelled}
use Rattle.report_text.specs.Values.{lane_word}

-- the word that begins an entry
abbrev pub keyword_word : Keyword → List ℕ
keyword_word keyword.Program = codes "program"
keyword_word keyword.Vertices = codes "vertices"
keyword_word keyword.Degree = codes "degree"
keyword_word keyword.Edges = codes "edges"
keyword_word keyword.Weight = codes "weight"
keyword_word keyword.Attr = codes "attr"
keyword_word keyword.Rounds = codes "rounds"
keyword_word keyword.Combine = codes "combine"
keyword_word keyword.Param = codes "param"
keyword_word keyword.Lane = codes "lane"
keyword_word keyword.Init = codes "init"
keyword_word keyword.Contribute = codes "contribute"
keyword_word keyword.Apply = codes "apply"

-- what refuses a program's text, to the end of the line; want of memory has no line
abbrev pub text_cause : LangError → List ℕ
text_cause (lang.Syntax at) = labelled (codes "syntax at ") at ++ codes "\n"
text_cause (lang.Unknown at) = labelled (codes "unknown at ") at ++ codes "\n"
text_cause (lang.Repeat at) = labelled (codes "repeat at ") at ++ codes "\n"
text_cause (lang.Missing word) = codes "missing " ++ keyword_word word ++ codes "\n"
text_cause (lang.TooBig at) = labelled (codes "toobig at ") at ++ codes "\n"
text_cause lang.Memory = []

abbrev pub text_refused : LangError → List ℕ
text_refused e = codes "program refused " ++ text_cause e

-- the word of a part
abbrev pub part_word : Part → List ℕ
part_word part.Init = codes "init"
part_word part.Contribute = codes "contribute"
part_word part.Aggregate = codes "aggregate"
part_word part.Apply = codes "apply"

-- a word, a part, and the number of a node or of a lane
abbrev pub placed : List ℕ → Part → ℕ → List ℕ
placed word p n = word ++ part_word p ++ labelled (codes " ") n

-- both ends of an interval, to the end of the line
abbrev pub ends : ℤ → ℤ → List ℕ
ends low high = lane_word low ++ lane_word high ++ codes "\n"

-- which break refuses a program, to the end of the line; want of memory has no line
abbrev pub range_cause : RangeRefusal → List ℕ
range_cause (range.Zero p node) = placed (codes "zero ") p node ++ codes "\n"
range_cause (range.Wide p node) = placed (codes "wide ") p node ++ codes "\n"
range_cause (range.Sum lane) = labelled (codes "sum ") lane ++ codes "\n"
range_cause (range.Value p lane low high) = placed (codes "value ") p lane ++ ends low high
range_cause range.Memory = []

abbrev pub range_refused : RangeRefusal → List ℕ
range_refused r = codes "program refused " ++ range_cause r

-- how contributions are combined
abbrev pub combine_word : Combine → List ℕ
combine_word combine.Sum = codes "sum"
combine_word (combine.Min e) = codes "min"
combine_word (combine.Max e) = codes "max"

-- a program: its name, its lanes and rounds, and how it combines
abbrev pub program_line : ProgramEntries → List ℕ
program_line p =
    codes "program " ++ p.name ++ labelled (codes " lanes ") (lanes p)
    ++ labelled (codes " rounds ") p.rounds ++ codes " combine " ++ combine_word p.combine
    ++ codes "\n"

-- the intervals of a part, lane by lane
abbrev pub span_line : Part → ℕ → Span → List ℕ
span_line p lane span = placed [] p lane ++ ends span.low span.high

abbrev pub part_lines : ProgramEntries → Part → List ℕ
part_lines g p =
    flat_map (λ lane. span_line p lane (span_at (spans_in g p) lane)) (range_with_len 0 (lanes g))

-- an accepted program, and the intervals of its parts
abbrev pub check_text : ProgramEntries → List ℕ
check_text p =
    program_line p ++ part_lines p part.Init ++ part_lines p part.Contribute
    ++ part_lines p part.Aggregate ++ part_lines p part.Apply
