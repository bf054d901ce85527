-- The canonical text of a program: its entries in their order, a line each, one space between
-- words.
use Rattle.std.specs.Prelude.{ℕ, ℤ, ◌+◌, List, [], ◌∷◌, ◌++◌, codes, decimal}
use Rattle.std.specs.Fmt.{signed_decimal}
use Rattle.bolt_base.specs.declared.limits.Limits.{Limits}
use Rattle.vertex_expr.specs.Tree.{Tree}
use Rattle.vertex_expr.specs.Writable.{names_of}
use Rattle.vertex_expr.specs.declared.program.Combine.{Combine}
use Rattle.vertex_expr.specs.declared.program.Combine.TheVariants.{Sum, Min, Max}
use Rattle.vertex_expr.specs.declared.program.LaneRange.{LaneRange}
use Rattle.vertex_expr.specs.declared.program.NamedParam.{NamedParam}
use Rattle.vertex_expr.specs.declared.program.ProgramEntries.{ProgramEntries}
use Rattle.expr_text.specs.Printing.{text_of}

-- a word behind one space
abbrev pub spaced : List ℕ → List ℕ
spaced w = 32 ∷ w

abbrev pub name_line : List ℕ → List ℕ
name_line name = codes "program" ++ spaced name

abbrev pub empty_line : List ℕ → ℤ → List ℕ
empty_line w e = codes "combine" ++ spaced (w ++ spaced (signed_decimal e))

abbrev pub combine_line : Combine → List ℕ
combine_line Sum = codes "combine" ++ spaced (codes "sum")
combine_line (Min e) = empty_line (codes "min") e
combine_line (Max e) = empty_line (codes "max") e

abbrev pub number_line : List ℕ → ℕ → List ℕ
number_line w n = w ++ spaced (decimal n)

abbrev pub range_line : List ℕ → ℤ → ℤ → List ℕ
range_line w lo hi = w ++ spaced (signed_decimal lo ++ spaced (signed_decimal hi))

abbrev pub param_line : NamedParam → List ℕ
param_line p = codes "param" ++ spaced (p.name ++ spaced (signed_decimal p.value))

abbrev pub lane_line : ℕ → LaneRange → List ℕ
lane_line k r =
    codes "lane" ++ spaced (decimal k
    ++ spaced (signed_decimal r.lo ++ spaced (signed_decimal r.hi)))

abbrev pub tree_line : List ℕ → List (List ℕ) → ℕ → Tree → List ℕ
tree_line w names k t = w ++ spaced (decimal k ++ spaced (text_of names t))

-- lines, each ended by a line feed
abbrev pub ended_lines : List (List ℕ) → List ℕ
ended_lines [] = []
ended_lines (l ∷ ls) = l ++ 10 ∷ ended_lines ls

abbrev pub param_lines : List NamedParam → List (List ℕ)
param_lines [] = []
param_lines (p ∷ ps) = param_line p ∷ param_lines ps

-- lanes count from k
abbrev pub lane_lines : ℕ → List LaneRange → List (List ℕ)
lane_lines k [] = []
lane_lines k (r ∷ rs) = lane_line k r ∷ lane_lines (k + 1) rs

abbrev pub tree_lines : List ℕ → List (List ℕ) → ℕ → List Tree → List (List ℕ)
tree_lines w names k [] = []
tree_lines w names k (t ∷ ts) = tree_line w names k t ∷ tree_lines w names (k + 1) ts

abbrev pub count_lines : Limits → List (List ℕ)
count_lines l =
    number_line (codes "vertices") l.vertices ∷ number_line (codes "degree") l.degree
    ∷ number_line (codes "edges") l.edges ∷ []

abbrev pub weight_line : Limits → List ℕ
weight_line l = range_line (codes "weight") l.weight_lo l.weight_hi

abbrev pub attr_line : Limits → List ℕ
attr_line l = range_line (codes "attr") l.attr_lo l.attr_hi

-- the entries that stand once
abbrev pub once_lines : ProgramEntries → List (List ℕ)
once_lines g =
    name_line g.name ∷ (count_lines g.limits ++ weight_line g.limits ∷ attr_line g.limits
    ∷ number_line (codes "rounds") g.rounds ∷ combine_line g.combine ∷ [])

-- the canonical text
unfoldable pub canonical_text : ProgramEntries → List ℕ
canonical_text g =
    ended_lines (once_lines g) ++ ended_lines (param_lines g.params)
    ++ ended_lines (lane_lines 0 g.ranges)
    ++ ended_lines (tree_lines (codes "init") (names_of g.params) 0 g.init)
    ++ ended_lines (tree_lines (codes "contribute") (names_of g.params) 0 g.contribute)
    ++ ended_lines (tree_lines (codes "apply") (names_of g.params) 0 g.apply)
