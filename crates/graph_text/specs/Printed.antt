-- The printed forms of graphs and of batches.
use Rattle.std.specs.Prelude.{ℕ, ℤ, pos, if◌then◌else◌, List, [], ◌∷◌, ◌++◌, length, codes, decimal}
use Rattle.std.specs.Prelude.{slice_index_or}
use Rattle.std.specs.Fmt.{signed_decimal}
use Rattle.std.specs.Ordering.{int_eq}
use Rattle.std.specs.List.{flat_map, range_with_len}
use Rattle.bolt_base.specs.declared.edge.Edge.{Edge}
use Rattle.bolt_base.specs.declared.edge.Edit.{Edit}
use Rattle.bolt_base.specs.declared.edge.Edit.TheVariants.{Add, Cut, Attr}
use Rattle.bolt_base.specs.Graph.{Graph, edges}

-- a line of two words, of three and of four, with one space between two of them
abbrev pub two_words : List ℕ → List ℕ → List ℕ
two_words a b = a ++ (32 ∷ b ++ 10 ∷ [])

abbrev pub three_words : List ℕ → List ℕ → List ℕ → List ℕ
three_words a b c = a ++ (32 ∷ two_words b c)

abbrev pub four_words : List ℕ → List ℕ → List ℕ → List ℕ → List ℕ
four_words a b c d = a ++ (32 ∷ three_words b c d)

-- `vertices N`
unfoldable pub count_text : ℕ → List ℕ
count_text n = two_words (codes "vertices") (decimal n)

-- `attr U A`, of an attribute that isn't 0
unfoldable pub attr_text : List ℤ → ℕ → List ℕ
attr_text attrs u =
    if int_eq (slice_index_or attrs u (pos 0)) (pos 0) then [] else three_words (codes "attr")
    (decimal u) (signed_decimal (slice_index_or attrs u (pos 0)))

-- `U V W`
unfoldable pub edge_text : Edge → List ℕ
edge_text e = three_words (decimal e.src) (decimal e.dst) (signed_decimal e.weight)

-- a graph, its attributes rising by vertex and its edges by source and then by destination
abbrev pub graph_text : Graph → List ℕ
graph_text g =
    count_text (length g.attrs) ++ flat_map (attr_text g.attrs) (range_with_len 0 (length g.attrs))
    ++ flat_map edge_text (edges g)

-- `+ U V W`, `- U V` and `v U A`
unfoldable pub edit_text : Edit → List ℕ
edit_text (Add e) = codes "+ " ++ edge_text e
edit_text (Cut s d) = three_words (codes "-") (decimal s) (decimal d)
edit_text (Attr v a) = three_words (codes "v") (decimal v) (signed_decimal a)

-- the edits in order, and the end of the batch
abbrev pub batch_text : List Edit → List ℕ
batch_text edits = flat_map edit_text edits ++ codes "commit\n"
