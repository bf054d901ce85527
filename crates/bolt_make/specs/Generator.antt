-- The graph and the stream of edits that a seed gives.
use Rattle.std.specs.Prelude.{ℕ, pos, zero, suc, ◌+◌, ◌%◌, ◌==◌, if◌then◌else◌, List, [], ◌∷◌}
use Rattle.std.specs.Prelude.{length}
use Rattle.std.specs.Prelude.{replicate, slice_index_or}
use Rattle.std.specs.List.{fold}
use Rattle.std.specs.FinMap as finite
use Rattle.bolt_base.specs.Graph.{Graph, Pair}
use Rattle.bolt_base.specs.Edits.{edited, after, has_edge}
use Rattle.bolt_base.specs.declared.edge.Edge.{Edge}
use Rattle.bolt_base.specs.declared.edge.Edit.{Edit}
use Rattle.bolt_base.specs.declared.edge.Edit.TheVariants.{Add, Cut}
use Rattle.bolt_make.specs.Draws.{seeded, drawn, drawn_pair, drawn_pairs, after_pairs}

-- vertices with the attribute 0, and no edge
abbrev pub bare : ℕ → Graph
bare n = record { attrs = replicate n (pos 0); weights = finite.empty }

-- the edge of a pair has the weight 1
abbrev pub unit_edge : Pair → Edge
unit_edge p = record { src = p.0; dst = p.1; weight = pos 1 }

abbrev pub added : Pair → Edit
added p = Add (unit_edge p)

-- a pair that has no edge is given one
abbrev pub with_pair : Graph → Pair → Graph
with_pair g p = if has_edge g p.0 p.1 then g else edited g (added p)

-- so is each of some pairs
abbrev pub joined : Graph → List Pair → Graph
joined g pairs = fold with_pair g pairs

-- an edit cuts its pair if it has an edge then, and else adds it
abbrev pub turned : Graph → Pair → Edit
turned g p = if has_edge g p.0 p.1 then Cut p.0 p.1 else added p

-- the pair of edit k of a batch: an even edit draws it, and an odd one draws its number among the
-- pairs of the graph
abbrev pub edit_pair : (n : ℕ) → List Pair → (k x : ℕ) → Pair
edit_pair n pairs k x =
    if k % 2 == 0 then drawn_pair n x else slice_index_or pairs (drawn x % length pairs) (0, 0)

-- the last number that was drawn for it
abbrev pub after_edit : (k x : ℕ) → ℕ
after_edit k x = if k % 2 == 0 then drawn (drawn x) else drawn x

-- so many edits of a batch from edit k on, each on the graph that those before it leave
abbrev pub edits_from : (n : ℕ) → List Pair → (count k : ℕ) → Graph → ℕ → List Edit
edits_from n pairs zero k g x = []
edits_from n pairs (suc count) k g x =
    turned g (edit_pair n pairs k x)
    ∷ edits_from n pairs count (k + 1) (edited g (turned g (edit_pair n pairs k x)))
    (after_edit k x)

-- the last number that was drawn for them
abbrev pub after_edits : (count k x : ℕ) → ℕ
after_edits zero k x = x
after_edits (suc count) k x = after_edits count (k + 1) (after_edit k x)

-- so many batches of a size, one after another
abbrev pub batches_from : (n : ℕ) → List Pair → (size count : ℕ) → Graph → ℕ → List (List Edit)
batches_from n pairs size zero g x = []
batches_from n pairs size (suc count) g x =
    edits_from n pairs size 0 g x
    ∷ batches_from n pairs size count (after g (edits_from n pairs size 0 g x))
    (after_edits size 0 x)

-- the pairs of the graph that a seed gives, of n vertices
abbrev pub made_pairs : (seed n count : ℕ) → List Pair
made_pairs seed n count = drawn_pairs n count (seeded seed)

abbrev pub made_graph : (seed n count : ℕ) → Graph
made_graph seed n count = joined (bare n) (made_pairs seed n count)

-- the batches of the stream behind it
abbrev pub made_batches : (seed n count batches size : ℕ) → List (List Edit)
made_batches seed n count batches size =
    batches_from n (made_pairs seed n count) size batches (made_graph seed n count)
    (after_pairs count (seeded seed))
