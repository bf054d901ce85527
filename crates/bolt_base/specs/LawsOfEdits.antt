-- Laws of edits, each the clause of a public function.
use Rattle.std.specs.Prelude.{◌≡◌, ℕ, ℤ, ◌≤◌, false, List, ◌++◌, length, Some, None}
use Rattle.std.specs.FinMap as finite
use Rattle.std.specs.List.{list_any}
use Rattle.bolt_base.specs.Change.{attr_at}
use Rattle.bolt_base.specs.Edits.{edited, after, bad}
use Rattle.bolt_base.specs.EditNames.{names_pair, names_vertex, bad_then, IsOneMore}
use Rattle.bolt_base.specs.Graph.{Graph, Pair, vertices}
use Rattle.bolt_base.specs.declared.edge.Edge.{Edge}
use Rattle.bolt_base.specs.declared.edge.Edit.{Edit}
use Rattle.bolt_base.specs.declared.edge.Edit.TheVariants.{Add, Cut}
use Rattle.bolt_base.specs.declared.limits.Limits.{Limits}

-- a pair that no edit names keeps its weight, or stays without one
abbrev pub UnnamedPairsStay : Type 0
UnnamedPairsStay = (g : Graph) (edits : List Edit) (k : Pair)
    → list_any (names_pair k) edits ≡ false
    → finite.get (after g edits).weights k ≡ finite.get g.weights k

-- a vertex that no edit names keeps its attribute
abbrev pub UnnamedAttrsStay : Type 0
UnnamedAttrsStay = (g : Graph) (edits : List Edit) (v : ℕ) → list_any (names_vertex v) edits ≡ false
    → attr_at (after g edits) v ≡ attr_at g v

-- edits lose no vertex
abbrev pub NoVertexIsLost : Type 0
NoVertexIsLost = (g : Graph) (edits : List Edit) → vertices g ≤ vertices (after g edits)

-- edits one list after the other
abbrev pub AfterAppends : Type 0
AfterAppends = (g : Graph) (xs ys : List Edit) → after g (xs ++ ys) ≡ after (after g xs) ys

-- the first bad edit of two lists is that of the first one, or else that of the second one, counted
-- on
abbrev pub BadAppends : Type 0
BadAppends = (l : Limits) (g : Graph) (xs ys : List Edit)
    → bad l g (xs ++ ys) ≡ bad_then (bad l g xs) (length xs) (bad l (after g xs) ys)

-- an addition at a pair without an edge adds this edge alone to the lists of edges
abbrev pub AdditionIsOneMore : Type 0
AdditionIsOneMore = (g : Graph) (e : Edge) → finite.get g.weights (e.src, e.dst) ≡ None
    → IsOneMore e g (edited g (Add e))

-- a cut takes this edge alone out of them
abbrev pub CutIsOneLess : Type 0
CutIsOneLess = (g : Graph) (s d : ℕ) (w : ℤ) → finite.get g.weights (s, d) ≡ Some w
    → IsOneMore (record { src = s; dst = d; weight = w }) (edited g (Cut s d)) g
