-- Laws of what changed from a graph to another one, each the clause of a public function.
use Rattle.std.specs.Prelude.{◌≡◌, ℕ, ℤ, ◌+◌, Bool, false, not, ◌==◌, List, ◌++◌, map, filter, fold}
use Rattle.std.specs.Prelude.{length, sum_by, Option}
use Rattle.std.specs.FinMap as finite
use Rattle.std.specs.List.{range_with_len}
use Rattle.bolt_base.specs.Change.{stays, removed, added, stayed, is_source}
use Rattle.bolt_base.specs.Graph.{Graph, Pair, IsGood, edge, edges, out_edges, outdeg, indeg}
use Rattle.bolt_base.specs.Graph.{vertices}
use Rattle.bolt_base.specs.TouchedPairs.{picked, gone, come, AreTouched}
use Rattle.bolt_base.specs.declared.edge.Edge.{Edge}
use Rattle.bolt_base.specs.declared.limits.Limits.{Limits}

-- two steps come to the same in either order
abbrev pub Commutes : {B : Type 0} → (B → Edge → B) → Type 0
Commutes {B} step = (b : B) (x y : Edge) → step (step b x) y ≡ step (step b y) x

-- what some edges come to is what two other lists come to: by any fold whose steps commute, over
-- those that pass a test
abbrev pub AreParts : Type 0 → List Edge → List Edge → List Edge → Type 0
AreParts B whole one other = (step : B → Edge → B) (start : B) (p : Edge → Bool) → Commutes step
    → fold step start (filter p whole) ≡ fold step start (filter p one ++ filter p other)

-- the edges of g are those removed and those that stayed
abbrev pub OldEdgesAreParts : Type 0 → Type 0
OldEdgesAreParts B = (g h : Graph) → AreParts B (edges g) (removed g h) (stayed g h)

-- the edges of h are those added and those that stayed
abbrev pub NewEdgesAreParts : Type 0 → Type 0
NewEdgesAreParts B = (g h : Graph) → AreParts B (edges h) (added g h) (stayed g h)

-- the numbers of edges that pass a test
abbrev pub OldEdgesAreCounted : Type 0
OldEdgesAreCounted = (g h : Graph) (p : Edge → Bool)
    → length (filter p (edges g)) ≡ length (filter p (removed g h)) + length (filter p (stayed g h))

abbrev pub NewEdgesAreCounted : Type 0
NewEdgesAreCounted = (g h : Graph) (p : Edge → Bool)
    → length (filter p (edges h)) ≡ length (filter p (added g h)) + length (filter p (stayed g h))

abbrev pub edge_stays : Graph → Graph → Edge → Bool
edge_stays g h e = stays g h (e.src, e.dst)

-- removed, added and stayed edges are those of the graph that pass a test, in its order
abbrev pub RemovedIsFilter : Type 0
RemovedIsFilter = (g h : Graph) → removed g h ≡ filter (λ e. not (edge_stays g h e)) (edges g)

abbrev pub AddedIsFilter : Type 0
AddedIsFilter = (g h : Graph) → added g h ≡ filter (λ e. not (edge_stays g h e)) (edges h)

abbrev pub StayedIsFilter : Type 0
StayedIsFilter = (g h : Graph) → stayed g h ≡ filter (edge_stays g h) (edges h)

-- a vertex out of which no edge was removed or added has the same out-edges
abbrev pub OutEdgesStay : Type 0
OutEdgesStay = (g h : Graph) (u : ℕ) → is_source g h u ≡ false → out_edges h u ≡ out_edges g u

-- the edges out of a vertex that stayed are those of its out-edges that stayed
abbrev pub StayedOutIsFilter : Type 0
StayedOutIsFilter = (g h : Graph) (u : ℕ)
    → filter (λ e. e.src == u) (stayed g h) ≡ filter (edge_stays g h) (out_edges h u)

-- ---- numbers of edges
abbrev pub EdgesAreWeights : Type 0
EdgesAreWeights = (g : Graph) → length (edges g) ≡ finite.len g.weights

-- all degrees sum to the number of edges
abbrev pub OutDegreesSum : Type 0
OutDegreesSum = (l : Limits) (g : Graph) → IsGood l g
    → sum_by (outdeg g) (range_with_len 0 (vertices g)) ≡ length (edges g)

abbrev pub InDegreesSum : Type 0
InDegreesSum = (l : Limits) (g : Graph) → IsGood l g
    → sum_by (indeg g) (range_with_len 0 (vertices g)) ≡ length (edges g)

-- ---- touched pairs
-- where these pairs, with their new weights, are all in which h may differ from g, they tell what
-- was removed and added
abbrev pub TouchedTellRemoved : Type 0
TouchedTellRemoved = (touched : List (Pair × Option ℤ)) (g h : Graph) → AreTouched touched g h
    → removed g h ≡ map edge (picked (gone g) touched)

abbrev pub TouchedTellAdded : Type 0
TouchedTellAdded = (touched : List (Pair × Option ℤ)) (g h : Graph) → AreTouched touched g h
    → added g h ≡ map edge (picked (come g) touched)
