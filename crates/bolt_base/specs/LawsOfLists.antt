-- Laws of plain lists of edges and their graphs, each the clause of a public function.
use Rattle.std.specs.Prelude.{◌≡◌, ℕ, ℤ, ◌+◌, ◌≤◌, ◌==◌, Bool, List, [], ◌∷◌, ◌++◌, filter, fold}
use Rattle.std.specs.Prelude.{length, None, if◌then◌else◌}
use Rattle.std.specs.FinMap as finite
use Rattle.std.specs.FinMap.{IsAntisymmetric}
use Rattle.std.specs.Cmp.{IsTotalOrder}
use Rattle.std.specs.List.{All}
use Rattle.bolt_base.specs.Edits.{edited, one}
use Rattle.bolt_base.specs.GoodEdits.{IsGoodAddition, IsGoodCut}
use Rattle.bolt_base.specs.Graph.{Graph, Pair, IsGood, IsBetween, pair_cmp, edges, outdeg, indeg}
use Rattle.bolt_base.specs.LawsOfChange.{Commutes}
use Rattle.bolt_base.specs.Plain.{AreApart, graph_of, found}
use Rattle.bolt_base.specs.declared.edge.Edge.{Edge}
use Rattle.bolt_base.specs.declared.edge.Edit.TheVariants.{Add, Cut}
use Rattle.bolt_base.specs.declared.limits.Limits.{Limits}

-- pairs are in a total order that tells any two apart
abbrev pub PairsAreOrdered : Type 0
PairsAreOrdered = IsTotalOrder pair_cmp

abbrev pub PairsAreToldApart : Type 0
PairsAreToldApart = IsAntisymmetric pair_cmp

-- a scan finds the weight that the graph has
abbrev pub ScansFindWeights : Type 0
ScansFindWeights = (attrs : List ℤ) (es : List Edge) (k : Pair)
    → finite.get (graph_of attrs es).weights k ≡ found es k

-- an edge more at the end of the list is an addition to its graph
abbrev pub PushIsAddition : Type 0
PushIsAddition = (attrs : List ℤ) (es : List Edge) (e : Edge) → found es (e.src, e.dst) ≡ None
    → graph_of attrs (es ++ e ∷ []) ≡ edited (graph_of attrs es) (Add e)

abbrev pub PushStaysApart : Type 0
PushStaysApart = (es : List Edge) (e : Edge) → AreApart es → found es (e.src, e.dst) ≡ None
    → AreApart (es ++ e ∷ [])

-- the list and its graph have as many edges that pass a test
abbrev pub ListIsCounted : Type 0
ListIsCounted = (attrs : List ℤ) (es : List Edge) (p : Edge → Bool) → AreApart es
    → length (filter p (edges (graph_of attrs es))) ≡ length (filter p es)

abbrev pub ListHasLength : Type 0
ListHasLength = (attrs : List ℤ) (es : List Edge) → AreApart es
    → length (edges (graph_of attrs es)) ≡ length es

-- and any fold over them whose steps commute comes to the same
abbrev pub ListIsFolded : Type 0 → Type 0
ListIsFolded B =
    (step : B → Edge → B) (start : B) (p : Edge → Bool) (attrs : List ℤ) (es : List Edge)
    → Commutes step → AreApart es
    → fold step start (filter p (edges (graph_of attrs es))) ≡ fold step start (filter p es)

-- ---- single edits
-- what an addition without a cause finds
abbrev pub AdditionsAreGood : Type 0
AdditionsAreGood = (l : Limits) (g : Graph) (e : Edge) → one l g (Add e) ≡ None
    → IsGoodAddition l g e

-- and what a cut without a cause finds
abbrev pub CutsAreGood : Type 0
CutsAreGood = (l : Limits) (g : Graph) (s d : ℕ) → one l g (Cut s d) ≡ None → IsGoodCut g s d

-- the numbers that an addition leaves
pub record IsCountedMore (g h : Graph) (e : Edge) : Type 0 where
  pub count : length (edges h) ≡ 1 + length (edges g)
  pub out : (u : ℕ) → outdeg h u ≡ (if e.src == u then 1 else 0) + outdeg g u
  pub into : (v : ℕ) → indeg h v ≡ (if e.dst == v then 1 else 0) + indeg g v

abbrev pub AdditionIsCounted : Type 0
AdditionIsCounted = (g : Graph) (e : Edge) → finite.get g.weights (e.src, e.dst) ≡ None
    → IsCountedMore g (edited g (Add e)) e

-- a graph without edges is good where its attributes are
abbrev pub BareIsGood : Type 0
BareIsGood = (l : Limits) (attrs : List ℤ) → length attrs ≤ l.vertices
    → All (λ a. IsBetween l.attr_lo l.attr_hi a) attrs → IsGood l (graph_of attrs [])
