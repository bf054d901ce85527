-- Laws of the definitions, each the clause of a public function.
use Rattle.std.specs.Prelude.{◌≡◌, ◌≢◌, ℕ, ℤ, pos, sum_by, ◌+◌, ◌-◌, ◌%◌, ◌^◌, ◌<◌, ◌≤◌, ◌+ℤ◌, Bool}
use Rattle.std.specs.Prelude.{List, [], ◌∷◌, ◌++◌, fold, length, slice_index_or, take, Some, None}
use Rattle.std.specs.Prelude.{MatchOption, FitsSigned}
use Rattle.std.specs.Int.{cast_signed, w64}
use Rattle.bolt_base.specs.Graph.{Graph, IsGood, edges, within}
use Rattle.bolt_base.specs.Plain.{AreApart, graph_of}
use Rattle.bolt_base.specs.Edits.{after, one, bad}
use Rattle.bolt_base.specs.Change.{stays, edges_at, removed, added, stayed, sources, changed_attrs}
use Rattle.bolt_base.specs.Keep.{Entry, no_entry, last_of, rest_at, stored, read}
use Rattle.bolt_base.specs.Pieces.{cut, pieces}
use Rattle.bolt_base.specs.Residue.{Amount, residue, sum_at}
use Rattle.bolt_base.specs.declared.edge.Edge.{Edge}
use Rattle.bolt_base.specs.declared.edge.Edit.{Edit}
use Rattle.bolt_base.specs.declared.limits.Limits.{Limits}
use Rattle.bolt_base.specs.declared.limits.LineCause.{LineCause}

-- a fold whose steps commute gives the same over a plain list of edges, in any order, as over its
-- graph
abbrev pub OrderIsFree : (B : Type 0) → Type 0
OrderIsFree B = (step : B → Edge → B) (start : B) (attrs : List ℤ) (es : List Edge)
    → ((b : B) (x y : Edge) → step (step b x) y ≡ step (step b y) x) → AreApart es
    → fold step start (edges (graph_of attrs es)) ≡ fold step start es

-- ---- edits
-- edit k is the first bad one: it has the cause on the graph that the edits before it leave, and
-- each of those has none
pub record IsFirstBad (l : Limits) (g : Graph) (edits : List Edit) (k : ℕ) (cause : LineCause)
    : Type 0 where
  pub inside : k < length edits
  pub bad : (d : Edit) → one l (after g (take k edits)) (slice_index_or edits k d) ≡ Some cause
  pub before : (j : ℕ) (d : Edit) → j < k
      → one l (after g (take j edits)) (slice_index_or edits j d) ≡ None

abbrev pub NoneIsBad : Limits → Graph → List Edit → Type 0
NoneIsBad l g edits = (j : ℕ) (d : Edit) → j < length edits
    → one l (after g (take j edits)) (slice_index_or edits j d) ≡ None

abbrev pub BadIsFirst : Type 0
BadIsFirst = (l : Limits) (g : Graph) (edits : List Edit)
    → MatchOption (bad l g edits) (NoneIsBad l g edits) (λ p. IsFirstBad l g edits p.0 p.1)

-- edits that aren't bad keep a graph good
abbrev pub EditsKeepGood : Type 0
EditsKeepGood = (l : Limits) (g : Graph) (edits : List Edit) → IsGood l g → bad l g edits ≡ None
    → IsGood l (after g edits)

-- a good graph has room for itself
abbrev pub GoodHasRoom : Type 0
GoodHasRoom = (l : Limits) (g : Graph) → IsGood l g → IsGood (within l (length g.attrs)) g

-- what is good within a graph's room is good
abbrev pub RoomIsWithin : Type 0
RoomIsWithin = (l : Limits) (n : ℕ) (g : Graph) → IsGood (within l n) g → IsGood l g

-- ---- changes
-- the edges that stayed are one list, whichever of both graphs they are read from
abbrev pub StayedIsShared : Type 0
StayedIsShared = (g h : Graph) → stayed g h ≡ edges_at g (stays g h)

-- from a graph to itself nothing is removed or added, all edges stay, and no attribute changes
pub record IsNoChange (g : Graph) : Type 0 where
  pub removed : removed g g ≡ []
  pub added : added g g ≡ []
  pub stayed : stayed g g ≡ edges g
  pub sources : sources g g ≡ []
  pub attrs : changed_attrs g g ≡ []

abbrev pub SelfIsNoChange : Type 0
SelfIsNoChange = (g : Graph) → IsNoChange g

-- ---- kept entries
-- from iteration n on all entries are equal, and the one before isn't
pub record IsRest (entries : List Entry) (n : ℕ) : Type 0 where
  pub inside : n < length entries
  pub equal : (j : ℕ) → n ≤ j → j < length entries
      → slice_index_or entries j no_entry ≡ last_of entries
  pub before : 0 < n → slice_index_or entries (n - 1) no_entry ≢ last_of entries

abbrev pub RestIsRest : Type 0
RestIsRest = (entries : List Entry) → 0 < length entries → IsRest entries (rest_at entries)

-- no iteration before it has only equal entries from it on
abbrev pub RestIsLeast : Type 0
RestIsLeast = (entries : List Entry) (n : ℕ) → 0 < length entries
    → ((j : ℕ) → n ≤ j → j < length entries → slice_index_or entries j no_entry ≡ last_of entries)
    → rest_at entries ≤ n

abbrev pub RestIsOnly : Type 0
RestIsOnly = (entries : List Entry) (n : ℕ) → IsRest entries n → n ≡ rest_at entries

-- what is read from the first entry and the kept ones is what was there
abbrev pub ReadsBack : Type 0
ReadsBack = (vertical : Bool) (first : Entry) (more : List Entry) (j : ℕ) → j ≤ length more
    → read first (stored vertical (first ∷ more)) j ≡ slice_index_or (first ∷ more) j no_entry

-- ---- pieces
-- pieces side by side are the run of them
abbrev pub PiecesAppend : (X : Type 0) → Type 0
PiecesAppend X = (xs : List X) (w p q r : ℕ) → 0 < w → p ≤ q → q ≤ r
    → pieces xs w p q ++ pieces xs w q r ≡ pieces xs w p r

-- all of them are all items
abbrev pub PiecesAreAll : (X : Type 0) → Type 0
PiecesAreAll X = (xs : List X) (w : ℕ) → 0 < w → pieces xs w 0 w ≡ xs

abbrev pub PiecesHaveLength : (X : Type 0) → Type 0
PiecesHaveLength X = (xs : List X) (w p q : ℕ) → 0 < w → q ≤ w
    → length (pieces xs w p q) ≡ cut q (length xs) w - cut p (length xs) w

-- ---- amounts
-- the amounts of two lists sum as the lists' sums
abbrev pub SumsAppend : Type 0
SumsAppend = (w : ℕ) (a b : List Amount) → sum_at w (a ++ b) ≡ (sum_at w a + sum_at w b) % 2 ^ 64

-- what numbers sum to, their residues do
abbrev pub ResiduesAdd : Type 0
ResiduesAdd = (a b : ℤ) → residue (a +ℤ b) ≡ (residue a + residue b) % 2 ^ 64

-- and so for any numbers
abbrev pub ManyResiduesAdd : Type 0
ManyResiduesAdd = (zs : List ℤ)
    → sum_by residue zs % 2 ^ 64 ≡ residue (fold (λ sum z. sum +ℤ z) (pos 0) zs)

-- a number that fits i64 is its residue, read as two's complement
abbrev pub ResiduesAreSigned : Type 0
ResiduesAreSigned = (z : ℤ) → FitsSigned w64 z → cast_signed w64 (residue z) ≡ z
