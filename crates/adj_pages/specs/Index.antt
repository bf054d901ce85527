-- An index over pages: the arcs of a row in a list of pages, with the first end and the place of
-- each page.
use Rattle.std.specs.Prelude.{◌≡◌, ℕ, ℤ, suc, ◌+◌, ◌<◌, ◌≤◌, List, [], ◌∷◌, ◌++◌, length, take}
use Rattle.std.specs.Prelude.{drop, slice_index_or}
use Rattle.std.specs.List.{All}
use Rattle.std.specs.FinMap as finite
use Rattle.adjacency.specs.Row.{RowMap, IsRow, end_at}

-- a page, the first end in it, and how many arcs lie in the pages before it
pub record Mark : Type 0 where
  pub first : ℕ
  pub before : ℕ
  pub arcs : RowMap

abbrev pub mark_at : List Mark → ℕ → Mark
mark_at ms i = slice_index_or ms i (record { first = 0; before = 0; arcs = finite.empty })

-- the arcs of pages, side by side
abbrev pub joined : List RowMap → List (ℕ × ℤ)
joined [] = []
joined (page ∷ pages) = finite.entries page ++ joined pages

abbrev pub marked : List Mark → List (ℕ × ℤ)
marked [] = []
marked (m ∷ ms) = finite.entries m.arcs ++ marked ms

-- the page has arcs, and the mark tells its first end and that n arcs are before it
pub record IsPlaced (n : ℕ) (m : Mark) : Type 0 where
  pub some : 0 < finite.len m.arcs
  pub before : m.before ≡ n
  pub first : m.first ≡ end_at (finite.entries m.arcs) 0

abbrev pub ArePlaced : ℕ → List Mark → Type 0
ArePlaced n [] = Unit {0}
ArePlaced n (m ∷ ms) = IsPlaced n m × ArePlaced (n + finite.len m.arcs) ms

-- the ends rise from page to page, and the marks are right
pub record IsIndex (ms : List Mark) (n : ℕ) : Type 0 where
  pub rising : IsRow (marked ms)
  pub placed : ArePlaced 0 ms
  pub count : n ≡ length (marked ms)

-- the k-th arc is on the i-th page
pub record IsPlaceOf (ms : List Mark) (k i : ℕ) : Type 0 where
  pub inside : i < length ms
  pub from : (mark_at ms i).before ≤ k
  pub upto : suc i < length ms → k < (mark_at ms (suc i)).before

-- the end is on the i-th page, or nowhere
pub record IsPlaceFor (ms : List Mark) (end i : ℕ) : Type 0 where
  pub inside : i < length ms
  pub from : 0 < i → (mark_at ms i).first ≤ end
  pub upto : suc i < length ms → end < (mark_at ms (suc i)).first

-- the edits below x are those before the place
pub record IsCut {X : Type 0} (x at : ℕ) (edits : List (ℕ × X)) : Type 0 where
  pub within : at ≤ length edits
  pub below : All (λ e. e.0 < x) (take at edits)
  pub above : All (λ e. x ≤ e.0) (drop at edits)

-- the edits of the pages up to the i-th are those before the place
pub record IsNextCut {X : Type 0} (ms : List Mark) (i : ℕ) (edits : List (ℕ × X)) (from at : ℕ) :
    Type 0 where
  pub later : from ≤ at
  pub within : at ≤ length edits
  pub cut : suc i < length ms → IsCut (mark_at ms (suc i)).first at edits
  pub all : length ms ≤ suc i → at ≡ length edits
