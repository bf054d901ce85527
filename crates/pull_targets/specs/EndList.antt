-- Vertices that were found.
use Rattle.std.specs.Prelude.{◌≡◌, ℕ, ◌<◌, ◌==◌, Bool, ◌||◌, false, List, length}
use Rattle.std.specs.Prelude.{slice_index_or}
use Rattle.std.specs.List.{All, list_any}

-- among vertices below a number
pub record EndState : Type 0 where
  pub vertices : ℕ
  pub ends : List ℕ

-- the vertex was found
abbrev pub is_found : List ℕ → ℕ → Bool
is_found ends v = list_any (λ x. x == v) ends

-- those that pass were found besides
pub record AreFound (old : EndState) (passes : ℕ → Bool) (new : EndState) : Type 0 where
  pub vertices : new.vertices ≡ old.vertices
  pub ends : (v : ℕ) → is_found new.ends v ≡ (is_found old.ends v || passes v)

-- those found are below a number, and one that has a mark is marked where it was found
pub record AreMarked (vertices : ℕ) (marks : List Bool) (ends : List ℕ) : Type 0 where
  pub below : All (λ v. v < vertices) ends
  pub marked : (v : ℕ) → v < length marks → slice_index_or marks v false ≡ is_found ends v
