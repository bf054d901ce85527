-- Vertices that are numbered in the order in which they came.
use Rattle.std.specs.Prelude.{◌≡◌, ℕ, suc, ◌<◌, List, length, slice_index}

-- each vertex of the list, all below n, has its place as its number, counted from 1, and every
-- other one has 0
pub record AreNumbered (number : ℕ → ℕ) (n : ℕ) (order : List ℕ) : Type 0 where
  pub inside : (p : ℕ) → p < length order → slice_index order p < n
  pub back : (p : ℕ) → p < length order → number (slice_index order p) ≡ suc p
  pub within : (v p : ℕ) → v < n → number v ≡ suc p → p < length order
  pub forth : (v p : ℕ) → v < n → number v ≡ suc p → slice_index order p ≡ v
