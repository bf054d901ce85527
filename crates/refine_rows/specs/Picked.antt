-- The vertices that a test picks, and lists that are merged.
use Rattle.std.specs.Prelude.{◌≡◌, ℕ, Bool, not, ◌||◌, ◌&&◌, List, filter}
use Rattle.std.specs.List.{range_with_len}
use Rattle.bolt_base.specs.Differs.{is_new}
use Rattle.bolt_base.specs.Graph.{Graph}

-- the vertices below n that pass a test, rising
abbrev pub vertices_where : ℕ → (ℕ → Bool) → List ℕ
vertices_where n test = filter test (range_with_len 0 n)

-- a test that passes vertices of a graph alone
abbrev pub old_only : Graph → (ℕ → Bool) → ℕ → Bool
old_only g test v = not (is_new g v) && test v

-- a list has what either of two others has: where they have the vertices that pass two tests, it
-- has those that pass one of the two
abbrev pub AreMerged : List ℕ → List ℕ → List ℕ → Type 0
AreMerged xs ys all = (n : ℕ) (p q : ℕ → Bool) → xs ≡ vertices_where n p
    → ys ≡ vertices_where n q → all ≡ vertices_where n (λ v. p v || q v)
