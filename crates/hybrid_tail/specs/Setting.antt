-- Lists that are set at some places.
use Rattle.std.specs.Prelude.{ℕ, ℤ, List, fold, slice_set}
use Rattle.run_model.specs.Rows.{Lists}

-- each of these places holds what f gives for it, one after the other
abbrev pub with_each : (ℕ → List ℤ) → List ℕ → Lists → Lists
with_each f vs xs = fold (λ ys v. slice_set ys v (f v)) xs vs
