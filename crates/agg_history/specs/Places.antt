-- For each vertex and iteration a place, 0 where there is none.
use Rattle.std.specs.Prelude.{ℕ, zero, suc, ◌*◌, List, [], take, drop, replicate, slice_index}
use Rattle.std.specs.Prelude.{slice_index_or, refl}
use Rattle.std.specs.Coded.{Coded, code_by, coded×, coded_ℕ, coded_list}

-- a line of so many places for each vertex, and the vertices that may have one that isn't 0
pub record PlaceTable : Type 0 where
  pub width : ℕ
  pub touched : List ℕ
  pub table : List (List ℕ)

abbrev pub place_at : List (List ℕ) → ℕ → ℕ → ℕ
place_at table v i = slice_index (slice_index_or table v []) i

-- the line of a slot: slot 0 has none of its own, and slot t + 1 has the places from t widths on
abbrev pub line_of : ℕ → List ℕ → ℕ → List ℕ
line_of width places zero = replicate width 0
line_of width places (suc t) = take width (drop (t * width) places)

-- how the logic stores them
abbrev pub coded_place_table : Coded PlaceTable
coded_place_table = code_by (ℕ × (List ℕ × List (List ℕ)))
    (coded× coded_ℕ (coded× (coded_list coded_ℕ) (coded_list (coded_list coded_ℕ))))
    (λ t. (t.width, (t.touched, t.table)))
    (λ p. record { width = p.0; touched = p.1.0; table = p.1.1 }) (λ _. refl)
