-- How a seat's view grows.
use Rattle.std.specs.Prelude.{ℕ, ℤ, ◌+◌, ◌*◌, ◌≡◌, ◌<◌, ◌≤◌, min, List, ◌++◌, map, length, take}
use Rattle.std.specs.Prelude.{All}
use Rattle.std.specs.Int.{cast_unsigned, w64}
use Rattle.std.specs.List.{range_with_len}
use Rattle.bolt_base.specs.Residue.{Amount}
use Rattle.agg_words.specs.View.{View, times}
use Rattle.run_model.specs.Program.{number}

-- the amounts for a vertex, one for each lane
abbrev pub lane_add : ℕ → List ℤ → ℕ → Amount
lane_add dst xs l = record { word = dst * length xs + l; amount = cast_unsigned w64 (number xs l) }

abbrev pub lane_adds : ℕ → List ℤ → List Amount
lane_adds dst xs = map (lane_add dst xs) (range_with_len 0 (length xs))

-- the view has grown by these amounts and marks, and each end was marked or met
pub record Grew (old new : View) (more : List Amount) (ends : List ℕ) (targets : List ℕ) : Type 0
  where
    pub units : new.units ≡ old.units
    pub amounts : new.amounts ≡ old.amounts ++ more
    pub marks : new.marks ≡ old.marks ++ targets
    pub also : List ℕ
    pub met : new.met ≡ old.met ++ also
    pub bits : (b : ℕ) → times b ends ≡ times b targets + times b also

-- the first targets are the last marks of the view, and vertices below n
pub record AreMarked (n : ℕ) (v : View) (count : ℕ) (targets : List ℕ) : Type 0 where
  pub inside : count ≤ length targets
  pub others : List ℕ
  pub marks : v.marks ≡ others ++ take count targets
  pub below : All (λ b. b < n) (take count targets)

-- behind them there is a place for one more, or there are as many places as vertices
pub record HasPlace (v : View) (dst count : ℕ) (targets : List ℕ) : Type 0 where
  pub vertices : ℕ
  pub there : dst < vertices
  pub marked : AreMarked vertices v count targets
  pub room : min vertices (count + 1) ≤ length targets
