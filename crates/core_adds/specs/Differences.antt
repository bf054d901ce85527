-- Numbers less other ones, lane by lane.
use Rattle.std.specs.Prelude.{ℕ, ℤ, ◌+◌, ◌*◌, ◌-ℤ◌, List, length, map}
use Rattle.std.specs.List.{range_with_len}
use Rattle.bolt_base.specs.Residue.{Amount, residue}
use Rattle.run_model.specs.Program.{number}

-- for a lane of a vertex
abbrev pub difference : ℕ → List ℤ → List ℤ → ℕ → Amount
difference dst xs ys l = record {
  word = dst * length xs + l;
  amount = residue (number xs l -ℤ number ys l);
}

abbrev pub differences : ℕ → List ℤ → List ℤ → List Amount
differences dst xs ys = map (difference dst xs ys) (range_with_len 0 (length xs))
