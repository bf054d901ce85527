use Rattle.std.proofs.Common.{◌≡◌, ◌≤◌, ℕ, min, arith, rules, Fits, w32}
use Rattle.std.proofs.Math.Nat.{min-le_right}
use Rattle.round_engine.proofs.opening.room_of.Goals as goal

below : (a b r : ℕ) → r ≡ min a b → r ≤ b
below a b r is = let low = min-le_right a b in omega arith

pub overflow_cast-result : goal.overflow_cast-result
overflow_cast-result c =
    let narrow : Fits w32 c.args.limits.vertices = search rules in
    let low = below _ c.from-2.result c.min.result c.min.ensures in
    let same = c.from-2.ensures in
    omega arith
