use Rattle.std.proofs.Common.{◌≡◌, ◌-◌, ◌^◌, min, take}
use Rattle.lexical.specs.Numbers.{decimal_value}
use Rattle.lexical.proofs.numbers.capped_number.Given as goal

abbrev pub invariant-loop-b : goal.invariant-loop-b
invariant-loop-b l = l.number ≡ min (decimal_value (take l.b-index l.digits)) (2 ^ 64 - 1)
