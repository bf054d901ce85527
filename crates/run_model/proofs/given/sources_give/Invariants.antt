use Rattle.std.proofs.Common.{◌≡◌, map}
use Rattle.std.specs.List.{range_with_len}
use Rattle.run_model.specs.Given.{source_gives}
use Rattle.run_model.proofs.given.sources_give.Given as goal

abbrev pub invariant-loop-u : goal.invariant-loop-u
invariant-loop-u l = l.given.items ≡ map (source_gives l.program l.graph l.vals)
    (range_with_len 0 l.u)
