use Rattle.std.proofs.Common.{◌≡◌, map}
use Rattle.std.specs.List.{range_with_len}
use Rattle.run_model.specs.Given.{source_gives}
use Rattle.sync_engine.proofs.alone.sources_give_alone.Given as goal

abbrev pub invariant-loop-u : goal.invariant-loop-u
invariant-loop-u g l = l.given.items
    ≡ map (source_gives l.program (g.A.Adjacency.plain l.graph) (g.V.ValueRow.values l.row))
    (range_with_len 0 l.u)
