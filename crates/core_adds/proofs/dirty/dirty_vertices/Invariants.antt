use Rattle.std.proofs.Common.{◌≡◌, filter}
use Rattle.std.specs.List.{range_with_len}
use Rattle.run_model.specs.Steps.{is_dirty}
use Rattle.core_adds.specs.Sides.{seen}
use Rattle.core_adds.proofs.dirty.dirty_vertices.Given as goal

abbrev pub invariant-loop-u : goal.invariant-loop-u
invariant-loop-u g l = l.us.items
    ≡ filter (is_dirty l.program
    (seen (g.A.Adjacency.plain l.old) (g.A.Adjacency.plain l.new) l.was l.now))
    (range_with_len 0 l.u)
