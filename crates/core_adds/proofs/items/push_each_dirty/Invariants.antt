use Rattle.std.proofs.Common.{◌≡◌, ◌++◌, map, take}
use Rattle.core_adds.specs.Sides.{change_adds, seen}
use Rattle.core_adds.proofs.items.push_each_dirty.Given as goal

abbrev pub invariant-loop-u : goal.invariant-loop-u
invariant-loop-u g l = l.all
    ≡ l.initial.all ++ map (change_adds l.program
    (seen (g.A.Adjacency.plain l.old) (g.A.Adjacency.plain l.new) l.was l.now) l.edges)
    (take l.u-index l.us)
