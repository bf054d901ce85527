use Rattle.std.proofs.Common.{◌≡◌, take}
use Rattle.bolt_make.specs.Generator.{joined}
use Rattle.bolt_make.proofs.made_graph.MadeGraph.join_all.Given as goal

abbrev pub invariant-loop-pair : goal.invariant-loop-pair
invariant-loop-pair l = l.self ≡ joined l.initial.self (take l.pair-index l.pairs)
