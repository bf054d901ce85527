use Rattle.std.proofs.Common.{◌≡◌, ◌++◌, map}
use Rattle.bolt_base.specs.Graph.{edge}
use Rattle.graph_text.proofs.weight_map.edges_in.Given as goal

abbrev pub invariant-loop-src : goal.invariant-loop-src
invariant-loop-src l = l.edges ++ map edge l.src-iterator ≡ map edge l.map.entries
