-- The graph before the change that is out.
use Rattle.std.specs.Prelude.{unwrap_or}
use Rattle.bolt_base.specs.Graph.{Graph}
use Rattle.adjacency.specs.State.{State}
use Rattle.refine_rows.specs.Over.{no_graph}

abbrev pub graph_before : State → Graph
graph_before s = unwrap_or s.before no_graph
