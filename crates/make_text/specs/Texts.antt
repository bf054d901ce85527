-- The texts of what a seed makes.
use Rattle.std.specs.Prelude.{ℕ, List}
use Rattle.std.specs.List.{flat_map}
use Rattle.bolt_base.specs.declared.edge.Edit.{Edit}
use Rattle.graph_text.specs.Printed.{graph_text, batch_text}
use Rattle.bolt_make.specs.Generator.{made_graph, made_batches}

-- the printed batches of a stream, one after another
abbrev pub stream_text : List (List Edit) → List ℕ
stream_text batches = flat_map batch_text batches

-- the printed form of the graph of a seed, of n vertices and `count` drawn pairs
abbrev pub made_graph_text : (seed n count : ℕ) → List ℕ
made_graph_text seed n count = graph_text (made_graph seed n count)

-- and of the stream behind it, of so many batches of a size
abbrev pub made_stream_text : (seed n count batches size : ℕ) → List ℕ
made_stream_text seed n count batches size =
    stream_text (made_batches seed n count batches size)
