-- What became of a vertex from a graph to another one.
use Rattle.std.specs.Prelude.{ℕ, ◌==◌, Bool, not, nat_le}
use Rattle.std.specs.Ordering.{int_eq}
use Rattle.bolt_base.specs.Change.{attr_at}
use Rattle.bolt_base.specs.Graph.{Graph, vertices, outdeg}

-- the vertex isn't in the graph: it is new in one that has it
abbrev pub is_new : Graph → ℕ → Bool
is_new g v = nat_le (vertices g) v

-- it has more or fewer out-edges in h than in g
abbrev pub degree_changed : Graph → Graph → ℕ → Bool
degree_changed g h u = not (outdeg g u == outdeg h u)

-- its attribute in h is another one than in g
abbrev pub attr_changed : Graph → Graph → ℕ → Bool
attr_changed g h u = not (int_eq (attr_at g u) (attr_at h u))
