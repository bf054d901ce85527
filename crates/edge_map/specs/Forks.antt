-- What some of the pieces do.
use Rattle.std.specs.Prelude.{ℕ, ◌+◌, ◌-◌, min, List, sum_by}
use Rattle.std.specs.List.{range_with_len}
use Rattle.bolt_base.specs.Graph.{Graph, vertices}
use Rattle.bolt_base.specs.Pieces.{pieces}
use Rattle.bolt_base.specs.Residue.{Amount}
use Rattle.run_model.specs.Additions.{Gift}
use Rattle.edge_map.specs.Additions.{gifts_of_works, adds_of_gifts, ends_of_gifts, visits_of}
use Rattle.edge_map.specs.declared.tasks.Plan.{Plan}

-- what the pieces from a up to b read, give and add, and where they give to
abbrev pub part_visits : Plan → ℕ → ℕ → ℕ
part_visits x a b = visits_of x.tasks.now (pieces x.works.items x.workers a b)

abbrev pub part_gifts : Graph → Plan → ℕ → ℕ → List Gift
part_gifts g x a b = gifts_of_works x.program.now g x.tasks.now (pieces x.works.items x.workers a b)

abbrev pub part_adds : Graph → Plan → ℕ → ℕ → List Amount
part_adds g x a b = adds_of_gifts x.program.now (part_gifts g x a b)

abbrev pub part_ends : Graph → Plan → ℕ → ℕ → List ℕ
part_ends g x a b = ends_of_gifts (part_gifts g x a b)

-- a piece has places for as many targets as it reads edges, but for no more than there are vertices
abbrev pub piece_room : Graph → Plan → ℕ → ℕ
piece_room g x k = min (vertices g) (part_visits x k (k + 1))

-- the places of the pieces from a up to b
abbrev pub part_room : Graph → Plan → ℕ → ℕ → ℕ
part_room g x a b = sum_by (piece_room g x) (range_with_len a (b - a))
