-- What stands at the ends of an edge.
use Rattle.std.specs.Prelude.{◌≡◌, ℕ}
use Rattle.std.specs.FinMap as finite
use Rattle.bolt_base.specs.Graph.{Graph as Plain, outdeg, indeg}
use Rattle.bolt_base.specs.declared.edge.Edit.{Edit}
use Rattle.bolt_base.specs.declared.edge.Edit.TheVariants.{Add, Cut, Attr}
use Rattle.adjacency.specs.Row.{RowMap}
use Rattle.adjacency.specs.declared.ends.Spot.{Spot}
use Rattle.adjacency.specs.declared.ends.Ends.{Ends}

-- the number of arcs of the row, and the weight of the end in it
pub record IsSpot (r : RowMap) (end : ℕ) (s : Spot) : Type 0 where
  pub degree : s.degree ≡ finite.len r
  pub weight : s.weight ≡ finite.get r end

-- the degrees of the two vertices, and the weight of the pair
pub record AreEnds (g : Plain) (src dst : ℕ) (e : Ends) : Type 0 where
  pub out_degree : e.out_degree ≡ outdeg g src
  pub in_degree : e.in_degree ≡ indeg g dst
  pub weight : e.weight ≡ finite.get g.weights (src, dst)

-- those of the edge that an edit adds or cuts
abbrev pub AreEndsOf : Plain → Edit → Ends → Type 0
AreEndsOf g (Add e) ends = AreEnds g e.src e.dst ends
AreEndsOf g (Cut s d) ends = AreEnds g s d ends
AreEndsOf g (Attr v a) ends = Unit {0}
