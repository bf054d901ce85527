-- What a plan of edits gives in the end.
use Rattle.std.specs.Prelude.{◌≡◌, ℤ, List}
use Rattle.adjacency.specs.Row.{RowMap}
use Rattle.adjacency.specs.PlainOf.{plain_of}
use Rattle.adjacency.specs.Planned.{planned}
use Rattle.adjacency.specs.ChangeOf.{IsNet}
use Rattle.adjacency.specs.ReadyFor.{ready_attrs, ready_out, ready_into, HasPlaces}
use Rattle.adjacency.specs.declared.plan.Plan.{Plan}
use Rattle.adjacency.specs.declared.ready.Ready.{Ready}

-- what is ready is what the plan changed, over the attributes and rows that it began with
pub record IsFinished {R : Type 0} (attrs : List ℤ) (out into : List RowMap) (p : Plan R)
    (r : Ready) : Type 0 where
  pub places : HasPlaces attrs out into r
  pub is_attrs : ready_attrs attrs r ≡ p.attrs.now
  pub is_out : ready_out out r ≡ p.out.rows
  pub is_into : ready_into into r ≡ p.into.rows
  pub edges : r.edges ≡ p.edges
  pub net : IsNet (plain_of attrs out) (planned p) r.net
