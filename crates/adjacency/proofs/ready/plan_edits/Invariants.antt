use Rattle.adjacency.proofs.UnderWay.{IsUnderWay}
use Rattle.adjacency.proofs.ready.plan_edits.Given as goal

abbrev pub invariant-loop-index : goal.invariant-loop-index
invariant-loop-index g l = record {
  way : IsUnderWay l.limits l.attrs l.out l.into l.edits l.plan l.index;
}
