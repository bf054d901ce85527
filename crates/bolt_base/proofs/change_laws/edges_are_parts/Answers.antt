use Rattle.bolt_base.proofs.EdgeParts.{old_edges_parts, new_edges_parts}
use Rattle.bolt_base.proofs.change_laws.edges_are_parts.Goals as goal

pub returns : goal.returns
returns g c = record {
  old = old_edges_parts _;
  new = new_edges_parts _;
}
