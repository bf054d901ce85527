use Rattle.bolt_base.proofs.EdgeParts.{out_edges_stay, stayed_out}
use Rattle.bolt_base.proofs.change_laws.out_edges_are_known.Goals as goal

pub returns : goal.returns
returns c = record {
  untouched = out_edges_stay;
  stayed = stayed_out;
}
