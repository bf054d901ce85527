use Rattle.bolt_base.proofs.BareGraphs.{edge_count}
use Rattle.bolt_base.proofs.Degrees.{all_in, all_out}
use Rattle.bolt_base.proofs.change_laws.edges_are_counted.Goals as goal

pub returns : goal.returns
returns c = record {
  weights = edge_count;
  out = λ l g good. all_out g good.ends;
  into = λ l g good. all_in g good.ends;
}
