use Rattle.bolt_base.proofs.EdgeMap.{pairs_total, pairs_exact}
use Rattle.bolt_base.proofs.list_laws.pairs_are_ordered.Goals as goal

pub returns : goal.returns
returns c = record {
  order = pairs_total;
  apart = pairs_exact;
}
