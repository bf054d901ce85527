use Rattle.bolt_base.proofs.Order.{fold-graph_of}
use Rattle.bolt_base.proofs.laws.order_is_free.Goals as goal

pub returns : goal.returns
returns g c = record {
  law = λ step start attrs es swap apart. fold-graph_of step start attrs es
      swap apart;
}
