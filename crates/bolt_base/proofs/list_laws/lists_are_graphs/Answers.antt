use Rattle.bolt_base.proofs.BareGraphs.{bare_good}
use Rattle.bolt_base.proofs.PlainLists.{get-graph_of, graph_of_push, apart_push, length-graph_of}
use Rattle.bolt_base.proofs.PlainLists.{length-filter-graph_of, fold-filter-graph_of}
use Rattle.bolt_base.proofs.list_laws.lists_are_graphs.Goals as goal

pub returns : goal.returns
returns g c = record {
  weights = get-graph_of;
  push = graph_of_push;
  apart = apart_push;
  count = λ attrs es p apart. length-filter-graph_of p attrs es apart;
  length = length-graph_of;
  folds = λ step start p attrs es swap apart. fold-filter-graph_of p step swap start attrs es apart;
  bare = bare_good;
}
