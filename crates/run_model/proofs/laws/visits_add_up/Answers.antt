use Rattle.bolt_base.proofs.Degrees.{all_in, all_out}
use Rattle.run_model.proofs.PullVisits.{are_read, pull_reads, tail_pull_reads, batch_visits_few}
use Rattle.run_model.proofs.VisitLemmas.{visits_of_items, visits_of_tail_items, items_visits-append}
use Rattle.run_model.proofs.VisitLemmas.{refine_more, tail_none, tail_more, within_both}
use Rattle.run_model.proofs.VisitLemmas.{within_twice}
use Rattle.run_model.proofs.laws.visits_add_up.Goals as goal

pub returns : goal.returns
returns c = record {
  items = visits_of_items;
  tail_items = visits_of_tail_items;
  append = items_visits-append;
  into = λ l g good. all_in g good.ends;
  out = λ l g good. all_out g good.ends;
  refine = refine_more;
  tail_first = tail_none;
  tail_next = tail_more;
  few = λ p s more g h. record {
    both = within_both p s more g h;
    twice = within_twice p s more g h;
  };
  vertices = are_read;
  pull = pull_reads;
  tail_pull = tail_pull_reads;
  batch_few = batch_visits_few;
}
