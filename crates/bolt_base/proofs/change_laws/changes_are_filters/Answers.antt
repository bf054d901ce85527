use Rattle.bolt_base.proofs.EdgeParts.{removed-filter, added-filter, stayed-filter}
use Rattle.bolt_base.proofs.EdgeParts.{old_edges_counted, new_edges_counted}
use Rattle.bolt_base.proofs.change_laws.changes_are_filters.Goals as goal

pub returns : goal.returns
returns c = record {
  removed = removed-filter;
  added = added-filter;
  stayed = stayed-filter;
  old_count = old_edges_counted;
  new_count = new_edges_counted;
}
