use Rattle.bolt_base.proofs.RowColumns.{keep_below, length-stored, sum_kept}
use Rattle.bolt_base.proofs.list_laws.stored_are_counted.Goals as goal

pub returns : goal.returns
returns c = record {
  below = keep_below;
  length = length-stored;
  sum = sum_kept;
}
