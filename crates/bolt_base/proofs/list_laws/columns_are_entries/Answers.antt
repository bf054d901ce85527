use Rattle.bolt_base.proofs.RowColumns.{length-column, column_at, same_rows}
use Rattle.bolt_base.proofs.list_laws.columns_are_entries.Goals as goal

pub returns : goal.returns
returns c = record {
  length = length-column;
  entries = column_at;
  rows = same_rows;
}
