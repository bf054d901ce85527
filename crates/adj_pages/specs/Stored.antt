-- What a row stands for, however it is stored.
use Rattle.std.specs.Prelude.{box_value}
use Rattle.std.specs.FinMap as finite
use Rattle.adjacency.specs.Row.{RowMap}
use Rattle.adj_pages.specs.declared.paged_row.Form.{Form}
use Rattle.adj_pages.specs.declared.paged_row.Form.TheVariants.{Empty, One, Many}

abbrev pub stored : Form → RowMap
stored Empty = finite.empty
stored (One row) = box_value row
stored (Many lists) = box_value lists
