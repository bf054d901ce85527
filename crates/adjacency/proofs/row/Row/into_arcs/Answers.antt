use Rattle.std.proofs.Common.{ap, sym, ◌∙◌}
use Rattle.std.specs.FinMap as finite
use Rattle.adjacency.proofs.RowLemmas.{entries_row}
use Rattle.adjacency.proofs.row.Row.into_arcs.Goals as goal

pub returns : goal.returns
returns c = sym (entries_row _ c.self.invariant) ∙ ap finite.entries c.self.view_is
