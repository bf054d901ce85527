use Rattle.std.proofs.Common.{length, ap, ◌∙◌}
use Rattle.bolt_base.specs.RowTable.{RowTable}
use Rattle.run_model.proofs.Runs.{length-rows_to}
use Rattle.refine_examples.proofs.tails.history_at.Goals as goal

pub from_rows-requires : goal.from_rows-requires
from_rows-requires g c =
    ap (λ (t : RowTable). length t.rows) c.in_ok-rows.ensures.rows
    ∙ length-rows_to c.args.accepted.now c.args.graph.now.now c.args.cut
