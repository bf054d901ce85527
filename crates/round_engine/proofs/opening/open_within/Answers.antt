use Rattle.std.proofs.Common.{◌+◌, ◌∙◌, length, ap}
use Rattle.std.proofs.lemmas.List.FromFn.{length-map-range_with_len}
use Rattle.bolt_base.specs.RowTable.{RowTable}
use Rattle.run_model.specs.Rows.{entries}
use Rattle.round_engine.proofs.opening.open_within.Goals as goal

pub from_rows-requires : goal.from_rows-requires
from_rows-requires g c =
    ap (λ (t : RowTable). length t.rows) c.in_ok-rows.ensures.rows
    ∙ length-map-range_with_len (entries c.args.accepted c.in_ok-graph.graph.now) 0
    (c.args.choice.cut + 1)
