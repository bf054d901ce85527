use Rattle.std.proofs.Common.{◌∙◌, ◌++◌, List, ℕ, ℤ, ap}
use Rattle.std.specs.Prelude.{codes}
use Rattle.report_text.specs.Values.{value_line, vertex_line}
use Rattle.report_text.proofs.Ranges.{text_more}
use Rattle.report_text.proofs.values.push_values.Goals as goal

pub loop-v-preserved : goal.loop-v-preserved
loop-v-preserved g c =
    text_more (value_line (g.V.ValueRow.values c.args.row.now)) c.loop-v.v c.args.out.now
    c.loop-v.out
    c.push_vertex.new.out c.loop-v.invariant
    (c.in_ok-push_vertex.ensures
    ∙ ap (λ (xs : List ℤ). c.loop-v.out ++ vertex_line (codes "value ") c.loop-v.v xs)
    c.value.ensures.value)
