use Rattle.std.proofs.Common.{ap, ◌∙◌}
use Rattle.bolt_base.specs.Keep.{column, stored}
use Rattle.run_model.proofs.Gathering.{table_more}
use Rattle.core_rows.proofs.kept.stored_entries.Goals as goal

pub loop-v-preserved : goal.loop-v-preserved
loop-v-preserved c =
    table_more (λ v. stored c.args.vertical (column c.args.rows.now v)) c.loop-v.v c.loop-v.kept
    c.push.new.self c.in_ok-stored.field-0 c.in_ok-push.ensures.ok c.loop-v.invariant
    (c.in_ok-stored.ensures
    ∙ ap (stored c.args.vertical) (c.deref.ensures.value ∙ c.in_ok-entries.ensures))
