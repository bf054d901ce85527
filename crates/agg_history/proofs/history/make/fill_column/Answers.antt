use Rattle.std.proofs.Common.{◌<◌, ◌++◌, ◌∷◌, [], length, take, sym, ap, ◌∙◌, arith}
use Rattle.bolt_base.specs.Keep.{column}
use Rattle.bolt_base.specs.RowTable.{RowTable}
use Rattle.bolt_base.proofs.RowShapes.{entry_wide}
use Rattle.agg_history.specs.Entries.{Entries}
use Rattle.agg_history.proofs.MakeLemmas.{column_more}
use Rattle.agg_history.proofs.history.make.fill_column.Goals as goal

pub agg_of-requires-clause-wide : goal.agg_of-requires-clause-wide
agg_of-requires-clause-wide c =
    let t : RowTable = c.args.rows.now in
    let below : c.loop-i.i < length t.rows = omega (arith, c.loop-i.invariant.end) in
    (entry_wide t.lanes t.vertices t.rows c.loop-i.i c.args.v c.requires.shape.full
    c.requires.shape.wide below c.requires.vertex).agg

pub val_of-requires-clause-wide : goal.val_of-requires-clause-wide
val_of-requires-clause-wide c =
    let t : RowTable = c.args.rows.now in
    let below : c.loop-i.i < length t.rows = omega (arith, c.loop-i.invariant.end) in
    (entry_wide t.lanes t.vertices t.rows c.loop-i.i c.args.v c.requires.shape.full
    c.requires.shape.wide below c.requires.vertex).val

pub loop-i-preserved : goal.loop-i-preserved
loop-i-preserved c =
    let t : RowTable = c.args.rows.now in
    let below : c.loop-i.i < length t.rows = omega (arith, c.loop-i.invariant.end) in
    let pushed = c.in_ok-push.ensures.ok in
    record {
      all = ap (λ (e : Entries). e.all) pushed
          ∙ ap (λ es. es ++ (c.agg_of.result, c.val_of.result) ∷ []) c.loop-i.invariant.all
          ∙ (λ i. take c.loop-i.i (column t.rows c.args.v)
          ++ (c.agg_of.ensures i, c.val_of.ensures i) ∷ [])
          ∙ sym (column_more t.rows c.args.v c.loop-i.i below);
      lanes = ap (λ (e : Entries). e.lanes) pushed ∙ c.loop-i.invariant.lanes;
      end = c.loop-i.invariant.end;
    }
