use Rattle.std.proofs.Common.{◌++◌, ◌∷◌, [], take, sym, ap, ◌∙◌, arith}
use Rattle.std.proofs.lemmas.List.{take_all}
use Rattle.bolt_base.specs.Keep.{column}
use Rattle.bolt_base.proofs.RowColumns.{length-column}
use Rattle.agg_history.specs.Entries.{Entries}
use Rattle.agg_history.specs.Puts.{laid_at}
use Rattle.agg_history.specs.Pruned.{rows_of}
use Rattle.agg_history.specs.Belongs.{laid_rows}
use Rattle.agg_history.proofs.MakeLemmas.{column_more}
use Rattle.agg_history.proofs.DraftLemmas.{laid_count, laid_entry}
use Rattle.agg_history.proofs.history.History.fill_laid.Goals as goal

pub loop-i-preserved : goal.loop-i-preserved
loop-i-preserved c =
    let laid = laid_rows c.args.overlay.now c.args.self.now in
    let pushed = c.in_ok-push_laid.ensures in
    record {
      all = ap (λ (e : Entries). e.all) pushed
          ∙ ap (λ es. es ++ laid_at c.args.overlay.now.puts
          (rows_of c.args.self.now) c.loop-i.i c.args.v ∷ []) c.loop-i.invariant.all
          ∙ ap (λ e. take c.loop-i.i (column laid c.args.v) ++ e ∷ [])
          (sym (laid_entry c.args.overlay.now c.args.self.now c.loop-i.i c.args.v
          (omega (arith, c.loop-i.invariant.end)) c.requires.vertex))
          ∙ sym (column_more laid c.args.v c.loop-i.i
          (omega (
            arith,
            laid_count c.args.overlay.now c.args.self.now,
            c.loop-i.invariant.end,
          )));
      lanes = ap (λ (e : Entries). e.lanes) pushed ∙ c.loop-i.invariant.lanes;
      end = c.loop-i.invariant.end;
    }

pub returns : goal.returns
returns c =
    let laid = laid_rows c.args.overlay.now c.args.self.now in
    let all = c.loop-i.invariant.all
    ∙ take_all c.loop-i.i (column laid c.args.v)
    (omega (
      arith,
      length-column laid c.args.v,
      laid_count c.args.overlay.now c.args.self.now,
      c.loop-i.invariant.end,
    )) in
    λ i. record { lanes = c.loop-i.invariant.lanes i; all = all i }
