-- What refined rows lead to.
use Rattle.std.proofs.Common.{◌≡◌, ◌+◌, Some, sym, ap, ◌∙◌}
use Rattle.bolt_base.specs.Graph.{Graph}
use Rattle.bolt_base.specs.declared.answer.Choice.{Choice}
use Rattle.vertex_expr.specs.declared.program.ProgramEntries.{ProgramEntries}
use Rattle.run_model.specs.Rows.{rows_to}
use Rattle.adjacency.specs.declared.change.Change.{Change}
use Rattle.agg_history.specs.Belongs.{Fits, laid_rows}
use Rattle.agg_history.specs.Pruned.{HistoryState, pruned}
use Rattle.agg_history.specs.Puts.{PutTable, laid_over}
use Rattle.refine_rows.specs.Progress.{IsRefinedTo}
use Rattle.refine_rows.specs.Refining.{IsRefinedBy}
use Rattle.refine_rows.proofs.PutLemmas.{ends}
use Rattle.round_engine.specs.Parts.{IsStepOf}

module _ (p : ProgramEntries) (choice : Choice) (g h : Graph) (change : Change)
    (history : HistoryState) (leads : IsStepOf p choice g h change history) (t : PutTable)
    (to : IsRefinedTo p g h history t (history.cut + 1)) where
  pub refined_by : IsRefinedBy p h history t
  refined_by = ends p g h history t leads.over to

  laid_new : laid_rows t history ≡ rows_to p h choice.cut
  laid_new = refined_by.laid ∙ ap (rows_to p h) leads.begun.upto

  pub laid_is : laid_over t.vertices t.puts (rows_to p g choice.cut) ≡ rows_to p h choice.cut
  laid_is = ap (laid_over t.vertices t.puts) (sym leads.begun.rows) ∙ laid_new

  pub next_is : (new : HistoryState) → Fits t new → new ≡ record history { next = new.next }
      → new.next ≡ Some (pruned choice.vertical (rows_to p h choice.cut))
  next_is new fits same =
      let vertical = ap (λ (x : HistoryState). x.vertical) same ∙ leads.begun.as_chosen in
      let rows = ap (λ (x : HistoryState). laid_rows t x) same ∙ laid_new in
      fits ∙ (λ i. Some (pruned (vertical i) (rows i)))
