-- What a prepared batch leads to.
use Rattle.std.proofs.Common.{◌≡◌, Option, Some, None, IsSome, refl, sym, ap, ◌∙◌, subst}
use Rattle.bolt_base.specs.Graph.{Graph}
use Rattle.adjacency.specs.ChangeOf.{IsChange}
use Rattle.adjacency.specs.Out.{IsOut}
use Rattle.adjacency.specs.State.{State}
use Rattle.bolt_base.specs.declared.answer.Choice.{Choice}
use Rattle.vertex_expr.specs.declared.program.ProgramEntries.{ProgramEntries}
use Rattle.run_model.specs.Rows.{rows_to}
use Rattle.agg_history.specs.Belongs.{laid_rows}
use Rattle.agg_history.specs.Pruned.{HistoryState, Pruned, rows_of}
use Rattle.agg_history.specs.Puts.{PutTable, laid_over}
use Rattle.round_engine.specs.EngineOf.{IsHistoryOf, graph_next, graph_read, next_of, read_of}
use Rattle.round_engine.specs.Prepared.{IsPreparedBy, LeadsTo}
use Rattle.round_engine.specs.State.{EngineState}
use Rattle.round_engine.specs.declared.prepared.Prepared.{Prepared}

next_some : (now : Graph) (before : Option Graph) → IsSome (graph_next now before)
    → graph_next now before ≡ Some now
next_some now None h = cc
next_some now (Some g) h = refl

before_some : (now : Graph) (before : Option Graph) → IsSome (graph_next now before)
    → IsSome before
before_some now None h = cc
before_some now (Some g) h = refl

module _ (gs : State) (s : EngineState) (x : Prepared) (reads : read_of gs ≡ s.now)
    (next : next_of gs ≡ s.next) (prepared : IsPreparedBy s x) where
  some : IsSome (next_of gs)
  some = subst IsSome (sym next) prepared.some

  pub leads_now : LeadsTo s gs.now x
  leads_now = prepared.leads gs.now (sym next ∙ next_some gs.now gs.before some)

  pub is_out : IsOut gs x.change
  is_out = record {
    is_some = before_some gs.now gs.before some;
    lists = λ g is. subst (λ (h : Graph). IsChange h gs.now x.change)
        (sym reads ∙ ap (graph_read gs.now) is) leads_now.net;
  }

-- the history once the overlay is laid over it
pub committed : (p : ProgramEntries) (choice : Choice) (g h : Graph) (old new : HistoryState)
    (t : PutTable) (made : Pruned) → IsHistoryOf p choice g old
    → laid_over t.vertices t.puts (rows_to p g choice.cut) ≡ rows_to p h choice.cut
    → rows_of new ≡ laid_rows t old → new ≡ record old { now = made; next = None }
    → IsHistoryOf p choice h new
committed p choice g h old new t made begun laid rows state = record {
  as_chosen = ap (λ (x : HistoryState). x.vertical) state ∙ begun.as_chosen;
  upto = ap (λ (x : HistoryState). x.cut) state ∙ begun.upto;
  wide = ap (λ (x : HistoryState). x.lanes) state ∙ begun.wide;
  rows = rows ∙ ap (laid_over t.vertices t.puts) begun.rows ∙ laid;
}
