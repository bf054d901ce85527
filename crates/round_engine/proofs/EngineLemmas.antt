-- An engine's parts, in terms of what it stands for.
use Rattle.std.proofs.Common.{◌≡◌, ℕ, pos, ◌<◌, ◌≤◌, Option, Some, None, get_or, length, refl, sym}
use Rattle.std.proofs.Common.{ap, ◌∙◌, subst}
use Rattle.bolt_base.specs.Graph.{Graph, IsGood, edges, vertices, within}
use Rattle.bolt_base.specs.Keep as base
use Rattle.bolt_base.specs.RowTable.{entry_at}
use Rattle.run_model.specs.Kept.{kept}
use Rattle.run_model.specs.Rows.{Lists, agg_at, answer, rows_to, val_at}
use Rattle.adjacency.specs.State.{State}
use Rattle.agg_words.specs.Facts.{SeatFacts}
use Rattle.agg_words.specs.Known.{IsClear}
use Rattle.agg_history.specs.Pruned.{HistoryState, rows_of, vertices_of}
use Rattle.round_engine.specs.EngineOf.{IsAnswerOf, IsEngine, IsHistoryOf, IsNextOf, engine_of}
use Rattle.round_engine.specs.EngineOf.{graph_next, graph_read, next_of, read_of}
use Rattle.round_engine.specs.State.{EngineState}
use Rattle.round_engine.specs.declared.engine.Engine.TheInside.{Inside}
use Rattle.round_engine.proofs.HistoryLemmas as history

module _ (e : Inside) (s : EngineState) (view : engine_of e ≡ s) (ok : IsEngine e) where
  pub history_is : IsHistoryOf s.program s.choice s.now e.history
  history_is = subst (λ (x : EngineState). IsHistoryOf x.program x.choice x.now e.history) view
      ok.kept_now

  pub count : vertices_of e.history ≡ vertices s.now
  count = history.count s.program s.choice s.now e.history history_is

  pub kept_is : base.kept e.history.vertical (rows_of e.history) (vertices_of e.history)
      ≡ kept s.choice.vertical s.program s.now s.choice.cut
  kept_is = history.kept_is s.program s.choice s.now e.history history_is

  pub value_is : (i v l : ℕ) → i ≤ s.choice.cut → v < vertices s.now
      → get_or (entry_at (rows_of e.history) i v).1 l (pos 0) ≡ val_at s.program s.now i v l
  value_is = history.value_is s.program s.choice s.now e.history history_is

  pub agg_is : (i v l : ℕ) → i ≤ s.choice.cut → v < vertices s.now
      → get_or (entry_at (rows_of e.history) i v).0 l (pos 0) ≡ agg_at s.program s.now i v l
  agg_is = history.agg_is s.program s.choice s.now e.history history_is

  pub answer_some : (xs : Lists) → e.answer ≡ Some xs → xs ≡ answer s.program s.now
  answer_some xs is = subst (λ (x : EngineState). xs ≡ answer x.program x.now) view
      (subst (IsAnswerOf e.accepted e.choice (read_of e.graph)) is ok.answered)

  pub answer_none : e.answer ≡ None → s.choice.cut ≡ s.program.rounds
  answer_none is = subst (λ (x : EngineState). x.choice.cut ≡ x.program.rounds) view
      (subst (IsAnswerOf e.accepted e.choice (read_of e.graph)) is ok.answered)

-- ---- a graph is read as before
none_before : (now : Graph) (before : Option Graph) → graph_next now before ≡ None → before ≡ None
none_before now None h = refl
none_before now (Some g) h = cc

pub read_idle : (gs : State) → next_of gs ≡ None → read_of gs ≡ gs.now
read_idle gs none = ap (graph_read gs.now) (none_before gs.now gs.before none)

module _ (e : Inside) (ok : IsEngine e) (gs : State) (history : HistoryState) (seat : SeatFacts)
    (same : read_of gs ≡ read_of e.graph) (limits : gs.limits ≡ e.graph.limits)
    (kept : history ≡ record e.history { next = history.next })
    (next : IsNextOf e.accepted e.choice (next_of gs) history)
    (table : seat.table ≡ e.seat.table) (clear : IsClear e.words.layout seat.view) where
  -- and so an engine with another next graph stays one
  pub still : IsEngine (record e { graph = gs; history = history; seat = seat })
  still = record {
    safe = ok.safe;
    chosen = ok.chosen;
    bounded = limits ∙ ok.bounded;
    fine = subst (IsGood (within e.accepted.limits e.opened)) (sym same) ok.fine;
    counted = ok.counted ∙ ap (λ (g : Graph). length (edges g)) (sym same);
    kept_now = record {
      as_chosen = ap (λ (h : HistoryState). h.vertical) kept ∙ ok.kept_now.as_chosen;
      upto = ap (λ (h : HistoryState). h.cut) kept ∙ ok.kept_now.upto;
      wide = ap (λ (h : HistoryState). h.lanes) kept ∙ ok.kept_now.wide;
      rows = ap (λ (h : HistoryState). rows_of h) kept ∙ ok.kept_now.rows
          ∙ ap (λ (g : Graph). rows_to e.accepted g e.choice.cut) (sym same);
    };
    kept_next = next;
    answered = subst (λ (g : Graph). IsAnswerOf e.accepted e.choice g e.answer) (sym same)
        ok.answered;
    laid_out = ok.laid_out;
    seated = table ∙ ok.seated;
    clear = clear;
  }
