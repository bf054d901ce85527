-- What the history of a run on a graph has.
use Rattle.std.proofs.Common.{◌≡◌, ℕ, pos, ◌<◌, ◌≤◌, get_or, sym, ap, ◌∙◌, arith}
use Rattle.bolt_base.specs.Graph.{Graph, vertices}
use Rattle.bolt_base.specs.Keep.{Entry}
use Rattle.bolt_base.specs.Keep as base
use Rattle.bolt_base.specs.RowTable.{entry_at}
use Rattle.bolt_base.specs.declared.answer.Choice.{Choice}
use Rattle.vertex_expr.specs.declared.program.ProgramEntries.{ProgramEntries}
use Rattle.run_model.specs.Kept.{kept}
use Rattle.run_model.specs.Rows.{agg_at, entry, rows_to, val_at}
use Rattle.agg_history.specs.Pruned.{HistoryState, rows_of, vertices_of}
use Rattle.refine_rows.specs.Progress.{StandsFor}
use Rattle.refine_rows.proofs.ReadLemmas.{old_entry, same_vertices}
use Rattle.round_engine.specs.EngineOf.{IsHistoryOf}

module _ (p : ProgramEntries) (choice : Choice) (g : Graph) (h : HistoryState)
    (is : IsHistoryOf p choice g h) where
  pub stands : StandsFor p g h
  stands = record { lanes = is.wide; rows = is.rows ∙ ap (rows_to p g) (sym is.upto) }

  pub count : vertices_of h ≡ vertices g
  count = same_vertices p g h stands

  pub kept_is : base.kept h.vertical (rows_of h) (vertices_of h)
      ≡ kept choice.vertical p g choice.cut
  kept_is = λ i. base.kept (is.as_chosen i) (is.rows i) (count i)

  module _ (i v l : ℕ) (low : i ≤ choice.cut) (there : v < vertices g) where
    entry_is : entry_at (rows_of h) i v ≡ entry p g i v
    entry_is = let cut = is.upto in old_entry p g h stands i v (omega arith) there

    pub value_is : get_or (entry_at (rows_of h) i v).1 l (pos 0) ≡ val_at p g i v l
    value_is = ap (λ (e : Entry). get_or e.1 l (pos 0)) entry_is

    pub agg_is : get_or (entry_at (rows_of h) i v).0 l (pos 0) ≡ agg_at p g i v l
    agg_is = ap (λ (e : Entry). get_or e.0 l (pos 0)) entry_is
