-- What the rows that are kept have.
use Rattle.std.proofs.Common.{◌≡◌, ℕ, ◌+◌, ◌<◌, ◌≤◌, length, sym, ap, ◌∙◌, arith}
use Rattle.std.specs.Prelude.{IsSome}
use Rattle.std.specs.List.{range_with_len}
use Rattle.std.proofs.Common.{map}
use Rattle.std.proofs.lemmas.List.FromFn.{length-map-range_with_len}
use Rattle.bolt_base.specs.Graph.{Graph, vertices}
use Rattle.bolt_base.specs.RowTable.{entry_at}
use Rattle.vertex_expr.specs.declared.program.ProgramEntries.{ProgramEntries}
use Rattle.run_model.specs.Rows.{entry}
use Rattle.run_model.proofs.RefinedRows.{row_entry}
use Rattle.agg_history.specs.Pruned.{HistoryState, read_at, rows_of, vertices_of}
use Rattle.agg_history.specs.Puts.{PutTable, laid_at, put_at}
use Rattle.agg_history.proofs.PutLemmas.{laid_reads}
use Rattle.hybrid_tail.specs.Keeping.{AreKept}

module _ (p : ProgramEntries) (h : Graph) (history : HistoryState) (t : PutTable)
    (kept : AreKept p h history t) (i v : ℕ) (low : i ≤ history.cut) (there : v < vertices h)
  where
    -- a new vertex was put
    pub new_put : t.old_vertices ≤ v → IsSome (put_at t.puts i v)
    new_put past =
        let cuts = kept.refined.belongs.cut in
        let count = kept.refined.vertices in
        kept.refined.new i v (omega arith) past (omega arith)

    pub kept_entry : laid_at t.puts (rows_of history) i v ≡ entry p h i v
    kept_entry =
        let long : length (rows_of history) ≡ history.cut + 1 =
        length-map-range_with_len
        (λ k. map (read_at history.now k) (range_with_len 0 (vertices_of history))) 0
        (history.cut + 1) in
        let count = kept.refined.vertices in
        sym (laid_reads t.vertices t.puts (rows_of history) i v (omega arith) (omega arith))
        ∙ ap (λ rows. entry_at rows i v) kept.refined.laid
        ∙ row_entry p h history.cut i v low there
