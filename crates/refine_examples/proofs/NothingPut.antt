-- Rows with nothing put over them are refined to themselves.
use Rattle.std.proofs.Common.{◌≡◌, ℕ, ◌+◌, ◌≤◌, List, [], length, get_or, map, replicate}
use Rattle.std.proofs.Common.{refl, sym, ap, ◌∙◌, subst, arith}
use Rattle.std.specs.List.Sorted.{IsSorted}
use Rattle.std.specs.Ordering.{nat_cmp}
use Rattle.std.proofs.lemmas.List.{get_or-replicate}
use Rattle.std.proofs.lemmas.List.FromFn.{get_or-map-range_with_len}
use Rattle.bolt_base.specs.Graph.{Graph, vertices}
use Rattle.bolt_base.specs.Keep.{Entry, Row}
use Rattle.bolt_base.specs.RowShape.{AreFull}
use Rattle.bolt_base.specs.RowTable.{entry_at}
use Rattle.vertex_expr.specs.declared.program.ProgramEntries.{ProgramEntries}
use Rattle.run_model.specs.Program.{lanes}
use Rattle.run_model.specs.Rows.{entries, rows_to}
use Rattle.run_model.proofs.Runs.{length-rows_to}
use Rattle.agg_history.specs.Pruned.{HistoryState, rows_of}
use Rattle.agg_history.specs.Puts.{PutTable, Round, no_puts_for}
use Rattle.agg_history.proofs.PutLemmas.{laid_new, none_put}
use Rattle.refine_rows.specs.Progress.{StandsFor}
use Rattle.refine_rows.specs.Refining.{IsRefinedBy}
use Rattle.refine_rows.proofs.ReadLemmas.{entries_long, same_vertices}

rows_full : (p : ProgramEntries) (h : Graph) (cut : ℕ) → AreFull (vertices h) (rows_to p h cut)
rows_full p h cut k d small =
    let long = length-rows_to p h cut in
    ap length (get_or-map-range_with_len (entries p h) 0 (cut + 1) k k d (omega arith)
    (omega arith))
    ∙ entries_long p h k

module _ (p : ProgramEntries) (h : Graph) (history : HistoryState)
    (stands : StandsFor p h history) (one : lanes p ≡ 1) where
  empty_refined : (n : ℕ) → n ≡ vertices h
      → IsRefinedBy p h history (no_puts_for n n 1 history.cut)
  empty_refined n count =
      let none : (i : ℕ) → i ≤ history.cut
      → get_or (replicate {A = Round} (history.cut + 1) []) i [] ≡ [] =
      λ i low. get_or-replicate (history.cut + 1) i [] [] (omega arith) in
      record {
        belongs = record {
          vertices = count ∙ sym (same_vertices p h history stands);
          lanes = sym one ∙ sym stands.lanes;
          cut = refl;
        };
        vertices = count;
        new = λ i v low past small. absurd (omega arith);
        laid =
            laid_new n (replicate (history.cut + 1) []) (rows_of history) (rows_to p h history.cut)
            (ap length stands.rows)
            (subst (λ k. AreFull k (rows_to p h history.cut)) (sym count)
            (rows_full p h history.cut))
            (record {
              right = λ i v e low small found. absurd
                  (let k = sym (none_put (history.cut + 1) i v) ∙ found in cc);
              rest = λ i v low small found. ap (λ (rows : List Row). entry_at rows i v)
                  stands.rows;
            });
        rising = λ i low. subst (IsSorted nat_cmp)
            (sym (ap (map (λ (put : ℕ × Entry). put.0)) (none i low)))
            (λ k d a b. absurd (omega arith));
      }

  pub nothing_refined : (t : PutTable) (n : ℕ) → n ≡ vertices h
      → t ≡ no_puts_for n n 1 history.cut → IsRefinedBy p h history t
  nothing_refined t n count is = subst (IsRefinedBy p h history) (sym is) (empty_refined n count)
