-- Rows as pages.
use Rattle.std.proofs.Common.{◌≡◌, ℕ, ℤ, ◌+◌, ◌-◌, ◌<◌, ◌≤◌, T, List, [], ◌∷◌, ◌++◌, length, take}
use Rattle.std.proofs.Common.{drop, Option, sym, ap, ◌∙◌, subst, arith, length-take, length-drop}
use Rattle.std.specs.Ordering.{nat_cmp}
use Rattle.std.specs.FinMap as finite
use Rattle.std.specs.FinMap.{is_sorted}
use Rattle.adjacency.specs.Row.{RowMap, row_map, IsRow}
use Rattle.adjacency.specs.Merge.{merged}
use Rattle.adjacency.specs.Patched.{merged_row}
use Rattle.adjacency.proofs.RowLemmas.{entries_row, len_row}
use Rattle.adjacency.proofs.PatchLemmas.{row_merged}
use Rattle.adj_pages.specs.Index.{joined}
use Rattle.adj_pages.proofs.SortedLemmas.{sorted_take, sorted_drop, take_more}
use Rattle.adj_pages.proofs.IndexLemmas.{joined_push}

pub entries_patched : (r : RowMap) (ps : List (ℕ × Option ℤ)) → finite.entries (merged_row r ps)
    ≡ merged (finite.entries r) ps
entries_patched r ps = entries_row (merged (finite.entries r) ps)
    (row_merged (finite.entries r) ps (record { rising = finite.entries_sorted r }))

-- a row is told by its arcs
pub same_arcs : (r s : RowMap) → finite.entries r ≡ finite.entries s → r ≡ s
same_arcs r s e = finite.same_entries_map r s e

-- ---- a page of a list of arcs
module _ (arcs : List (ℕ × ℤ)) (row : IsRow arcs) (from upto : ℕ) where
  pub page_row : IsRow (take (upto - from) (drop from arcs))
  page_row = record {
    rising = sorted_take (upto - from) (drop from arcs)
        (sorted_drop from arcs row.rising);
  }

  pub cut_page : (pages : List RowMap) (p : RowMap) → from ≤ upto → joined pages ≡ take from arcs
      → p ≡ row_map (take (upto - from) (drop from arcs)) → joined (pages ++ p ∷ [])
      ≡ take upto arcs
  cut_page pages p l e f =
      joined_push pages p ∙ ap (λ xs. xs ++ finite.entries p) e
      ∙ ap (λ r. take from arcs ++ finite.entries r) f
      ∙ ap (λ xs. take from arcs ++ xs)
      (entries_row (take (upto - from) (drop from arcs)) page_row)
      ∙ sym (take_more from (upto - from) arcs)
      ∙ ap (λ k. take k arcs) (let g : from + (upto - from) ≡ upto = omega (arith, l) in g)

  pub cut_some : (p : RowMap) → from < upto → upto ≤ length arcs → p
      ≡ row_map (take (upto - from) (drop from arcs)) → 0 < finite.len p
  cut_some p l m e = omega (
    arith,
    l,
    m,
    ap finite.len e,
    len_row
        (take (upto - from) (drop from arcs)) page_row,
    length-take (upto - from) (drop from arcs),
    length-drop from arcs,
  )
