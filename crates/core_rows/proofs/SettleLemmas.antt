-- The aggregates of an iteration that can be applied, and its row.
use Rattle.std.proofs.Common.{◌≡◌, ℕ, ◌-◌, ◌<◌, ◌≤◌, true, false, cond, List, [], length}
use Rattle.std.proofs.Common.{map, get_or, suc, refl, sym, ap, ◌∙◌, subst, arith, inl, inr}
use Rattle.std.specs.List.{zip}
use Rattle.std.proofs.lemmas.Bool.{cases_lt, cond-false, cond-true, ltb-false}
use Rattle.std.proofs.lemmas.List.FromFn.{length-map-range_with_len}
use Rattle.std.proofs.lemmas.Slice.Zip.{firsts-zip}
use Rattle.bolt_base.specs.Graph.{Graph, vertices}
use Rattle.bolt_base.specs.Keep.{Entry, Row}
use Rattle.bolt_base.specs.RowTable.{entry_at}
use Rattle.bolt_base.specs.declared.answer.Choice.{Choice}
use Rattle.vertex_expr.specs.ProgramBounds.{aggregated}
use Rattle.vertex_expr.specs.Span.{AreIn}
use Rattle.vertex_expr.specs.declared.program.ProgramEntries.{ProgramEntries}
use Rattle.range_check.specs.Gathered.{empty_of}
use Rattle.run_model.specs.Kept.{stored}
use Rattle.run_model.specs.Program.{lanes, by_lane, is_sum}
use Rattle.run_model.specs.Refined.{row_values}
use Rattle.run_model.specs.Rows.{Lists, aggr, applied, at, each_vertex, entries, gathered, row}
use Rattle.run_model.specs.Steps.{is_new}
use Rattle.run_model.proofs.InRange.{aggregates_in, at_vertex, length-by_lane}
use Rattle.run_model.proofs.Iteration.{new_is}
use Rattle.run_model.proofs.RefinedRows.{row_entry}
use Rattle.run_model.proofs.RowLemmas.{aggregates_whole, values_whole}
use Rattle.run_model.proofs.Still.{not_new}
use Rattle.core_model.specs.Iterations.{had_agg, is_tail, last_values, next_agg, next_aggs, next_row}
use Rattle.core_model.specs.Iterations.{next_value, next_values, stored_entry, with_words}
use Rattle.core_model.specs.State.{Given, Work}
use Rattle.core_model.proofs.RowSteps.{next_row_is, stored_is, values_of_rows}
use Rattle.core_rows.specs.Settling.{CanSettle, given_of}
use Rattle.core_rows.proofs.EntryLemmas.{each_same, entry_values, length-entries, row_in}

module _ (p : ProgramEntries) (choice : Choice) (g : Graph) (kept : List (List Entry)) (w : Work)
    (can : CanSettle p choice g kept w) where
  abbrev c : Given
  c = given_of p choice g

  abbrev h : Graph
  h = w.graph

  abbrev i : ℕ
  i = w.iteration

  pub kept_long : length kept ≡ vertices g
  kept_long = ap length can.stored
      ∙ length-map-range_with_len (stored choice.vertical p g choice.cut) 0 (vertices g)

  last_row : get_or w.rows (i - 1) [] ≡ entries p h (i - 1)
  last_row = ap (λ (l : List Row). get_or l (i - 1) []) can.rows
      ∙ row_in p h (i - 1) (i - 1) (omega arith)

  pub last_long : length (get_or w.rows (i - 1) []) ≡ vertices h
  last_long = ap length last_row ∙ length-entries p h (i - 1)

  pub last_is : last_values w ≡ row p h (i - 1)
  last_is = ap (λ (l : List Row). row_values (vertices h) l (i - 1)) can.rows
      ∙ values_of_rows p h (i - 1)

  -- the values of the last row
  pub read_is : map (λ (e : Entry). e.1) (get_or w.rows (i - 1) []) ≡ row p h (i - 1)
  read_is = ap (map (λ (e : Entry). e.1)) last_row ∙ entry_values p h (i - 1)

  -- ---- an aggregate has a number for each lane
  agg_long : (x : Graph) (j v : ℕ) → v < vertices x → length (at (aggr p x j) v) ≡ lanes p
  agg_long x j v there = let n = (aggregates_whole p x j).each_vertex in
      (aggregates_whole p x j).each_lane v [] (omega arith)

  had_before : (v : ℕ) → i ≤ choice.cut
      → length (cond (is_new g v) (by_lane p (λ _. empty_of p.combine))
      (stored_entry c g kept i v).0) ≡ lanes p
  had_before v low = elim (cases_lt v (vertices g)) [
    | inl there ↦
        ap (λ b. length (cond b (by_lane p (λ _. empty_of p.combine))
        (stored_entry c g kept i v).0)) (not_new (vertices g) v there)
        ∙ ap (λ (l : List (List Entry)). length (stored_entry c g l i v).0) can.stored
        ∙ ap (λ (e : Entry). length e.0) (stored_is c g i v low there)
        ∙ agg_long g i v there
    | inr past ↦
        ap (λ b. length (cond b (by_lane p (λ _. empty_of p.combine))
        (stored_entry c g kept i v).0)) (new_is g v past)
        ∙ length-by_lane p (λ _. empty_of p.combine)
  ]

  pub had_long : (v : ℕ) → v < vertices h → length (had_agg c g kept w v) ≡ lanes p
  had_long v there =
      elim (is_tail c i) as (λ b. is_tail c i ≡ b
      → length (cond b (entry_at w.rows (i - 1) v).0
      (cond (is_new g v) (by_lane p (λ _. empty_of p.combine)) (stored_entry c g kept i v).0))
      ≡ lanes p) [
        | true ↦ λ t. ap (λ (l : List Row). length (entry_at l (i - 1) v).0) can.rows
            ∙ ap (λ (e : Entry). length e.0)
            (row_entry p h (i - 1) (i - 1) v (omega arith) there)
            ∙ agg_long h (i - 1) v there
        | false ↦ λ t. had_before v (ltb-false choice.cut i t)
      ] refl

  -- ---- the row
  next_is : next_row c g kept w ≡ entries p h i
  next_is = ap (λ (l : List (List Entry)). next_row c g l w) can.stored
      ∙ next_row_is c can.may g can.may.good w can.new can.some can.within can.rows can.words

  aggs_are : next_aggs c g kept w ≡ aggr p h i
  aggs_are =
      sym (firsts-zip (next_aggs c g kept w) (next_values c g kept w)
      (length-map-range_with_len (next_value c g kept w) 0 (vertices h)
      ∙ sym (length-map-range_with_len (next_agg c g kept w) 0 (vertices h))))
      ∙ ap (map (λ (e : Entry). e.0)) next_is
      ∙ firsts-zip (aggr p h i) (row p h i)
      ((values_whole p h i).each_vertex ∙ sym (aggregates_whole p h i).each_vertex)

  pub aggs_in : (v : ℕ) → v < vertices h → AreIn (aggregated p) (at (next_aggs c g kept w) v)
  aggs_in v there =
      let some = can.some in
      let e : suc (i - 1) ≡ i = omega arith in
      subst (λ (l : Lists). AreIn (aggregated p) (at l v)) (sym aggs_are)
      (subst (λ (j : ℕ). AreIn (aggregated p) (at (aggr p h j) v)) e
      (aggregates_in p h can.may.safe can.new (i - 1) v there))

  pub aggs_long : length (next_aggs c g kept w) ≡ vertices h
  aggs_long = length-map-range_with_len (next_agg c g kept w) 0 (vertices h)

  pub row_made : (vals : Lists) → vals ≡ row p h (i - 1)
      → zip (next_aggs c g kept w)
      (each_vertex h (λ v. applied p h (at (next_aggs c g kept w) v) (at vals v) v))
      ≡ next_row c g kept w
  row_made vals read = ap (zip (next_aggs c g kept w))
      (each_same h (λ v. applied p h (at (next_aggs c g kept w) v) (at vals v) v)
      (next_value c g kept w)
      (λ v there j. applied p h (at_vertex h (next_agg c g kept w) v there j)
      (at ((read ∙ sym last_is) j) v) v))

  -- ---- where contributions aren't added
  pub gathered_is : (vals : Lists) → vals ≡ row p h (i - 1) → is_sum p.combine ≡ false
      → each_vertex h (gathered p h vals) ≡ next_aggs c g kept w
  gathered_is vals read other = each_same h (gathered p h vals) (next_agg c g kept w)
      (λ v there. ap (λ (l : Lists). gathered p h l v) (read ∙ sym last_is)
      ∙ sym (cond-false (is_sum p.combine) (with_words c w.words (had_agg c g kept w v) v)
      (gathered p h (last_values w) v) other))

  pub summed_is : is_sum p.combine ≡ true → (v : ℕ)
      → with_words c w.words (had_agg c g kept w v) v ≡ next_agg c g kept w v
  summed_is sum v = sym (cond-true (is_sum p.combine)
      (with_words c w.words (had_agg c g kept w v) v) (gathered p h (last_values w) v) sum)
