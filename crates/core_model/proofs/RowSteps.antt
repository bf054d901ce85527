-- The row that an iteration leads to is the next one from scratch.
use Rattle.std.proofs.Common.{◌≡◌, ℕ, ℤ, pos, ◌+◌, ◌-◌, ◌<◌, ◌≤◌, ◌+ℤ◌, true, false}
use Rattle.std.proofs.Common.{cond, List, [], ◌∷◌, ◌++◌, length, map, refl, sym, ap, ◌∙◌}
use Rattle.std.proofs.Common.{arith, inl, inr, w64}
use Rattle.std.specs.Int.{cast_signed, int_wrap}
use Rattle.std.specs.List.{range_with_len, zip}
use Rattle.std.proofs.lemmas.Bool.{cases_lt, ltb-true, ltb-false}
use Rattle.std.proofs.lemmas.List.FromFn.{fill_by_all, get_or-map-range_with_len}
use Rattle.std.proofs.lemmas.List.FromFn.{map-range_with_len_more}
use Rattle.bolt_base.specs.Graph.{Graph, IsGood, vertices}
use Rattle.bolt_base.specs.Keep.{Entry, Row, read}
use Rattle.bolt_base.specs.Residue.{sum_at}
use Rattle.bolt_base.specs.RowTable.{entry_at}
use Rattle.bolt_base.proofs.RowColumns.{column_read}
use Rattle.vertex_expr.specs.declared.program.ProgramEntries.{ProgramEntries}
use Rattle.range_check.specs.Gathered.{empty_of}
use Rattle.run_model.specs.Additions.{adds, tail_adds, word}
use Rattle.run_model.specs.Kept.{stored}
use Rattle.run_model.specs.Program.{lanes, by_lane, number, zeros, is_sum}
use Rattle.run_model.specs.Refined.{row_values}
use Rattle.run_model.specs.Rows.{Lists, at, gathered, begun, applied, row, aggr, agg_at}
use Rattle.run_model.specs.Rows.{entry, entries, rows_to}
use Rattle.run_model.specs.Steps.{is_new, old_agg}
use Rattle.run_model.proofs.InRange.{at_lane, length-by_lane}
use Rattle.run_model.proofs.Iteration.{aggr_is, row_is, new_is}
use Rattle.run_model.proofs.RefinedRows.{row_entry}
use Rattle.run_model.proofs.Refinement.{taken_sums_refined, tail_taken_sums_refined}
use Rattle.run_model.proofs.RowLemmas.{row_begins, values_whole, aggregates_whole}
use Rattle.run_model.proofs.Runs.{length-rows_to}
use Rattle.run_model.proofs.Still.{not_new}
use Rattle.vertex_expr.specs.declared.program.Combine.{Combine}
use Rattle.vertex_expr.specs.declared.program.Combine.TheVariants.{Sum, Min, Max}
use Rattle.core_model.specs.Iterations.{additions, had_agg, is_tail, last_values, next_agg}
use Rattle.core_model.specs.Iterations.{next_aggs, next_row, next_value, next_values, stored_entry}
use Rattle.core_model.specs.Iterations.{with_words, word_in}
use Rattle.core_model.specs.Machine.{stored_of}
use Rattle.core_model.specs.Rules.{MayRun}
use Rattle.core_model.specs.State.{Given, Work}

pub is_added : (c : Combine) → is_sum c ≡ true → c ≡ Sum
is_added Sum t = refl
is_added (Min e) t = absurd (cc)
is_added (Max e) t = absurd (cc)

-- the values of the last of some rows
pub values_of_rows : (p : ProgramEntries) (h : Graph) (i : ℕ)
    → row_values (vertices h) (rows_to p h i) i ≡ row p h i
values_of_rows p h i = sym (fill_by_all (λ v. (entry_at (rows_to p h i) i v).1) (row p h i)
    (vertices h) [] (values_whole p h i).each_vertex
    (λ v there. sym (ap (λ (e : Entry). e.1) (row_entry p h i i v (omega arith) there))))

-- one row more
pub rows_grow : (p : ProgramEntries) (h : Graph) (i : ℕ) → 1 ≤ i
    → rows_to p h (i - 1) ++ entries p h i ∷ [] ≡ rows_to p h i
rows_grow p h i some =
    sym (map-range_with_len_more (entries p h) 0 (i - 1 + 1) i (omega arith))
    ∙ ap (λ n. map (entries p h) (range_with_len 0 n))
    (let e : i - 1 + 1 + 1 ≡ i + 1 = omega arith in e)

-- what is read from what is kept of a graph
module _ (c : Given) (g : Graph) (i v : ℕ) (low : i ≤ c.choice.cut) (there : v < vertices g) where
  abbrev kept_rows : List Row
  kept_rows = rows_to c.program g c.choice.cut

  pub stored_is : stored_entry c g (stored_of c g) i v ≡ entry c.program g i v
  stored_is =
      let first : entry_at kept_rows 0 v ≡ (zeros c.program, begun c.program g v) =
      row_entry c.program g c.choice.cut 0 v (omega arith) there
      ∙ (λ j. (
        (row_begins c.program g v there).aggregate j,
        (row_begins c.program g v there).value j,
      )) in
      let long = length-rows_to c.program g c.choice.cut in
      ap (λ l. read (zeros c.program, begun c.program g v) l i)
      (get_or-map-range_with_len (stored c.choice.vertical c.program g c.choice.cut) 0 (vertices g)
      v v [] there (omega arith))
      ∙ ap (λ e. read e (stored c.choice.vertical c.program g c.choice.cut v) i) (sym first)
      ∙ column_read c.choice.vertical kept_rows v i (omega arith)
      ∙ row_entry c.program g c.choice.cut i v low there

-- ---- an iteration
module _ (c : Given) (may : MayRun c) (g : Graph) (good_g : IsGood c.program.limits g) (w : Work)
    (good_h : IsGood c.program.limits w.graph) (some : 1 ≤ w.iteration)
    (within : w.iteration ≤ c.program.rounds)
    (rows : w.rows ≡ rows_to c.program w.graph (w.iteration - 1))
    (words : is_sum c.program.combine ≡ true → (k : ℕ)
    → word_in w.words k ≡ sum_at k (additions c g w.graph w.iteration)) where
  abbrev p : ProgramEntries
  p = c.program

  abbrev h : Graph
  h = w.graph

  abbrev i : ℕ
  i = w.iteration

  last_is : last_values w ≡ row p h (i - 1)
  last_is = ap (λ (l : List Row). row_values (vertices h) l (i - 1)) rows
      ∙ values_of_rows p h (i - 1)

  -- the aggregate that a vertex had
  abbrev was : ℕ → ℕ → ℤ
  was v l = cond (is_tail c i) (agg_at p h (i - 1) v l) (old_agg p g i v l)

  had_in_tail : (v : ℕ) → v < vertices h → (entry_at w.rows (i - 1) v).0 ≡ at (aggr p h (i - 1)) v
  had_in_tail v there = ap (λ (l : List Row). (entry_at l (i - 1) v).0) rows
      ∙ ap (λ (e : Entry). e.0) (row_entry p h (i - 1) (i - 1) v (omega arith) there)

  had_before : (v l : ℕ) → i ≤ c.choice.cut → l < lanes p
      → number (cond (is_new g v) (by_lane p (λ _. empty_of p.combine))
      (stored_entry c g (stored_of c g) i v).0) l ≡ old_agg p g i v l
  had_before v l low small =
      elim (cases_lt v (vertices g)) [
        | inl there ↦
            let n = not_new (vertices g) v there in
            ap (λ b. number (cond b (by_lane p (λ _. empty_of p.combine))
            (stored_entry c g (stored_of c g) i v).0) l) n
            ∙ ap (λ (e : Entry). number e.0 l) (stored_is c g i v low there)
            ∙ sym (ap (λ b. cond b (empty_of p.combine) (agg_at p g i v l)) n)
        | inr past ↦
            let n = new_is g v past in
            ap (λ b. number (cond b (by_lane p (λ _. empty_of p.combine))
            (stored_entry c g (stored_of c g) i v).0) l) n
            ∙ at_lane p (λ _. empty_of p.combine) l small
            ∙ sym (ap (λ b. cond b (empty_of p.combine) (agg_at p g i v l)) n)
      ]

  had_is : (v l : ℕ) → v < vertices h → l < lanes p
      → number (had_agg c g (stored_of c g) w v) l ≡ was v l
  had_is v l there small =
      elim (is_tail c i) as (λ b. is_tail c i ≡ b
      → number (cond b (entry_at w.rows (i - 1) v).0
      (cond (is_new g v) (by_lane p (λ _. empty_of p.combine))
      (stored_entry c g (stored_of c g) i v).0)) l
      ≡ cond b (agg_at p h (i - 1) v l) (old_agg p g i v l)) [
        | true ↦ λ t. ap (λ xs. number xs l) (had_in_tail v there)
        | false ↦ λ t. had_before v l (ltb-false c.choice.cut i t) small
      ] refl

  summed_is : is_sum p.combine ≡ true → (v l : ℕ) → v < vertices h → l < lanes p
      → int_wrap w64 (was v l +ℤ cast_signed w64 (sum_at (word p v l) (additions c g h i)))
      ≡ agg_at p h i v l
  summed_is sum v l there small =
      let lowest = may.some in
      elim (is_tail c i) as (λ b. is_tail c i ≡ b
      → int_wrap w64 (cond b (agg_at p h (i - 1) v l) (old_agg p g i v l)
      +ℤ cast_signed w64 (sum_at (word p v l) (cond b (tail_adds p h i) (adds p g h i))))
      ≡ agg_at p h i v l) [
        | true ↦ λ t.
            let past = ltb-true c.choice.cut i t in
            tail_taken_sums_refined p h i may.safe (is_added p.combine sum) good_h v l
            (omega arith) there small
        | false ↦ λ t. taken_sums_refined p g h may.safe (is_added p.combine sum) good_g good_h i v
            l some there small
      ] refl

  agg_long : (v : ℕ) → v < vertices h → length (at (aggr p h i) v) ≡ lanes p
  agg_long v there = ap length (aggr_is p h i v some there) ∙ length-by_lane p _

  agg_is : (v : ℕ) → v < vertices h → next_agg c g (stored_of c g) w v ≡ at (aggr p h i) v
  agg_is v there =
      elim (is_sum p.combine) as (λ b. is_sum p.combine ≡ b
      → cond b (with_words c w.words (had_agg c g (stored_of c g) w v) v)
      (gathered p h (last_values w) v) ≡ at (aggr p h i) v) [
        | true ↦ λ t. sym (fill_by_all
            (λ l. int_wrap w64 (number (had_agg c g (stored_of c g) w v) l
            +ℤ cast_signed w64 (word_in w.words (word p v l))))
            (at (aggr p h i) v) (lanes p) (pos 0) (agg_long v there)
            (λ l small. sym ((λ j. int_wrap w64 (had_is v l there small j
            +ℤ cast_signed w64 (words t (word p v l) j)))
            ∙ summed_is t v l there small)))
        | false ↦ λ t. ap (λ (l : Lists). gathered p h l v) last_is
            ∙ sym (aggr_is p h i v some there)
      ] refl

  aggs_are : next_aggs c g (stored_of c g) w ≡ aggr p h i
  aggs_are = sym (fill_by_all (next_agg c g (stored_of c g) w) (aggr p h i) (vertices h) []
      (aggregates_whole p h i).each_vertex (λ v there. sym (agg_is v there)))

  values_are : next_values c g (stored_of c g) w ≡ row p h i
  values_are = sym (fill_by_all (next_value c g (stored_of c g) w) (row p h i) (vertices h) []
      (values_whole p h i).each_vertex
      (λ v there. row_is p h i v some there
      ∙ sym (λ j. applied p h (agg_is v there j) (at (last_is j) v) v)))

  pub next_row_is : next_row c g (stored_of c g) w ≡ entries p h i
  next_row_is = λ j. zip (aggs_are j) (values_are j)

  pub rows_go_on : w.rows ++ next_row c g (stored_of c g) w ∷ [] ≡ rows_to p h i
  rows_go_on = (λ j. rows j ++ next_row_is j ∷ []) ∙ rows_grow p h i some
