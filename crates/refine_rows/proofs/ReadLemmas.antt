-- What the old rows have, and what the rows have with puts laid over them.
use Rattle.std.proofs.Common.{◌≡◌, ◌≢◌, ℕ, ℤ, pos, zero, suc, ◌+◌, ◌-◌, ◌<◌, ◌≤◌, true, false}
use Rattle.std.proofs.Common.{◌||◌, cond, List, [], Option, Some, None, length, get_or, map}
use Rattle.std.proofs.Common.{refl, sym, ap, ◌∙◌, arith, not, inl, inr}
use Rattle.std.specs.Prelude.{IsSome}
use Rattle.std.specs.Cmp.Lexicographic.{pointwise}
use Rattle.std.specs.Cmp.Rules.{signed_items}
use Rattle.std.specs.List.{range_with_len}
use Rattle.std.specs.Ordering.{int_eq}
use Rattle.std.proofs.lemmas.Bool.{cases_Bool}
use Rattle.std.proofs.lemmas.List.FromFn.{get_or-map-range_with_len, length-map-range_with_len}
use Rattle.std.proofs.lemmas.List.FromFn.{fill_by_all}
use Rattle.std.proofs.lemmas.Slice.Zip.{length-zip}
use Rattle.bolt_base.specs.Graph.{Graph, vertices}
use Rattle.bolt_base.specs.Keep.{Entry, Row}
use Rattle.bolt_base.specs.RowTable.{entry_at}
use Rattle.vertex_expr.specs.declared.program.ProgramEntries.{ProgramEntries}
use Rattle.range_check.specs.Gathered.{empty_of}
use Rattle.run_model.specs.Program.{lanes, by_lane, number}
use Rattle.run_model.specs.Refined.{is_again, laid_values, row_values, IsRefined}
use Rattle.run_model.specs.Rows.{at, aggr, row, entry, entries, rows_to}
use Rattle.run_model.specs.Steps.{is_target, value_changed, attr_changed, step}
use Rattle.run_model.proofs.ByLane.{IsSoFar, by_lane_at_end}
use Rattle.run_model.proofs.Iteration.{new_is}
use Rattle.run_model.proofs.RefinedRows.{row_entry, laid_is}
use Rattle.run_model.proofs.RowLemmas.{values_whole, aggregates_whole}
use Rattle.run_model.proofs.Still.{not_new}
use Rattle.agg_history.specs.Pruned.{HistoryState, rows_of, vertices_of, read_at}
use Rattle.agg_history.specs.Puts.{PutTable, put_at, laid_at}
use Rattle.refine_rows.specs.Over.{AreOver}
use Rattle.refine_rows.specs.Progress.{StandsFor, IsLaidOver}
use Rattle.refine_rows.specs.Seen.{had_before}

pub entries_long : (p : ProgramEntries) (g : Graph) (i : ℕ) → length (entries p g i) ≡ vertices g
entries_long p g i =
    let a = (aggregates_whole p g i).each_vertex in
    let b = (values_whole p g i).each_vertex in
    let z = length-zip (aggr p g i) (row p g i) in
    omega arith

module _ (p : ProgramEntries) (g : Graph) (history : HistoryState) (stands : StandsFor p g history)
  where
    -- the history has the vertices of the graph
    pub same_vertices : vertices_of history ≡ vertices g
    same_vertices =
        sym (length-map-range_with_len (read_at history.now 0) 0 (vertices_of history))
        ∙ sym (ap length (get_or-map-range_with_len
        (λ i. map (read_at history.now i) (range_with_len 0 (vertices_of history))) 0
        (history.cut + 1) 0 0 []
        (omega arith) (omega arith)))
        ∙ ap (λ (rows : List Row). length (get_or rows 0 [])) stands.rows
        ∙ ap length (get_or-map-range_with_len (entries p g) 0 (history.cut + 1) 0 0 []
        (omega arith) (omega arith))
        ∙ entries_long p g 0

    pub old_entry : (i v : ℕ) → i ≤ history.cut → v < vertices g
        → entry_at (rows_of history) i v ≡ entry p g i v
    old_entry i v low there = ap (λ rows. entry_at rows i v) stands.rows
        ∙ row_entry p g history.cut i v low there

    pub had_old : (i v : ℕ) → v < vertices g
        → had_before p g history.cut i v ≡ (entry_at (rows_of history) i v).0
    had_old i v there =
        ap (λ b. cond b (by_lane p (λ _. empty_of p.combine))
        (entry_at (rows_to p g history.cut) i v).0)
        (not_new (vertices g) v there)
        ∙ ap (λ rows. (entry_at rows i v).0) (sym stands.rows)

    pub had_new : (i v : ℕ) → vertices g ≤ v
        → had_before p g history.cut i v ≡ by_lane p (λ _. empty_of p.combine)
    had_new i v past =
        ap (λ b. cond b (by_lane p (λ _. empty_of p.combine))
        (entry_at (rows_to p g history.cut) i v).0)
        (new_is g v past)

-- ---- as many numbers as lanes
pub value_long : (p : ProgramEntries) (g : Graph) (i v : ℕ) → v < vertices g
    → length (at (row p g i) v) ≡ lanes p
value_long p g i v there = let w = values_whole p g i in
    w.each_lane v [] (let l = w.each_vertex in omega arith)

pub agg_long : (p : ProgramEntries) (g : Graph) (i v : ℕ) → v < vertices g
    → length (at (aggr p g i) v) ≡ lanes p
agg_long p g i v there = let w = aggregates_whole p g i in
    w.each_lane v [] (let l = w.each_vertex in omega arith)

-- a loop over all lanes has copied a list of so many numbers
pub copied : (p : ProgramEntries) (k : ℕ) (xs ys : List ℤ) → length ys ≡ lanes p
    → IsSoFar (number ys) (lanes p) k xs → lanes p ≤ k → xs ≡ ys
copied p k xs ys long so past = by_lane_at_end p (number ys) k xs so past
    ∙ sym (fill_by_all (number ys) ys (lanes p) (pos 0) long (λ l small. refl))

pub copied_value : (p : ProgramEntries) (g : Graph) (i v k : ℕ) (xs : List ℤ) → v < vertices g
    → IsSoFar (number (at (row p g i) v)) (lanes p) k xs → lanes p ≤ k → xs ≡ at (row p g i) v
copied_value p g i v k xs there so past =
    copied p k xs (at (row p g i) v) (value_long p g i v there) so past

pub copied_agg : (p : ProgramEntries) (g : Graph) (i v k : ℕ) (xs : List ℤ) → v < vertices g
    → IsSoFar (number (at (aggr p g i) v)) (lanes p) k xs → lanes p ≤ k → xs ≡ at (aggr p g i) v
copied_agg p g i v k xs there so past =
    copied p k xs (at (aggr p g i) v) (agg_long p g i v there) so past

-- ---- whether a value is another one
module _ (p : ProgramEntries) (g h : Graph) (i v : ℕ) (there : v < vertices g)
    (here : v < vertices h)
  where
    abbrev value_was : List ℤ
    value_was = at (row p g (i - 1)) v

    abbrev value_now : List ℤ
    value_now = at (row p h (i - 1)) v

    -- where one number is another one
    pub other_number : (k : ℕ) → number value_was k ≢ number value_now k
        → value_changed (step p g h i) v ≡ true
    other_number k apart = elim (cases_Bool (pointwise int_eq value_was value_now)) [
      | inl same ↦ absurd (apart (ap (λ xs. number xs k)
          ((signed_items value_was value_now).0 same)))
      | inr other ↦ ap not other
    ]

    -- and where all numbers are the same it isn't
    pub same_numbers : (k : ℕ) → lanes p ≤ k
        → ((j : ℕ) → j < k → number value_now j ≡ number value_was j)
        → value_changed (step p g h i) v ≡ false
    same_numbers k past same = ap not ((signed_items value_was value_now).1
        (sym (copied p k value_now value_was (value_long p g (i - 1) v there)
        (record { long = value_long p h (i - 1) v here; below = same }) past)))

-- ---- what is laid over
-- a new vertex is evaluated again at each iteration
pub new_again : (p : ProgramEntries) (g h : Graph) (i v : ℕ) → vertices g ≤ v
    → is_again p g h i v ≡ true
new_again p g h zero v past = ap (λ b. b || attr_changed (step p g h 0) v) (new_is g v past)
new_again p g h (suc i) v past =
    ap (λ b. b || is_target p (step p g h (suc i)) v || value_changed (step p g h (suc i)) v
    || attr_changed (step p g h (suc i)) v) (new_is g v past)

module _ (p : ProgramEntries) (g h : Graph) (history : HistoryState) (t : PutTable)
    (over : AreOver p g h) (is : IsLaidOver p g h history t) (i v : ℕ)
    (refined : IsRefined p g h (put_at t.puts) i v) where
  -- so it was put
  pub new_put : vertices g ≤ v → IsSome (put_at t.puts i v)
  new_put past = some (put_at t.puts i v) (λ none. refined.rest none)
    where
      some : (o : Option Entry) → (o ≡ None → is_again p g h i v ≡ false) → IsSome o
      some (Some e) r = refl
      some None r = absurd (let a = r refl in let b = new_again p g h i v past in cc)

  pub laid_entry : i ≤ history.cut → v < vertices h
      → laid_at t.puts (rows_of history) i v ≡ entry p h i v
  laid_entry low there =
      ap (λ rows. laid_at t.puts rows i v) is.stands.rows
      ∙ laid_is p g h over.old (put_at t.puts) history.cut i v low there refined

-- ---- rows
pub copied_list : (n k : ℕ) (xs ys : List ℤ) → length ys ≡ n → IsSoFar (number ys) n k xs → n ≤ k
    → xs ≡ ys
copied_list n k xs ys long so past =
    fill_by_all (number ys) xs n (pos 0) so.long (λ l small. so.below l (omega arith))
    ∙ sym (fill_by_all (number ys) ys n (pos 0) long (λ l small. refl))

-- a row that is made of a value for each vertex
pub at_row : (f : ℕ → List ℤ) (n v : ℕ) → v < length (map f (range_with_len 0 n))
    → at (map f (range_with_len 0 n)) v ≡ f v
at_row f n v there =
    let long = length-map-range_with_len f 0 n in
    get_or-map-range_with_len f 0 n v v [] (omega arith) (omega arith)

pub below_row : (f : ℕ → List ℤ) (n v : ℕ) → v < length (map f (range_with_len 0 n)) → v < n
below_row f n v there = let long = length-map-range_with_len f 0 n in omega arith

module _ (p : ProgramEntries) (g : Graph) (history : HistoryState) (stands : StandsFor p g history)
    (i : ℕ) (low : i ≤ history.cut) where
  pub old_row : row_values (vertices_of history) (rows_of history) i ≡ row p g i
  old_row =
      let w = values_whole p g i in
      let count = same_vertices p g history stands in
      sym (fill_by_all (λ v. (entry_at (rows_of history) i v).1) (row p g i) (vertices_of history)
      []
      (w.each_vertex ∙ sym count)
      (λ v there. sym (ap (λ (e : Entry). e.1)
      (old_entry p g history stands i v low (omega arith)))))

  pub old_long : (v : ℕ) → v < vertices_of history → length (entry_at (rows_of history) i v).1
      ≡ lanes p
  old_long v there =
      let count = same_vertices p g history stands in
      let below : v < vertices g = omega arith in
      ap (λ (e : Entry). length e.1) (old_entry p g history stands i v low below)
      ∙ value_long p g i v below

module _ (p : ProgramEntries) (g h : Graph) (history : HistoryState) (t : PutTable)
    (over : AreOver p g h) (is : IsLaidOver p g h history t) (i : ℕ) (low : i ≤ history.cut)
    (refined : (v : ℕ) → v < vertices h → IsRefined p g h (put_at t.puts) i v) where
  pub new_row : laid_values t.vertices (put_at t.puts) (rows_of history) i ≡ row p h i
  new_row =
      let w = values_whole p h i in
      let count = is.vertices in
      sym (fill_by_all (λ v. (laid_at t.puts (rows_of history) i v).1) (row p h i) t.vertices []
      (w.each_vertex ∙ sym count)
      (λ v there. let below : v < vertices h = omega arith in
      sym (ap (λ (e : Entry). e.1) (laid_entry p g h history t over is i v (refined v below) low
      below))))

  pub new_long : (v : ℕ) → v < t.vertices
      → length (laid_at t.puts (rows_of history) i v).1 ≡ lanes p
  new_long v there =
      let count = is.vertices in
      let below : v < vertices h = omega arith in
      ap (λ (e : Entry). length e.1)
      (laid_entry p g h history t over is i v (refined v below) low below)
      ∙ value_long p h i v below

  pub news_put : (v : ℕ) → t.old_vertices ≤ v → v < t.vertices → IsSome (put_at t.puts i v)
  news_put v past there =
      let count = is.vertices in
      let olds : t.old_vertices ≡ vertices g = is.belongs.vertices
      ∙ same_vertices p g history is.stands in
      new_put p g h history t over is i v (refined v (omega arith)) (omega arith)
