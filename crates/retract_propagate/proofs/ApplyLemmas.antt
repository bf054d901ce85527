-- The vertices that are applied at an iteration, one after the other.
use Rattle.std.proofs.Common.{◌≡◌, ◌≢◌, ℕ, zero, suc, ◌+◌, ◌<◌, ◌≤◌, Bool, true, false, ◌||◌}
use Rattle.std.proofs.Common.{List, [], ◌∷◌, length, get_or, filter, drop, refl, sym, ap, ◌∙◌}
use Rattle.std.proofs.Common.{subst, arith, inl, inr, drop-cons, add-one}
use Rattle.std.specs.List.{range_with_len}
use Rattle.std.specs.List.Sorted.{IsStrictlyIncreasing}
use Rattle.std.proofs.lemmas.Bool.{cases_lt}
use Rattle.std.proofs.lemmas.List.Kept.{AllPairs-from_increasing, IsStrictlySortedBy-filter}
use Rattle.std.proofs.lemmas.Map.Keys.{IsStrictlyIncreasing-from_sorted}
use Rattle.std.specs.Ordering.{nat_cmp}
use Rattle.bolt_base.specs.Differs.{is_new}
use Rattle.bolt_base.specs.Graph.{Graph, vertices}
use Rattle.agg_words.specs.View.{View, times}
use Rattle.agg_words.specs.declared.layout.Layout.{Layout}
use Rattle.vertex_expr.specs.declared.program.ProgramEntries.{ProgramEntries}
use Rattle.run_model.specs.Program.{lanes}
use Rattle.run_model.specs.Refined.{is_again}
use Rattle.run_model.specs.Steps.{attr_changed, is_target, step, targets, value_changed}
use Rattle.run_model.proofs.InRange.{length-by_lane}
use Rattle.agg_history.specs.Pruned.{HistoryState}
use Rattle.edge_map.proofs.Rising.{times_other}
use Rattle.sum_steps.specs.Laws.{IsSpread}
use Rattle.refine_rows.specs.Picked.{vertices_where}
use Rattle.refine_rows.specs.Progress.{again, StandsFor}
use Rattle.refine_rows.specs.Seen.{had_before}
use Rattle.refine_rows.proofs.PickLemmas.{filter_within}
use Rattle.refine_rows.proofs.ReadLemmas.{agg_long, had_new, had_old, old_entry}
use Rattle.refine_tasks.specs.Taking.{AreTakenTo}
use Rattle.refine_tasks.proofs.TakingLemmas.{taking_begins}
use Rattle.refine_tasks.proofs.TaskLemmas.{range_sorted}

-- ---- targets are applied
target_again : (p : ProgramEntries) (g h : Graph) (i v : ℕ) → 1 ≤ i
    → is_target p (step p g h i) v ≡ true → is_again p g h i v ≡ true
target_again p g h zero v some t = absurd (omega arith)
target_again p g h (suc i) v some t = second (is_new g v) (is_target p (step p g h (suc i)) v)
    (value_changed (step p g h (suc i)) v) (attr_changed (step p g h (suc i)) v) t
  where
    second : (n t v a : Bool) → t ≡ true → (((n || t) || v) || a) ≡ true
    second true t v a e = refl
    second false true v a e = refl
    second false false v a e = absurd (cc)

targets_among : (p : ProgramEntries) (g h : Graph) (i : ℕ) → 1 ≤ i
    → filter (is_target p (step p g h i)) (again p g h i) ≡ targets p (step p g h i)
targets_among p g h i some = filter_within (is_again p g h i) (is_target p (step p g h i))
    (range_with_len 0 (vertices h)) (λ v t. target_again p g h i v some t)

pub none_taken_yet : (p : ProgramEntries) (g h : Graph) (i : ℕ) (k : Layout) (us vs : List ℕ)
    (v : View) → 1 ≤ i → IsSpread p (step p g h i) k us v → vs ≡ again p g h i
    → AreTakenTo p (step p g h i) k us v.amounts 0 vs v
none_taken_yet p g h i k us vs v some spread is =
    taking_begins p (step p g h i) k us vs v spread
    (ap (filter (is_target p (step p g h i))) is ∙ targets_among p g h i some
    ∙ sym spread.targets)

-- ---- each is applied once
times_none : (v : ℕ) (xs : List ℕ) → ((j : ℕ) → j < length xs → get_or xs j 0 ≢ v)
    → times v xs ≡ 0
times_none v [] h = refl
times_none v (x ∷ xs) h = times_other v x xs (h 0 (omega arith))
    ∙ times_none v xs (λ j l. h (suc j) (omega arith))

dropped_at : (n j : ℕ) (xs : List ℕ) → j < length (drop n xs)
    → (n + j < length xs) × (get_or (drop n xs) j 0 ≡ get_or xs (n + j) 0)
dropped_at zero j xs l = (
  omega arith,
  ap (λ i. get_or xs i 0)
      (let e : j ≡ 0 + j = omega arith in e),
)
dropped_at (suc n) j [] l = absurd (omega arith)
dropped_at (suc n) j (x ∷ xs) l = let rest = dropped_at n j xs l in (
  let h = rest.0 in omega arith,
  rest.1 ∙ ap (λ i. get_or (x ∷ xs) i 0) (let e : suc (n + j) ≡ suc n + j = omega arith in e),
)

pub none_behind : (n : ℕ) (q : ℕ → Bool) (vs : List ℕ) (k : ℕ) → vs ≡ vertices_where n q
    → k < length vs → times (get_or vs k 0) (drop (k + 1) vs) ≡ 0
none_behind n q vs k is small =
    let rises = AllPairs-from_increasing vs
    (subst (λ l. IsStrictlyIncreasing l) (sym is)
    (IsStrictlyIncreasing-from_sorted (vertices_where n q)
    (IsStrictlySortedBy-filter nat_cmp q (range_with_len 0 n) (range_sorted n 0)))) in
    times_none (get_or vs k 0) (drop (k + 1) vs)
    (λ j l e. let at = dropped_at (k + 1) j vs l in
    let inside = at.0 in
    let less = rises k (k + 1 + j) 0 (omega arith) inside in
    let same = sym at.1 ∙ e in
    absurd (omega arith))

pub next_first : (vs : List ℕ) (k : ℕ) → k < length vs
    → drop k vs ≡ get_or vs k 0 ∷ drop (k + 1) vs
next_first vs k small = rw add-one (drop-cons vs k 0 small)

-- ---- old aggregates
pub had_long : (p : ProgramEntries) (g : Graph) (history : HistoryState)
    → StandsFor p g history → (i v : ℕ) → i ≤ history.cut
    → length (had_before p g history.cut i v) ≡ lanes p
had_long p g history stands i v low = elim (cases_lt v (vertices g)) [
  | inl old ↦ ap length (had_old p g history stands i v old
      ∙ ap (λ e. e.0) (old_entry p g history stands i v low old)) ∙ agg_long p g i v old
  | inr new ↦ ap length (had_new p g history stands i v new) ∙ length-by_lane p _
]
