-- How far the refinement has come, put by put and iteration by iteration.
use Rattle.std.proofs.Common.{◌≡◌, ℕ, ℤ, zero, suc, ◌+◌, ◌-◌, ◌<◌, ◌≤◌, eqb}
use Rattle.std.proofs.Common.{List, [], ◌∷◌, ◌++◌, Some, None, length, get_or, map, take}
use Rattle.std.proofs.Common.{replicate, inl, inr, refl, sym, ap, ◌∙◌, subst, arith}
use Rattle.std.proofs.Common.{length-append, length-set}
use Rattle.std.specs.Prelude.{slice_get, IsSome}
use Rattle.std.specs.List.{Contains}
use Rattle.std.specs.List.Sorted.{IsSorted}
use Rattle.std.specs.Map.{lookup}
use Rattle.std.specs.Ordering.{nat_cmp}
use Rattle.std.proofs.lemmas.Bool.{cases_eq, cases_Bool, false≢true}
use Rattle.std.proofs.lemmas.Cmp.{nat_eq_equiv}
use Rattle.std.proofs.lemmas.List.{get_or-set_same, get_or-set_other, length-replicate, map-append}
use Rattle.std.proofs.lemmas.List.{take_all, take_more}
use Rattle.std.proofs.lemmas.List.FromFn.{get_or-map-range_with_len, length-map-range_with_len}
use Rattle.std.proofs.lemmas.Map.Views.{Contains-keys_from_lookup, IsSome-lookup_from_Contains}
use Rattle.std.proofs.lemmas.Map.Views.{exact_unsigned_eq}
use Rattle.std.proofs.lemmas.Option.{get_or_from_slice_get, none-some, same_Some, slice_get_within}
use Rattle.bolt_base.specs.Graph.{Graph, vertices}
use Rattle.bolt_base.specs.Keep.{Entry, Row}
use Rattle.bolt_base.specs.RowShape.{AreFull}
use Rattle.bolt_base.specs.RowTable.{entry_at}
use Rattle.adjacency.specs.declared.change.Change.{Change}
use Rattle.vertex_expr.specs.declared.program.ProgramEntries.{ProgramEntries}
use Rattle.range_check.specs.Breaks.{IsAccepted}
use Rattle.run_model.specs.Refined.{is_again, IsRefined}
use Rattle.run_model.specs.Program.{zeros}
use Rattle.run_model.specs.Rows.{aggr, applied, at, begun, entries, entry, row, rows_to}
use Rattle.run_model.proofs.Iteration.{row_is}
use Rattle.run_model.proofs.RefinedRows.{entry_is_again, refinement_grows, refinement_leads_on}
use Rattle.run_model.proofs.RowLemmas.{row_begins}
use Rattle.agg_history.specs.Pruned.{HistoryState, rows_of}
use Rattle.agg_history.specs.Puts.{PutTable, Round, IsPutMore, put_at, round_at, with_put}
use Rattle.agg_history.proofs.PutLemmas.{laid_new}
use Rattle.refine_rows.specs.Over.{AreOver, IsChangeOver}
use Rattle.refine_rows.specs.Progress.{again, vertices_put, IsRefinedTo, IsRefinedWithin, StandsFor}
use Rattle.refine_rows.specs.Refining.{CanRefine, IsRefinedBy}
use Rattle.refine_rows.specs.Seen.{agg_now}
use Rattle.refine_rows.proofs.PickLemmas.{contains_where, not_before, picked_where, sorted_where}
use Rattle.refine_rows.proofs.ReadLemmas.{entries_long, new_put, same_vertices}

-- ---- what was put is found
found_put : (round : Round) (v : ℕ) → Contains (map (λ put. put.0) round) v
    → lookup (λ u. eqb v u) round ≡ None → ⊥
found_put round v c none =
    let some : IsSome (lookup (λ u. eqb v u) round) = IsSome-lookup_from_Contains nat_eq_equiv v
    round c in
    false≢true (subst IsSome none some)

-- ---- one more put
module _ (p : ProgramEntries) (g h : Graph) (history : HistoryState) (t : PutTable) (i v : ℕ)
    (within : IsRefinedWithin p g h history t i)
    (next : slice_get (again p g h i) (length (vertices_put t i)) ≡ Some v) where
  abbrev so_many : ℕ
  so_many = length (vertices_put t i)

  place_within : so_many < length (again p g h i)
  place_within = slice_get_within (again p g h i) so_many v next

  vertex_is : get_or (again p g h i) so_many 0 ≡ v
  vertex_is = get_or_from_slice_get (again p g h i) so_many v 0 next

  pub vertex_there : v < vertices h
  vertex_there = subst (λ u. u < vertices h) vertex_is
      (picked_where (vertices h) (is_again p g h i) so_many place_within).below

  -- it was not put before
  pub not_put : put_at t.puts i v ≡ None
  not_put = elim (put_at t.puts i v) as (λ o. put_at t.puts i v ≡ o → o ≡ None) [
    | None ↦ λ _. refl
    | Some e ↦ λ is. absurd (not_before (vertices h) (is_again p g h i) so_many v place_within
        vertex_is
        (subst (λ vs. Contains vs v) within.first
        (Contains-keys_from_lookup exact_unsigned_eq v (round_at t.puts i)
        (subst IsSome (sym is) refl))))
  ] refl

  module _ (e : Entry) (low : i ≤ t.cut) (is_new_entry : e ≡ entry p h i v)
      (found : IsPutMore t.puts i v e (with_put t.puts i v e)) where
    abbrev grown : PutTable
    grown = record t { puts = with_put t.puts i v e }

    here : round_at grown.puts i ≡ round_at t.puts i ++ (v, e) ∷ []
    here = let rounds = within.laid.rounds in
        get_or-set_same t.puts i (round_at t.puts i ++ (v, e) ∷ []) [] (omega arith)

    elsewhere : (j : ℕ) → (j ≡ i → ⊥) → round_at grown.puts j ≡ round_at t.puts j
    elsewhere j apart = get_or-set_other t.puts i j (round_at t.puts i ++ (v, e) ∷ []) [] apart

    pub one_put : vertices_put grown i ≡ vertices_put t i ++ v ∷ []
    one_put = ap (map (λ (put : ℕ × Entry). put.0)) here
        ∙ map-append (λ (put : ℕ × Entry). put.0) (round_at t.puts i) ((v, e) ∷ [])

    counted : length (vertices_put grown i) ≡ so_many + 1
    counted = ap length one_put ∙ (let l = length-append (vertices_put t i) (v ∷ []) in omega arith)

    still : (j u : ℕ) → j < i → IsRefined p g h (put_at t.puts) j u
        → IsRefined p g h (put_at grown.puts) j u
    still j u less r =
        let same = found.elsewhere j u (λ s _. let l = less in omega arith) in
        record {
          right = λ x is. r.right x (sym same ∙ is);
          rest = λ none. r.rest (sym same ∙ none);
        }

    pub within_more : IsRefinedWithin p g h history grown i
    within_more = record {
      laid = record {
        stands = within.laid.stands;
        belongs = record {
          vertices = within.laid.belongs.vertices;
          lanes = within.laid.belongs.lanes;
          cut = within.laid.belongs.cut;
        };
        vertices = within.laid.vertices;
        rounds = length-set t.puts i (round_at t.puts i ++ (v, e) ∷ []) ∙ within.laid.rounds;
      };
      done = λ j u less there. still j u less (within.done j u less there);
      listed = λ j less. ap (map (λ (put : ℕ × Entry). put.0)) (elsewhere j (λ s. omega arith))
          ∙ within.listed j less;
      first = one_put
          ∙ ap (λ vs. vs ++ v ∷ []) within.first
          ∙ ap (λ u. take so_many (again p g h i) ++ u ∷ []) (sym vertex_is)
          ∙ sym (take_more (again p g h i) so_many 0 place_within)
          ∙ ap (λ k. take k (again p g h i)) (sym counted);
      right = λ u x there is. elim (cases_eq u v) [
        | inl same ↦ same_Some x e (sym is ∙ ap (put_at grown.puts i) same ∙ found.here)
            ∙ is_new_entry ∙ ap (entry p h i) (sym same)
        | inr apart ↦ within.right u x there (sym (found.elsewhere i u (λ _ s. apart s)) ∙ is)
      ];
      rest = λ j past. elsewhere j (λ s. omega arith) ∙ within.rest j past;
    }

    -- so after a put that is made
    within_by_put : (more : PutTable) → more ≡ grown
        → IsRefinedWithin p g h history more i × (vertices_put more i ≡ vertices_put t i ++ v ∷ [])
    within_by_put more is = (
      subst (λ x. IsRefinedWithin p g h history x i) (sym is) within_more,
      ap (λ (x : PutTable). vertices_put x i) is ∙ one_put,
    )

  pub put_made : (e : Entry) → i ≤ t.cut → e ≡ entry p h i v → (more : PutTable)
      → more ≡ record t { puts = with_put t.puts i v e } → IsPutMore t.puts i v e more.puts
      → IsRefinedWithin p g h history more i × (vertices_put more i ≡ vertices_put t i ++ v ∷ [])
  put_made e low is_new_entry more is found =
      within_by_put e low is_new_entry
      (subst (λ puts. IsPutMore t.puts i v e puts) (ap (λ (x : PutTable). x.puts) is) found) more is

-- ---- entries that are evaluated again
module _ (p : ProgramEntries) (g h : Graph) (over : AreOver p g h) where
  module _ (cut i v : ℕ) (some : 1 ≤ i) (low : i ≤ cut) (there : v < vertices h) where
    pub agg_is_new : agg_now p g h cut i v ≡ at (aggr p h i) v
    agg_is_new = ap (λ (e : Entry). e.0)
        (entry_is_again p g h over.old cut i v low over.safe over.new some there)

    pub entry_made : (agg before val : List ℤ) → agg ≡ agg_now p g h cut i v
        → before ≡ at (row p h (i - 1)) v → val ≡ applied p h agg before v
        → (agg, val) ≡ entry p h i v
    entry_made agg before val a b e =
        let same : agg ≡ at (aggr p h i) v = a ∙ agg_is_new in
        let made : val ≡ at (row p h i) v =
        e ∙ (λ j. applied p h (same j) (b j) v) ∙ sym (row_is p h i v some there) in
        λ j. (same j, made j)

  pub first_made : (v : ℕ) → v < vertices h → (agg val : List ℤ) → agg ≡ zeros p → val ≡ begun p h v
      → (agg, val) ≡ entry p h 0 v
  first_made v there agg val a e =
      let first = row_begins p h v there in
      λ j. ((a ∙ sym first.aggregate) j, (e ∙ sym first.value) j)

-- ---- one more iteration
empty_round : (put : List (ℕ × Entry)) (u : ℕ) (x : Entry) → put ≡ []
    → lookup (λ w. eqb u w) put ≡ Some x → ⊥
empty_round put u x e is =
    none-some x (sym (ap (lookup (λ w. eqb u w)) e) ∙ is)

module _ (p : ProgramEntries) (g h : Graph) (history : HistoryState) (t : PutTable) where
  pub goes_on : (i : ℕ) → IsRefinedWithin p g h history t i
      → length (again p g h i) ≤ length (vertices_put t i) → IsRefinedTo p g h history t (i + 1)
  goes_on i w all =
      let listed : vertices_put t i ≡ again p g h i =
      w.first ∙ take_all (length (vertices_put t i)) (again p g h i) all in
      let none = w.rest (i + 1) (omega arith) in
      record {
        within = record {
          laid = w.laid;
          done = refinement_grows p g h (put_at t.puts) i w.done (λ v there. record {
            right = λ e is. w.right v e there is;
            rest = λ is. elim (cases_Bool (is_again p g h i v)) [
              | inl is_so ↦ absurd (found_put (round_at t.puts i) v
                  (subst (λ vs. Contains vs v) (sym listed)
                  (contains_where (vertices h) (is_again p g h i) v there is_so)) is)
              | inr other ↦ other
            ];
          });
          listed = λ j less. elim (cases_eq j i) [
            | inl same ↦ ap (vertices_put t) same ∙ listed ∙ ap (again p g h) (sym same)
            | inr apart ↦ w.listed j (omega arith)
          ];
          first = ap (map (λ (put : ℕ × Entry). put.0)) none
              ∙ ap (λ (round : Round). take (length (map (λ (put : ℕ × Entry). put.0) round))
              (again p g h (i + 1))) (sym none);
          right = λ v e there is. absurd (empty_round (round_at t.puts (i + 1)) v e none is);
          rest = λ j past. w.rest j (omega arith);
        };
        none = none;
      }

  abbrev no_puts : Round
  no_puts = []

  no_round : (m j : ℕ) → get_or (replicate m no_puts) j no_puts ≡ no_puts
  no_round zero j = refl
  no_round (suc m) zero = refl
  no_round (suc m) (suc j) = no_round m j

  pub begins : (change : Change) → IsAccepted p → CanRefine p g h change history t
      → IsChangeOver p g h change × IsRefinedTo p g h history t 0
  begins change safe can =
      let empty = can.empty in
      let none : (j : ℕ) → round_at t.puts j ≡ [] =
      λ j. ap (λ (x : PutTable). round_at x.puts j) can.empty ∙ no_round (history.cut + 1) j in
      let stands : StandsFor p g history = record { lanes = can.lanes; rows = can.rows } in (
        record {
          over = record { safe = safe; old = can.old_good; new = can.new_good; more = can.more };
          net = can.net;
        },
        record {
          within = record {
            laid = record {
              stands = stands;
              belongs = record {
                vertices = ap (λ (x : PutTable). x.old_vertices) can.empty
                    ∙ sym (same_vertices p g history stands);
                lanes = ap (λ (x : PutTable). x.lanes) can.empty ∙ sym can.lanes;
                cut = ap (λ (x : PutTable). x.cut) can.empty;
              };
              vertices = ap (λ (x : PutTable). x.vertices) can.empty;
              rounds = ap (λ (x : PutTable). length x.puts) can.empty
                  ∙ length-replicate (history.cut + 1) no_puts
                  ∙ ap (λ (x : PutTable). x.cut + 1) (sym can.empty);
            };
            done = λ j u less there. absurd (omega arith);
            listed = λ j less. absurd (omega arith);
            first = ap (map (λ (put : ℕ × Entry). put.0)) (none 0)
                ∙ ap (λ (round : Round). take (length (map (λ (put : ℕ × Entry). put.0) round))
                (again p g h 0)) (sym (none 0));
            right = λ v e there found. absurd (empty_round (round_at t.puts 0) v e (none 0) found);
            rest = λ j past. none j;
          };
          none = none 0;
        },
      )

  full_rows : (n cut : ℕ) → vertices h ≡ n → AreFull n (rows_to p h cut)
  full_rows n cut e k d l =
      let long = length-map-range_with_len (entries p h) 0 (cut + 1) in
      ap length (get_or-map-range_with_len (entries p h) 0 (cut + 1) k k d (omega arith)
      (omega arith))
      ∙ entries_long p h k ∙ e

  pub ends : AreOver p g h → IsRefinedTo p g h history t (history.cut + 1)
      → IsRefinedBy p h history t
  ends over to =
      let laid = to.within.laid in
      let cut : ℕ = history.cut in
      let leads = refinement_leads_on p g h over.old (put_at t.puts) cut to.within.done in
      let old_long : length (rows_of history) ≡ length (rows_to p h cut) =
      ap length laid.stands.rows
      ∙ length-map-range_with_len (entries p g) 0 (cut + 1)
      ∙ sym (length-map-range_with_len (entries p h) 0 (cut + 1)) in
      let long = length-map-range_with_len (entries p h) 0 (cut + 1) in
      let count = laid.vertices in
      let cuts = laid.belongs.cut in
      let olds : t.old_vertices ≡ vertices g =
      laid.belongs.vertices ∙ same_vertices p g history laid.stands in
      record {
        belongs = laid.belongs;
        vertices = laid.vertices;
        rising = λ i low. subst (IsSorted nat_cmp) (sym (to.within.listed i (omega arith)))
            (sorted_where (vertices h) (is_again p g h i));
        laid = laid_new t.vertices t.puts (rows_of history) (rows_to p h cut) old_long
            (full_rows t.vertices cut (sym laid.vertices))
            (record {
              right = λ i v e less there is. leads.right i v e (omega arith) (omega arith) is;
              rest = λ i v less there none. ap (λ (rows : List Row). entry_at rows i v)
                  laid.stands.rows
                  ∙ leads.rest i v (omega arith) (omega arith) none;
            });
        new = λ i v low past there. new_put p g h history t over laid i v
            (to.within.done i v (omega arith) (omega arith)) (omega arith);
      }
