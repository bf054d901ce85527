-- Entries, vertex by vertex.
use Rattle.std.proofs.Common.{◌≡◌, ℕ, ℤ, ◌+◌, ◌<◌, ◌≤◌, Bool, true, false, cond, List, [], ◌∷◌, ◌++◌, length}
use Rattle.std.proofs.Common.{map, filter, get_or, refl, sym, ap, ◌∙◌, arith}
use Rattle.std.specs.List.{range_with_len, zip}
use Rattle.std.proofs.lemmas.List.{append-nil, length-map, map-append, map-id}
use Rattle.std.proofs.lemmas.List.Elements.{filter-append}
use Rattle.std.proofs.lemmas.List.FromFn.{fill_by_all, map-range_with_len_more}
use Rattle.std.proofs.lemmas.List.FromFn.{get_or-map-range_with_len, length-map-range_with_len}
use Rattle.std.proofs.lemmas.Slice.Zip.{seconds-zip}
use Rattle.bolt_base.specs.Keep.{Entry}
use Rattle.vertex_expr.specs.declared.program.ProgramEntries.{ProgramEntries}
use Rattle.run_model.proofs.InRange.{at_vertex}
use Rattle.run_model.proofs.RowLemmas.{aggregates_whole, values_whole}
use Rattle.bolt_base.specs.Graph.{Graph, vertices}
use Rattle.bolt_base.specs.declared.answer.AnswerChange.{AnswerChange}
use Rattle.run_model.specs.Rows.{Lists, aggr, at, each_vertex, entries, row, rows_to}

pub zip_of_maps : {V X Y : Type 0} (f : V → X) (h : V → Y) (vs : List V)
    → zip (map f vs) (map h vs) ≡ map (λ v. (f v, h v)) vs
zip_of_maps f h [] = refl
zip_of_maps f h (v ∷ vs) = ap (λ r. (f v, h v) ∷ r) (zip_of_maps f h vs)

-- numbers for each vertex beside what is made of them
pub zip_with : (h : Graph) (xs : Lists) (f : ℕ → List ℤ) → length xs ≡ vertices h
    → zip xs (each_vertex h f) ≡ map (λ v. (at xs v, f v)) (range_with_len 0 (vertices h))
zip_with h xs f long =
    ap (λ (l : Lists). zip l (each_vertex h f)) (fill_by_all (at xs) xs (vertices h) [] long
    (λ v small. refl))
    ∙ zip_of_maps (at xs) f (range_with_len 0 (vertices h))

-- lists that agree at each vertex
pub each_same : (h : Graph) (f g : ℕ → List ℤ) → ((v : ℕ) → v < vertices h → f v ≡ g v)
    → each_vertex h f ≡ each_vertex h g
each_same h f g same = fill_by_all g (each_vertex h f) (vertices h) []
    (length-map-range_with_len f 0 (vertices h))
    (λ v small. at_vertex h f v small ∙ same v small)

-- ---- rows of a run
pub entry_values : (p : ProgramEntries) (h : Graph) (i : ℕ)
    → map (λ (e : Entry). e.1) (entries p h i) ≡ row p h i
entry_values p h i = seconds-zip (aggr p h i) (row p h i)
    ((values_whole p h i).each_vertex ∙ sym (aggregates_whole p h i).each_vertex)

pub length-entries : (p : ProgramEntries) (h : Graph) (i : ℕ) → length (entries p h i) ≡ vertices h
length-entries p h i = sym (length-map (entries p h i) (λ (e : Entry). e.1))
    ∙ ap length (entry_values p h i) ∙ (values_whole p h i).each_vertex

pub row_in : (p : ProgramEntries) (h : Graph) (last i : ℕ) → i ≤ last
    → get_or (rows_to p h last) i [] ≡ entries p h i
row_in p h last i low =
    get_or-map-range_with_len (entries p h) 0 (last + 1) i i [] (omega arith) (omega arith)

-- ---- vertices that pass a test
range_more : (k : ℕ) → range_with_len 0 (k + 1) ≡ range_with_len 0 k ++ k ∷ []
range_more k =
    sym (map-id (range_with_len 0 (k + 1)))
    ∙ map-range_with_len_more (λ x. x) 0 k k (omega arith)
    ∙ ap (λ xs. xs ++ k ∷ []) (map-id (range_with_len 0 k))

picked_more : (test : ℕ → Bool) (k : ℕ)
    → filter test (range_with_len 0 (k + 1))
    ≡ filter test (range_with_len 0 k) ++ cond (test k) (k ∷ []) []
picked_more test k = ap (filter test) (range_more k)
    ∙ filter-append test (range_with_len 0 k) (k ∷ [])

pub one_picked : (test : ℕ → Bool) (k : ℕ) → test k ≡ true
    → filter test (range_with_len 0 (k + 1)) ≡ filter test (range_with_len 0 k) ++ k ∷ []
one_picked test k t = picked_more test k
    ∙ ap (λ b. filter test (range_with_len 0 k) ++ cond b (k ∷ []) []) t

pub none_picked : (test : ℕ → Bool) (k : ℕ) → test k ≡ false
    → filter test (range_with_len 0 (k + 1)) ≡ filter test (range_with_len 0 k)
none_picked test k t = picked_more test k
    ∙ ap (λ b. filter test (range_with_len 0 k) ++ cond b (k ∷ []) []) t
    ∙ append-nil (filter test (range_with_len 0 k))

-- ---- changes
abbrev pub change_in : Lists → ℕ → AnswerChange
change_in values v = record { vertex = v; value = at values v }

pub changes_more : (values : Lists) (vs : List ℕ) (v : ℕ)
    → map (change_in values) (vs ++ v ∷ []) ≡ map (change_in values) vs ++ change_in values v ∷ []
changes_more values vs v = map-append (change_in values) vs (v ∷ [])
