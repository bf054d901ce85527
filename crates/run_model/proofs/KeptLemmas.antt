-- What is kept of a vertex, in terms of its entries.
use Rattle.std.proofs.Common.{◌≡◌, ℕ, zero, suc, ◌+◌, ◌-◌, ◌<◌, ◌≤◌, List, [], ◌∷◌, map, length}
use Rattle.std.proofs.Common.{get_or, refl, sym, ap, ◌∙◌, arith}
use Rattle.std.specs.List.{range_with_len, zip}
use Rattle.std.proofs.lemmas.List.FromFn.{length-map-range_with_len, get_or-map-range_with_len}
use Rattle.bolt_base.specs.Graph.{Graph, vertices}
use Rattle.bolt_base.specs.Keep.{Entry, Row, no_entry, last_of, rest_at, column}
use Rattle.bolt_base.specs.Laws.{IsRest}
use Rattle.bolt_base.proofs.KeepLemmas.{is_rest, rest_least}
use Rattle.vertex_expr.specs.declared.program.ProgramEntries.{ProgramEntries}
use Rattle.run_model.specs.KeptLaws.{IsKept}
use Rattle.run_model.specs.Rows.{Lists, at, row, aggr, entry, entries, rows_to}
use Rattle.run_model.proofs.RowLemmas.{values_whole, aggregates_whole}

pub get_or-zip : (xs ys : Lists) (v : ℕ) → v < length xs → v < length ys
    → get_or (zip xs ys) v no_entry ≡ (at xs v, at ys v)
get_or-zip [] ys v a b = absurd (omega arith)
get_or-zip (x ∷ xs) [] v a b = absurd (omega arith)
get_or-zip (x ∷ xs) (y ∷ ys) zero a b = refl
get_or-zip (x ∷ xs) (y ∷ ys) (suc v) a b = get_or-zip xs ys v (omega arith) (omega arith)

map-map-range : (f : Row → Entry) (h : ℕ → Row) (k : ℕ → Entry) → ((i : ℕ) → f (h i) ≡ k i)
    → (xs : List ℕ) → map f (map h xs) ≡ map k xs
map-map-range f h k e [] = refl
map-map-range f h k e (x ∷ xs) = λ j. e x j ∷ map-map-range f h k e xs j

module _ (p : ProgramEntries) (g : Graph) (cut v : ℕ) (there : v < vertices g) where
  pub column_is : column (rows_to p g cut) v ≡ map (λ i. entry p g i v) (range_with_len 0 (cut + 1))
  column_is =
      map-map-range (λ r. get_or r v no_entry) (entries p g) (λ i. entry p g i v)
      (λ i. let a = (aggregates_whole p g i).each_vertex in let b =
      (values_whole p g i).each_vertex in get_or-zip (aggr p g i) (row p g i) v (omega arith)
      (omega arith))
      (range_with_len 0 (cut + 1))

  abbrev es : List Entry
  es = column (rows_to p g cut) v

  column_long : length es ≡ cut + 1
  column_long = ap length column_is ∙ length-map-range_with_len (λ i. entry p g i v) 0 (cut + 1)

  entry_at : (i : ℕ) → i ≤ cut → get_or es i no_entry ≡ entry p g i v
  entry_at i h = ap (λ xs. get_or xs i no_entry) column_is
      ∙ get_or-map-range_with_len (λ k. entry p g k v) 0 (cut + 1) i i no_entry (omega arith)
      (omega arith)

  last_is : last_of es ≡ entry p g cut v
  last_is = let n = column_long in ap (λ k. get_or es k no_entry)
      (let e : length es - 1 ≡ cut = omega arith in e) ∙ entry_at cut (omega arith)

  column_rest : IsRest es (rest_at es)
  column_rest = let n = column_long in is_rest es (omega arith)

  pub kept_is : IsKept p g cut v
  kept_is =
      let n = column_long in
      let inside = column_rest.inside in
      record {
        within = omega arith;
        equal = λ i low high. sym (entry_at i high) ∙ column_rest.equal i low (omega arith)
            ∙ last_is;
        least = λ s calm. rest_least es (rest_at es) column_rest s
            (λ i low high. entry_at i (omega arith) ∙ calm i low (omega arith) ∙ sym last_is);
        off = (let e : length es - 1 ≡ cut = omega arith in e);
      }
