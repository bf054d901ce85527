-- The puts of a list of vertices and a list of entries.
use Rattle.std.proofs.Common.{◌≡◌, ℕ, ◌<◌, List, [], ◌∷◌, ◌++◌, length, map, refl, sym, ap, ◌∙◌}
use Rattle.std.proofs.Common.{arith}
use Rattle.std.specs.List.{zip}
use Rattle.std.proofs.lemmas.Slice.Zip.{length-zip, get_or-zip, firsts-zip}
use Rattle.bolt_base.specs.Keep.{Entry, no_entry}
use Rattle.agg_history.specs.Entries.{entry_in}
use Rattle.agg_history.specs.PutList.{ListedPuts, put_in}
use Rattle.agg_history.specs.PutListOf.{listed_of, ArePaired}
use Rattle.agg_history.specs.declared.put_list.PutList.TheInside.{Inside}

pub zip_push : {A B : Type 0} (xs : List A) (ys : List B) (x : A) (y : B) → length xs ≡ length ys
    → zip (xs ++ x ∷ []) (ys ++ y ∷ []) ≡ zip xs ys ++ (x, y) ∷ []
zip_push [] [] x y e = refl
zip_push [] (b ∷ ys) x y e = absurd (omega arith)
zip_push (a ∷ xs) [] x y e = absurd (omega arith)
zip_push (a ∷ xs) (b ∷ ys) x y e = ap (λ zs. (a, b) ∷ zs) (zip_push xs ys x y (omega arith))

module _ (r : Inside) (t : ListedPuts) (is : listed_of r ≡ t) (ok : ArePaired r) where
  pub lanes_is : r.cells.lanes ≡ t.lanes
  lanes_is = ap (λ (l : ListedPuts). l.lanes) is

  pub puts_is : zip r.vertices.items r.cells.all ≡ t.puts
  puts_is = ap (λ (l : ListedPuts). l.puts) is

  pub count_is : length r.cells.all ≡ length t.puts
  count_is = let e : length (zip r.vertices.items r.cells.all)
      ≡ length t.puts = ap length puts_is in
      omega (arith, length-zip r.vertices.items r.cells.all, ok)

  pub vertices_is : r.vertices.items ≡ map (λ put. put.0) t.puts
  vertices_is = sym (firsts-zip r.vertices.items r.cells.all (sym ok))
      ∙ ap (map (λ (put : ℕ × Entry). put.0)) puts_is

  pub entry_is : (p : ℕ) → p < length t.puts → entry_in r.cells.all p ≡ (put_in t.puts p).1
  entry_is p h = ap (λ (put : ℕ × Entry). put.1)
      (sym (get_or-zip r.vertices.items r.cells.all p (0, no_entry) (omega (arith, ok, count_is))
      (omega (arith, count_is))))
      ∙ ap (λ puts. (put_in puts p).1) puts_is

  pub more_is : (v : ℕ) (e : Entry)
      → zip (r.vertices.items ++ v ∷ []) (r.cells.all ++ e ∷ []) ≡ t.puts ++ (v, e) ∷ []
  more_is v e = zip_push r.vertices.items r.cells.all v e ok
      ∙ ap (λ puts. puts ++ (v, e) ∷ []) puts_is
