-- What is put over the rows of a run, and the rows with it over them.
use Rattle.std.specs.Prelude.{◌≡◌, ℕ, ◌==◌, List, [], ◌∷◌, ◌+◌, ◌++◌, map, replicate, length}
use Rattle.std.specs.Prelude.{slice_index_or, slice_set, Option, unwrap_or, refl, Some}
use Rattle.std.specs.List.{range_with_len}
use Rattle.std.specs.Map.{lookup}
use Rattle.std.specs.Coded.{Coded, code_by, coded×, coded_ℕ, coded_list}
use Rattle.bolt_base.specs.Keep.{Entry, Row}
use Rattle.bolt_base.specs.RowTable.{entry_at}
use Rattle.agg_history.specs.Entries.{coded_entry}

-- what was put at an iteration, in the order of putting: vertices, each with its entry
abbrev pub Round : Type 0
Round = List (ℕ × Entry)

-- what was put at each iteration, from 0 on
abbrev pub round_at : List Round → ℕ → Round
round_at puts i = slice_index_or puts i []

-- the entry that was put for a vertex at an iteration, or none
abbrev pub put_at : List Round → ℕ → ℕ → Option Entry
put_at puts i v = lookup (λ u. v == u) (round_at puts i)

-- the puts with one more, the last at its iteration
abbrev pub with_put : List Round → ℕ → ℕ → Entry → List Round
with_put puts i v e = slice_set puts i (round_at puts i ++ (v, e) ∷ [])

-- a put more is found at its iteration and vertex, where there was none, and changes no other
pub record IsPutMore (puts : List Round) (i v : ℕ) (e : Entry) (more : List Round) : Type 0 where
  pub here : put_at more i v ≡ Some e
  pub elsewhere : (j u : ℕ) → (j ≡ i → u ≡ v → ⊥) → put_at more j u ≡ put_at puts j u

-- what stands there once the puts are laid over the rows
abbrev pub laid_at : List Round → List Row → ℕ → ℕ → Entry
laid_at puts rows i v = unwrap_or (put_at puts i v) (entry_at rows i v)

-- the rows of n vertices with the puts laid over them
abbrev pub laid_over : ℕ → List Round → List Row → List Row
laid_over n puts rows = map (λ i. map (laid_at puts rows i) (range_with_len 0 n))
    (range_with_len 0 (length rows))

-- puts over the rows of a history with so many vertices, lanes and iterations past 0
pub record PutTable : Type 0 where
  pub old_vertices : ℕ
  pub vertices : ℕ
  pub lanes : ℕ
  pub cut : ℕ
  pub puts : List Round

-- nothing is put yet
abbrev pub no_puts_for : ℕ → ℕ → ℕ → ℕ → PutTable
no_puts_for old_vertices vertices lanes cut = record {
  old_vertices = old_vertices;
  vertices = vertices;
  lanes = lanes;
  cut = cut;
  puts = replicate (cut + 1) [];
}

-- how the logic stores them
abbrev pub coded_round : Coded Round
coded_round = coded_list (coded× coded_ℕ coded_entry)

abbrev pub coded_put_table : Coded PutTable
coded_put_table = code_by (ℕ × (ℕ × (ℕ × (ℕ × List Round))))
    (coded× coded_ℕ (coded× coded_ℕ (coded× coded_ℕ (coded× coded_ℕ (coded_list coded_round)))))
    (λ t. (t.old_vertices, (t.vertices, (t.lanes, (t.cut, t.puts)))))
    (λ p. record {
      old_vertices = p.0;
      vertices = p.1.0;
      lanes = p.1.1.0;
      cut = p.1.1.1.0;
      puts = p.1.1.1.1;
    }) (λ _. refl)
