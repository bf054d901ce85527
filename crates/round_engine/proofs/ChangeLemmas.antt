-- What changes in an answer, vertex after vertex.
use Rattle.std.proofs.Common.{◌≡◌, ℕ, ◌+◌, ◌-◌, ◌<◌, ◌≤◌, Bool, true, false, not, ◌||◌, cond, List}
use Rattle.std.proofs.Common.{[], ◌∷◌, ◌++◌, length, get_or, filter, take, ap, ◌∙◌}
use Rattle.std.proofs.Common.{arith}
use Rattle.std.specs.List.{range_with_len}
use Rattle.std.specs.Cmp.Lexicographic.{pointwise}
use Rattle.std.specs.Ordering.{int_eq}
use Rattle.std.proofs.lemmas.List.{append-nil, map-append, take_more}
use Rattle.std.proofs.lemmas.List.Elements.{filter-append}
use Rattle.bolt_base.specs.Graph.{Graph, vertices}
use Rattle.bolt_base.specs.declared.answer.AnswerChange.{AnswerChange}
use Rattle.vertex_expr.specs.declared.program.ProgramEntries.{ProgramEntries}
use Rattle.run_model.specs.Logs.{differs}
use Rattle.run_model.specs.Rows.{Lists, at, row}
use Rattle.run_model.specs.Steps.{step, value_changed}
use Rattle.run_model.proofs.RowLemmas.{values_whole}
use Rattle.run_model.proofs.Still.{is_le, not_new}
use Rattle.refine_rows.specs.Picked.{vertices_where}
use Rattle.refine_rows.specs.Seen.{changed_values}
use Rattle.refine_rows.proofs.PickLemmas.{agree_within, range_next}
use Rattle.round_engine.specs.Parts.{changes_in}

-- ---- one vertex more
where_next : (p : ℕ → Bool) (v : ℕ)
    → vertices_where (v + 1) p ≡ vertices_where v p ++ cond (p v) (v ∷ []) []
where_next p v =
    ap (filter p) (ap (range_with_len 0) (let e : v + 1 ≡ v + 1 - 0 = omega arith in e)
    ∙ range_next 0 v (omega arith)
    ∙ ap (λ n. range_with_len 0 n ++ v ∷ []) (let e : v - 0 ≡ v = omega arith in e))
    ∙ filter-append p (range_with_len 0 v) (v ∷ [])

pub one_more : (p : ℕ → Bool) (v : ℕ) → p v ≡ true
    → vertices_where (v + 1) p ≡ vertices_where v p ++ v ∷ []
one_more p v t = where_next p v ∙ ap (λ b. vertices_where v p ++ cond b (v ∷ []) []) t

pub no_more : (p : ℕ → Bool) (v : ℕ) → p v ≡ false
    → vertices_where (v + 1) p ≡ vertices_where v p
no_more p v t = where_next p v ∙ ap (λ b. vertices_where v p ++ cond b (v ∷ []) []) t
    ∙ append-nil (vertices_where v p)

abbrev pub change_in : Lists → ℕ → AnswerChange
change_in values v = record { vertex = v; value = at values v }

pub changes_more : (values : Lists) (vs : List ℕ) (v : ℕ)
    → changes_in values (vs ++ v ∷ []) ≡ changes_in values vs ++ change_in values v ∷ []
changes_more values vs v = map-append (change_in values) vs (v ∷ [])

pub changes_next : (values : Lists) (vs : List ℕ) (k : ℕ) → k < length vs
    → changes_in values (take (k + 1) vs)
    ≡ changes_in values (take k vs) ++ change_in values (get_or vs k 0) ∷ []
changes_next values vs k small = ap (changes_in values) (take_more vs k 0 small)
    ∙ changes_more values (take k vs) (get_or vs k 0)

-- ---- rows
-- the first vertices that are renewed were listed, up to one of the new ones
pub record AreListedTo (old new : Lists) (from upto v : ℕ) (vs : List ℕ) : Type 0 where
  pub listed : vs ≡ vertices_where v (differs old new)
  pub past : from ≤ v
  pub below : v ≤ upto

module _ (p : ProgramEntries) (g h : Graph) (cut : ℕ) where
  row_long : (x : Graph) → length (row p x cut) ≡ vertices x
  row_long x = (values_whole p x cut).each_vertex

  -- those that aren't new
  pub changed_first : vertices_where (vertices g) (differs (row p g cut) (row p h cut))
      ≡ changed_values p g h (cut + 1)
  changed_first = agree_within (vertices g) 0 (differs (row p g cut) (row p h cut))
      (value_changed (step p g h (cut + 1)))
      (λ v low there. let long = row_long g in ap
      (λ b. b || not (pointwise int_eq (at (row p g cut) v) (at (row p h cut) v)))
      (not_new (length (row p g cut)) v (omega arith))
      ∙ ap (λ k. not (pointwise int_eq (at (row p g k) v) (at (row p h k) v)))
      (let e : cut ≡ cut + 1 - 1 = omega arith in e))

  pub new_differs : (v : ℕ) → vertices g ≤ v → differs (row p g cut) (row p h cut) v ≡ true
  new_differs v past = let long = row_long g in ap
      (λ b. b || not (pointwise int_eq (at (row p g cut) v) (at (row p h cut) v)))
      (is_le (length (row p g cut)) v (omega arith))

  pub new_long : length (row p h cut) ≡ vertices h
  new_long = row_long h
