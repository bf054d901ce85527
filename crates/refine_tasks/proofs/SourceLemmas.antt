-- What a vertex had before a change, by the lists of the change.
use Rattle.std.proofs.Common.{◌≡◌, ℕ, ℤ, ◌<◌, Bool, true, false, not, cond, List, length}
use Rattle.std.proofs.Common.{get_or, map, sym, ap, ◌∙◌, subst, arith, inl, inr, refl, ◌||◌, []}
use Rattle.std.proofs.Common.{◌∷◌, ◌&&◌, Result, Ok, Err, IfOk, IfErr}
use Rattle.std.specs.Result.{is_ok}
use Rattle.std.specs.Cmp.{signed_Decides}
use Rattle.std.specs.List.Sorted.{IsNonDecreasingBy}
use Rattle.std.specs.Ordering.{int_eq}
use Rattle.std.proofs.lemmas.Bool.{cases_Bool, cases_lt}
use Rattle.std.proofs.lemmas.List.{get_or-map, length-map, map-id}
use Rattle.std.proofs.lemmas.List.Sorted.{IsNonDecreasingBy-from_sort}
use Rattle.bolt_base.specs.Change.{attr_at, changed_attrs, is_source, sources}
use Rattle.bolt_base.specs.Differs as differs
use Rattle.bolt_base.specs.Differs.{is_new}
use Rattle.bolt_base.specs.Graph.{Graph, outdeg, vertices}
use Rattle.bolt_base.specs.declared.edge.AttrChange.{AttrChange}
use Rattle.bolt_base.specs.declared.edge.Touched.{Touched}
use Rattle.bolt_base.proofs.EdgeParts.{out_edges_stay}
use Rattle.vertex_expr.specs.declared.program.ProgramEntries.{ProgramEntries}
use Rattle.run_model.specs.Steps.{Step, dirty, is_dirty, value_changed, degree_changed}
use Rattle.run_model.specs.Steps.{attr_changed}
use Rattle.run_model.specs.Steps.{reads_attr, reads_outdeg}
use Rattle.run_model.proofs.Still.{is_le, not_new}
use Rattle.refine_rows.specs.Picked.{vertices_where}
use Rattle.refine_rows.proofs.AgainLemmas.{attrs_are, sources_are, touched_are}
use Rattle.refine_rows.proofs.PickLemmas.{contains_where, picked_where, sorted_where}
use Rattle.refine_tasks.specs.Sides.{HasKey, LacksKey}

-- ---- keys that are the vertices that pass a test
module _ {X : Type 0} (key : X → ℕ) (xs : List X) (n : ℕ) (test : ℕ → Bool)
    (are : map key xs ≡ vertices_where n test) where
  pub keys_rise : IsNonDecreasingBy key xs
  keys_rise i j d low small =
      let long = length-map xs key in
      let a = get_or-map key xs i d (key d) (omega arith) in
      let b = get_or-map key xs j d (key d) small in
      let up : IsNonDecreasingBy (λ (v : ℕ). v) (map key xs) =
      subst (IsNonDecreasingBy (λ (v : ℕ). v)) (sym are)
      (IsNonDecreasingBy-from_sort (λ (v : ℕ). v) (vertices_where n test) (sorted_where n test)) in
      let order = up i j (key d) low (omega arith) in
      omega arith

  -- a key passes
  pub found_passes : (u k : ℕ) → HasKey key xs u k → test u ≡ true
  found_passes u k found =
      let long = length-map xs key in
      let place = found.place in
      let same = ap length are in
      let picked = picked_where n test k (omega arith) in
      let d = first_of k found.place in
      let is : get_or (vertices_where n test) k 0 ≡ u =
      ap (λ l. get_or l k 0) (sym are) ∙ get_or-map key xs k d 0 found.place ∙ found.is d in
      ap test (sym is) ∙ picked.passes
    where
      first_of : (k : ℕ) → k < length xs → X
      first_of k small = elim xs as (λ l. k < length l → X) [
        | [] ↦ λ h. absurd (omega arith)
        | x ∷ rest ↦ λ h. x
      ] small

  -- and what passes is a key
  pub absent_fails : (u : ℕ) → u < n → LacksKey key xs u → test u ≡ false
  absent_fails u below lacks = elim (cases_Bool (test u)) [
    | inl t ↦
        let at = contains_where n test u below t in
        let k : ℕ = at.0 in
        let same = ap length are in
        let long = length-map xs key in
        let small : k < length xs = let l = at.1 in omega arith in
        absurd (here k small (ap (λ l. get_or l k u) are ∙ at.2))
    | inr f ↦ f
  ]
    where
      here : (k : ℕ) → k < length xs → get_or (map key xs) k u ≡ u → ⊥
      here k small is = elim xs as (λ l. LacksKey key l u → IsNonDecreasingBy key l
          → k < length l → get_or (map key l) k u ≡ u → ⊥) [
            | [] ↦ λ lacks rise h e. absurd (omega arith)
            | x ∷ rest ↦ λ lacks rise h e. lacks rise k h x
                (sym (get_or-map key (x ∷ rest) k x u h) ∙ e)
          ] lacks keys_rise small is

-- ---- degrees
module _ (g h : Graph) (ts : List Touched) (are : ts ≡ sources g h) where
  keys : map (λ (t : Touched). t.vertex) ts ≡ vertices_where (vertices h) (is_source g h)
  keys = ap (map (λ (t : Touched). t.vertex)) are ∙ sources_are g h

  pub degree_found : (u k : ℕ) (d : Touched) → HasKey (λ (t : Touched). t.vertex) ts u k
      → (get_or ts k d).old_degree ≡ outdeg g u
  degree_found u k d found = (touched_are g h ts k d are found.place).degree
      ∙ ap (outdeg g) (found.is d)

  pub degree_absent : (u : ℕ) → u < vertices h → LacksKey (λ (t : Touched). t.vertex) ts u
      → outdeg h u ≡ outdeg g u
  degree_absent u there lacks = ap length (out_edges_stay g h u
      (absent_fails (λ (t : Touched). t.vertex) ts (vertices h) (is_source g h) keys u there lacks))

-- ---- attributes
module _ (g h : Graph) (changes : List AttrChange) (are : changes ≡ changed_attrs g h) where
  abbrev before : ℕ → ℤ
  before u = cond (is_new g u) (attr_at h u) (attr_at g u)

  vertices_are : map (λ (a : AttrChange). a.vertex) changes
      ≡ vertices_where (vertices g) (differs.attr_changed g h)
  vertices_are = ap (map (λ (a : AttrChange). a.vertex)) are ∙ attrs_are g h

  pub attr_found : (u k : ℕ) (d : AttrChange) → HasKey (λ (a : AttrChange). a.vertex) changes u k
      → (get_or changes k d).old ≡ before u
  attr_found u k d found =
      let us : List ℕ = vertices_where (vertices g) (differs.attr_changed g h) in
      let make : (ℕ → AttrChange) = λ v. record { vertex = v; old = attr_at g v; new = attr_at h v }
      in
      let long = length-map us make in
      let count = ap length are in
      let place = found.place in
      let small : k < length us = omega arith in
      let read : get_or changes k d ≡ make (get_or us k 0) =
      ap (λ l. get_or l k d) are ∙ get_or-map make us k 0 d small in
      let is : get_or us k 0 ≡ u = sym (ap (λ (a : AttrChange). a.vertex) read) ∙ found.is d in
      let below = (picked_where (vertices g) (differs.attr_changed g h) k small).below in
      ap (λ (a : AttrChange). a.old) read ∙ ap (attr_at g) is
      ∙ sym (ap (λ b. cond b (attr_at h u) (attr_at g u))
      (not_new (vertices g) u (omega arith)))

  pub attr_absent : (u : ℕ) → LacksKey (λ (a : AttrChange). a.vertex) changes u
      → attr_at h u ≡ before u
  attr_absent u lacks = elim (cases_lt u (vertices g)) [
    | inl old ↦
        let fails = absent_fails (λ (a : AttrChange). a.vertex) changes (vertices g)
        (differs.attr_changed g h) vertices_are u old lacks in
        sym (equal (int_eq (attr_at g u) (attr_at h u)) fails
        (signed_Decides (attr_at g u) (attr_at h u)).0)
        ∙ sym (ap (λ b. cond b (attr_at h u) (attr_at g u)) (not_new (vertices g) u old))
    | inr new ↦ sym (ap (λ b. cond b (attr_at h u) (attr_at g u)) (is_le (vertices g) u new))
  ]
    where
      equal : (b : Bool) → not b ≡ false → (b ≡ true → attr_at g u ≡ attr_at h u)
          → attr_at g u ≡ attr_at h u
      equal true e f = f refl
      equal false e f = absurd (cc)

-- ---- whether a vertex is dirty
module _ (p : ProgramEntries) (s : Step) (us : List ℕ) (are : us ≡ dirty p s) where
  pub dirty_found : (u k : ℕ) → HasKey (λ (v : ℕ). v) us u k → is_dirty p s u ≡ true
  dirty_found u k found = found_passes (λ (v : ℕ). v) us (vertices s.old_graph) (is_dirty p s)
      (map-id us ∙ are) u k found

  pub dirty_absent : (u : ℕ) → LacksKey (λ (v : ℕ). v) us u → is_dirty p s u ≡ false
  dirty_absent u lacks = elim (cases_lt u (vertices s.old_graph)) [
    | inl old ↦ absent_fails (λ (v : ℕ). v) us (vertices s.old_graph) (is_dirty p s)
        (map-id us ∙ are) u old lacks
    | inr new ↦ ap (λ b. not b && ((value_changed s u
        || (degree_changed s u && reads_outdeg p)) || (attr_changed s u && reads_attr p)))
        (is_le (vertices s.old_graph) u new)
  ]

  pub dirty_flag : (u : ℕ) (r : Result ℕ ℕ) → IfOk r (HasKey (λ (v : ℕ). v) us u)
      → IfErr r (λ _. LacksKey (λ (v : ℕ). v) us u) → is_ok r ≡ is_dirty p s u
  dirty_flag u (Ok k) found absent = sym (dirty_found u k found)
  dirty_flag u (Err k) found absent = sym (dirty_absent u absent)
