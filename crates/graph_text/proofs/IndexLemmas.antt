-- Edges that are found by their ends, and counted.
use Rattle.std.proofs.Common.{◌≡◌, ◌≢◌, ℕ, ℤ, zero, suc, ◌+◌, ◌<◌, ◌≤◌, Bool, true, false, cond}
use Rattle.std.proofs.Common.{◌&&◌, ◌||◌, List, [], ◌∷◌, ◌++◌, length, filter, get_or, set, Option}
use Rattle.std.proofs.Common.{Some, None, refl, sym, ap, ◌∙◌, subst, ⊎_elim, arith}
use Rattle.std.specs.Prelude.{nat_eq, is_some}
use Rattle.std.proofs.lemmas.Bool.{eq-eqb, ne_eqb, cases_eq}
use Rattle.std.specs.Cmp.{unsigned_tied}
use Rattle.std.specs.FinMap as finite
use Rattle.std.specs.Ordering.{is_eq, eq_by_cmp, nat_cmp, ordering_then}
use Rattle.std.specs.declared.cmp.Ordering.{Ordering}
use Rattle.std.specs.declared.cmp.Ordering.TheVariants.{Less, Equal, Greater}
use Rattle.std.proofs.lemmas.List.{length-append, get_or-set_same, get_or-set_other}
use Rattle.std.proofs.lemmas.List.Elements.{filter-append}
use Rattle.bolt_base.specs.declared.edge.Edge.{Edge}
use Rattle.bolt_base.specs.Graph.{Pair, Weights, pair_cmp, edges, outdeg, indeg}
use Rattle.bolt_base.proofs.PlainLists.{found, found-push, apart_push, get-graph_of, graph_of_push}
use Rattle.bolt_base.proofs.PlainLists.{length-graph_of, length-filter-graph_of}
use Rattle.graph_text.specs.declared.successors.Successors.{Successors}
use Rattle.graph_text.specs.EdgeIndex.{one_if, weights_of, edges_alone, has, row_value, has_at}
use Rattle.graph_text.specs.EdgeIndex.{count_at, IsIndexed}

-- ---- what the row of a vertex tells
pub row_value_read : {X : Type 0} (f : Successors → X) (none : X) (rows : List Successors) (u : ℕ)
    (d : Successors) → u < length rows → row_value f none rows u ≡ f (get_or rows u d)
row_value_read f none [] u d h = absurd (omega arith)
row_value_read f none (r ∷ rows) zero d h = refl
row_value_read f none (r ∷ rows) (suc u) d h = row_value_read f none rows u d (omega arith)

pub row_value_past : {X : Type 0} (f : Successors → X) (none : X) (rows : List Successors) (u : ℕ)
    → length rows ≤ u → row_value f none rows u ≡ none
row_value_past f none [] u h = refl
row_value_past f none (r ∷ rows) zero h = absurd (omega arith)
row_value_past f none (r ∷ rows) (suc u) h = row_value_past f none rows u (omega arith)

-- a row that tells nothing, at the end
pub row_value_more : {X : Type 0} (f : Successors → X) (none : X) (rows : List Successors)
    (r : Successors) → f r ≡ none → (u : ℕ)
    → row_value f none (rows ++ r ∷ []) u ≡ row_value f none rows u
row_value_more f none [] r h zero = h
row_value_more f none [] r h (suc u) = refl
row_value_more f none (x ∷ rows) r h zero = refl
row_value_more f none (x ∷ rows) r h (suc u) = row_value_more f none rows r h u

pub row_value_set : {X : Type 0} (f : Successors → X) (none : X) (rows : List Successors) (k : ℕ)
    (r : Successors) → k < length rows → row_value f none (set rows k r) k ≡ f r
row_value_set f none [] k r h = absurd (omega arith)
row_value_set f none (x ∷ rows) zero r h = refl
row_value_set f none (x ∷ rows) (suc k) r h = row_value_set f none rows k r (omega arith)

row_value_other : {X : Type 0} (f : Successors → X) (none : X) (rows : List Successors) (k : ℕ)
    (r : Successors) (u : ℕ) → k ≢ u → row_value f none (set rows k r) u ≡ row_value f none rows u
row_value_other f none [] k r u h = refl
row_value_other f none (x ∷ rows) zero r zero h = absurd (h refl)
row_value_other f none (x ∷ rows) zero r (suc u) h = refl
row_value_other f none (x ∷ rows) (suc k) r zero h = refl
row_value_other f none (x ∷ rows) (suc k) r (suc u) h =
    row_value_other f none rows k r u (λ e. h (ap suc e))

nat_eq-refl : (n : ℕ) → nat_eq n n ≡ true
nat_eq-refl n = eq-eqb n n refl

-- one row is written
module _ (rows : List Successors) (k : ℕ) (r d : Successors) (inside : k < length rows) where
  -- it tells the same
  pub row_value_same : {X : Type 0} (f : Successors → X) (none : X) → f r ≡ f (get_or rows k d)
      → (u : ℕ) → row_value f none (set rows k r) u ≡ row_value f none rows u
  row_value_same f none e u = ⊎_elim
      (λ (at : k ≡ u). subst (λ x. row_value f none (set rows k r) x ≡ row_value f none rows x) at
      (row_value_set f none rows k r inside ∙ e ∙ sym (row_value_read f none rows k d inside)))
      (λ (other : k ≢ u). row_value_other f none rows k r u other)
      (cases_eq k u)

  -- it has one successor more
  pub has_more : (w : ℕ) → ((v : ℕ) → has r v ≡ (nat_eq w v || has (get_or rows k d) v)) → (u v : ℕ)
      → has_at (set rows k r) u v ≡ (nat_eq k u && nat_eq w v || has_at rows u v)
  has_more w e u v = ⊎_elim
      (λ (at : k ≡ u). subst (λ x. has_at (set rows k r) x v
      ≡ (nat_eq k x && nat_eq w v || has_at rows x v)) at
      (row_value_set (λ x. has x v) false rows k r inside ∙ e v
      ∙ ap (λ b. nat_eq w v || b) (sym (row_value_read (λ x. has x v) false rows k d inside))
      ∙ ap (λ b. b && nat_eq w v || has_at rows k v) (sym (nat_eq-refl k))))
      (λ (other : k ≢ u). row_value_other (λ x. has x v) false rows k r u other
      ∙ ap (λ b. b && nat_eq w v || has_at rows u v) (sym (ne_eqb k u other)))
      (cases_eq k u)

  pub count_more : r.count ≡ (get_or rows k d).count + 1 → (u : ℕ)
      → count_at (set rows k r) u ≡ one_if (nat_eq k u) + count_at rows u
  count_more e u = ⊎_elim
      (λ (at : k ≡ u). subst (λ x. count_at (set rows k r) x
      ≡ one_if (nat_eq k x) + count_at rows x) at
      (let one = ap one_if (nat_eq-refl k) in let now = row_value_set (λ x. x.count) 0 rows k r
      inside in let was = row_value_read (λ x. x.count) 0 rows k d inside in omega (arith, e)))
      (λ (other : k ≢ u). let none = ap one_if (ne_eqb k u other) in let same = row_value_other
      (λ x. x.count) 0 rows k r u other in omega (arith, none))
      (cases_eq k u)

-- ---- counts of the edges into vertices
pub count_set : (counts : List ℕ) (k n : ℕ) → k < length counts → n ≡ get_or counts k 0 + 1
    → (v : ℕ) → get_or (set counts k n) v 0 ≡ one_if (nat_eq k v) + get_or counts v 0
count_set counts k n h e v = ⊎_elim
    (λ (at : k ≡ v). subst (λ x. get_or (set counts k n) x 0
    ≡ one_if (nat_eq k x) + get_or counts x 0) at
    (let one = ap one_if (nat_eq-refl k) in let now = get_or-set_same counts k n 0 h in omega
    (arith, e)))
    (λ (other : k ≢ v). let none = ap one_if (ne_eqb k v other) in let same = get_or-set_other
    counts k v n 0 (λ e. other (sym e)) in omega (arith, none))
    (cases_eq k v)

-- ---- the edges of a list
tied_both : (o p : Ordering) → is_eq (ordering_then o p) ≡ (is_eq o && is_eq p)
tied_both Less p = refl
tied_both Equal p = refl
tied_both Greater p = refl

nat_eq-sym : (a b : ℕ) → nat_eq a b ≡ nat_eq b a
nat_eq-sym a b = ⊎_elim
    (λ (same : a ≡ b). eq-eqb a b same ∙ sym (eq-eqb b a (sym same)))
    (λ (other : a ≢ b). ne_eqb a b other ∙ sym (ne_eqb b a (λ e. other (sym e))))
    (cases_eq a b)

pairs_tied : (u v s d : ℕ) → eq_by_cmp pair_cmp (u, v) (s, d) ≡ (nat_eq s u && nat_eq d v)
pairs_tied u v s d =
    tied_both (nat_cmp u s) (nat_cmp v d)
    ∙ ap (λ b. b && is_eq (nat_cmp v d)) (unsigned_tied u s ∙ nat_eq-sym u s)
    ∙ ap (λ b. nat_eq s u && b) (unsigned_tied v d ∙ nat_eq-sym v d)

some_if : (b : Bool) (w : ℤ) (o : Option ℤ) → (b || is_some o) ≡ is_some (cond b (Some w) o)
some_if true w o = refl
some_if false w o = refl

filter_more : (p : Edge → Bool) (es : List Edge) (e : Edge)
    → one_if (p e) + length (filter p es) ≡ length (filter p (es ++ e ∷ []))
filter_more p es e =
    let all =
    ap length (filter-append p es (e ∷ [])) ∙ length-append (filter p es) (filter p (e ∷ [])) in
    let one : length (filter p (e ∷ [])) ≡ one_if (p e) =
    elim (p e) as (λ b. length (cond b (e ∷ []) []) ≡ one_if b) [ true ↦ refl | false ↦ refl ] in
    omega (arith, all, one)

pub few_pass : {X : Type 0} (p : X → Bool) (xs : List X) → length (filter p xs) ≤ length xs
few_pass p [] = omega arith
few_pass p (x ∷ xs) =
    let rest = few_pass p xs in
    elim (p x) as (λ b. length (cond b (x ∷ filter p xs) (filter p xs)) ≤ length (x ∷ xs))
    [ true ↦ omega arith | false ↦ omega arith ]

pub indexed_none : (es : List Edge) (rows : List Successors) (ins : List ℕ) → es ≡ [] → rows ≡ []
    → ins ≡ [] → IsIndexed es rows ins
indexed_none es rows ins no_es no_rows no_ins =
    let P : List Edge → List Successors → List ℕ → Type 0 = λ a b c. IsIndexed a b c in
    let none : P [] [] [] =
    record { apart = tt; held = λ u v. refl; outs = λ u. refl; ins = λ v. refl } in
    subst (λ a. P a rows ins) (sym no_es)
    (subst (λ b. P [] b ins) (sym no_rows) (subst (λ c. P [] [] c) (sym no_ins) none))

pub indexed_same : (es : List Edge) (rows more : List Successors) (ins others : List ℕ)
    → IsIndexed es rows ins
    → ((u v : ℕ) → has_at more u v ≡ has_at rows u v)
    → ((u : ℕ) → count_at more u ≡ count_at rows u)
    → ((v : ℕ) → get_or others v 0 ≡ get_or ins v 0) → IsIndexed es more others
indexed_same es rows more ins others h held outs counts = record {
  apart = h.apart;
  held = λ u v. held u v ∙ h.held u v;
  outs = λ u. outs u ∙ h.outs u;
  ins = λ v. counts v ∙ h.ins v;
}

pub indexed_more : (es : List Edge) (e : Edge) (rows more : List Successors) (ins others : List ℕ)
    → IsIndexed es rows ins → found es (e.src, e.dst) ≡ None
    → ((u v : ℕ) → has_at more u v ≡ (nat_eq e.src u && nat_eq e.dst v || has_at rows u v))
    → ((u : ℕ) → count_at more u ≡ one_if (nat_eq e.src u) + count_at rows u)
    → ((v : ℕ) → get_or others v 0 ≡ one_if (nat_eq e.dst v) + get_or ins v 0)
    → IsIndexed (es ++ e ∷ []) more others
indexed_more es e rows more ins others h none held outs counts = record {
  apart = apart_push es e h.apart none;
  held = λ u v. held u v ∙ ap (λ b. nat_eq e.src u && nat_eq e.dst v || b) (h.held u v)
      ∙ ap (λ b. b || is_some (found es (u, v))) (sym (pairs_tied u v e.src e.dst))
      ∙ some_if _ e.weight (found es (u, v)) ∙ ap is_some (sym (found-push es e (u, v) none));
  outs =
      λ u. outs u ∙ ap (λ n. one_if (nat_eq e.src u) + n) (h.outs u)
      ∙ filter_more (λ x. nat_eq x.src u) es e;
  ins =
      λ v. counts v ∙ ap (λ n. one_if (nat_eq e.dst v) + n) (h.ins v)
      ∙ filter_more (λ x. nat_eq x.dst v) es e;
}

-- ---- what the index tells of the graph of the edges
module _ (es : List Edge) (rows : List Successors) (ins : List ℕ) (w : Weights)
    (h : IsIndexed es rows ins) (is : weights_of es ≡ w) where
  pub all_counted : length es ≡ length (edges (edges_alone w))
  all_counted =
      sym (length-graph_of [] es h.apart) ∙ ap (λ (m : Weights). length (edges (edges_alone m))) is

  pub out_counted : (u : ℕ) → count_at rows u ≡ outdeg (edges_alone w) u
  out_counted u =
      h.outs u ∙ sym (length-filter-graph_of (λ e. nat_eq e.src u) [] es h.apart)
      ∙ ap (λ (m : Weights). outdeg (edges_alone m) u) is

  pub in_counted : (v : ℕ) → get_or ins v 0 ≡ indeg (edges_alone w) v
  in_counted v =
      h.ins v ∙ sym (length-filter-graph_of (λ e. nat_eq e.dst v) [] es h.apart)
      ∙ ap (λ (m : Weights). indeg (edges_alone m) v) is

  pub held_in : (u v : ℕ) → has_at rows u v ≡ is_some (finite.get w (u, v))
  held_in u v =
      h.held u v ∙ ap is_some (sym (get-graph_of [] es (u, v)))
      ∙ ap (λ (m : Weights). is_some (finite.get m (u, v))) is

  -- the counts stay below the number of edges and 1
  pub out_fits : (u : ℕ) → count_at rows u ≤ length (edges (edges_alone w))
  out_fits u =
      let here = h.outs u in
      let few = few_pass (λ (e : Edge). nat_eq e.src u) es in omega (arith, all_counted)

  pub in_fits : (v : ℕ) → get_or ins v 0 ≤ length (edges (edges_alone w))
  in_fits v =
      let here = h.ins v in
      let few = few_pass (λ (e : Edge). nat_eq e.dst v) es in omega (arith, all_counted)

none_there : (o : Option ℤ) → is_some o ≡ false → o ≡ None
none_there None e = refl
none_there (Some x) e = absurd (cc)

pub not_found : (es : List Edge) (w : Weights) (k : Pair) → weights_of es ≡ w
    → is_some (finite.get w k) ≡ false → found es k ≡ None
not_found es w k is absent =
    sym (get-graph_of [] es k) ∙ ap (λ (m : Weights). finite.get m k) is
    ∙ none_there (finite.get w k) absent

-- the weights with one edge more
pub weights_more : (es : List Edge) (w : Weights) (e : Edge) → weights_of es ≡ w
    → is_some (finite.get w (e.src, e.dst)) ≡ false
    → weights_of (es ++ e ∷ []) ≡ finite.insert w (e.src, e.dst) e.weight
weights_more es w e is absent =
    ap (λ g. g.weights) (graph_of_push [] es e (not_found es w (e.src, e.dst) is absent))
    ∙ ap (λ (m : Weights). finite.insert m (e.src, e.dst) e.weight) is
