-- The edges of a graph are those that went and those that stayed, and those of the next one are
-- those that came and those that stayed.
use Rattle.std.proofs.Common.{◌≡◌, ◌+◌, Bool, true, false, not, ◌||◌, cond, eqb, List, [], ◌∷◌}
use Rattle.std.proofs.Common.{◌++◌, filter, fold, length, refl, sym, ap, ◌∙◌, arith}
use Rattle.std.specs.List.{list_any}
use Rattle.bolt_base.specs.Change.{stays, removed, added, stayed}
use Rattle.bolt_base.specs.Graph.{Graph, edges}
use Rattle.bolt_base.specs.LawsOfChange.{AreParts, OldEdgesAreParts, NewEdgesAreParts}
use Rattle.bolt_base.specs.LawsOfChange.{OldEdgesAreCounted, NewEdgesAreCounted, edge_stays}
use Rattle.bolt_base.specs.LawsOfChange.{RemovedIsFilter, AddedIsFilter, StayedIsFilter}
use Rattle.bolt_base.specs.LawsOfChange.{OutEdgesStay, StayedOutIsFilter}
use Rattle.bolt_base.specs.declared.edge.Edge.{Edge}
use Rattle.bolt_base.proofs.EdgeMap.{edges_at-filter, edges_at-shared}

-- ---- filters
pub removed-filter : RemovedIsFilter
removed-filter g h = edges_at-filter g (λ k. not (stays g h k))

pub added-filter : AddedIsFilter
added-filter g h = edges_at-filter h (λ k. not (stays g h k))

pub stayed-filter : StayedIsFilter
stayed-filter g h = edges_at-filter h (stays g h)

pub stayed-filter_old : (g h : Graph) → stayed g h ≡ filter (edge_stays g h) (edges g)
stayed-filter_old g h = sym (edges_at-shared g h) ∙ edges_at-filter g (stays g h)

pub filter-swap : {X : Type 0} (p q : X → Bool) (xs : List X)
    → filter p (filter q xs) ≡ filter q (filter p xs)
filter-swap p q [] = refl
filter-swap p q (x ∷ xs) =
    elim (p x) as (λ a. p x ≡ a → filter p (cond (q x) (x ∷ filter q xs) (filter q xs))
    ≡ filter q (cond a (x ∷ filter p xs) (filter p xs))) [
      | true ↦ λ e. elim (q x) as (λ b. filter p (cond b (x ∷ filter q xs) (filter q xs))
          ≡ cond b (x ∷ filter q (filter p xs)) (filter q (filter p xs))) [
            | true ↦ rw e (ap (λ ys. x ∷ ys) (filter-swap p q xs))
            | false ↦ filter-swap p q xs
          ]
      | false ↦ λ e. elim (q x) as (λ b. filter p (cond b (x ∷ filter q xs) (filter q xs))
          ≡ filter q (filter p xs)) [
            | true ↦ rw e (filter-swap p q xs)
            | false ↦ filter-swap p q xs
          ]
    ] refl

-- ---- a list in two parts
module _ {X B : Type 0} (step : B → X → B)
    (swap : (b : B) (x y : X) → step (step b x) y ≡ step (step b y) x) where
  fold-middle : (b : B) (x : X) (xs ys : List X)
      → fold step b (xs ++ x ∷ ys) ≡ fold step (step b x) (xs ++ ys)
  fold-middle b x [] ys = refl
  fold-middle b x (z ∷ zs) ys = fold-middle (step b z) x zs ys
      ∙ ap (λ c. fold step c (zs ++ ys)) (swap b z x)

  -- those that fail a test and those that pass it, in place of all
  pub fold-parts : (q : X → Bool) (b : B) (xs : List X)
      → fold step b xs ≡ fold step b (filter (λ x. not (q x)) xs ++ filter q xs)
  fold-parts q b [] = refl
  fold-parts q b (x ∷ xs) =
      let fail : List X = filter (λ y. not (q y)) xs in
      let pass : List X = filter q xs in
      elim (q x) as (λ t. fold step (step b x) xs
      ≡ fold step b (cond (not t) (x ∷ fail) fail ++ cond t (x ∷ pass) pass)) [
        | true ↦ fold-parts q (step b x) xs ∙ sym (fold-middle b x fail pass)
        | false ↦ fold-parts q (step b x) xs
      ]

pub length-parts : {X : Type 0} (q : X → Bool) (xs : List X)
    → length xs ≡ length (filter (λ x. not (q x)) xs) + length (filter q xs)
length-parts q [] = refl
length-parts {X} q (x ∷ xs) =
    let fail : List X = filter (λ y. not (q y)) xs in
    let pass : List X = filter q xs in
    elim (q x) as (λ t. length (x ∷ xs)
    ≡ length (cond (not t) (x ∷ fail) fail) + length (cond t (x ∷ pass) pass)) [
      | true ↦ omega (arith, length-parts q xs)
      | false ↦ omega (arith, length-parts q xs)
    ]

-- ---- the edges of both graphs
module _ (g h : Graph) (whole one : List Edge)
    (apart : one ≡ filter (λ e. not (edge_stays g h e)) whole)
    (same : stayed g h ≡ filter (edge_stays g h) whole) where
  parts_passing : (p : Edge → Bool)
      → filter (λ e. not (edge_stays g h e)) (filter p whole)
      ++ filter (edge_stays g h) (filter p whole) ≡ filter p one ++ filter p (stayed g h)
  parts_passing p =
      (λ j. filter-swap (λ e. not (edge_stays g h e)) p whole j
      ++ filter-swap (edge_stays g h) p whole j)
      ∙ (λ j. filter p (sym apart j) ++ filter p (sym same j))

  are_parts : (B : Type 0) → AreParts B whole one (stayed g h)
  are_parts B step start p swap = fold-parts step swap (edge_stays g h) start (filter p whole)
      ∙ ap (fold step start) (parts_passing p)

  are_counted : (p : Edge → Bool)
      → length (filter p whole) ≡ length (filter p one) + length (filter p (stayed g h))
  are_counted p =
      length-parts (edge_stays g h) (filter p whole)
      ∙ (λ j. length (filter-swap (λ e. not (edge_stays g h e)) p whole j) + length
      (filter-swap (edge_stays g h) p whole j))
      ∙ (λ j. length (filter p (sym apart j)) + length (filter p (sym same j)))

pub old_edges_parts : (B : Type 0) → OldEdgesAreParts B
old_edges_parts B g h = are_parts g h (edges g) (removed g h) (removed-filter g h)
    (stayed-filter_old g h) B

pub new_edges_parts : (B : Type 0) → NewEdgesAreParts B
new_edges_parts B g h = are_parts g h (edges h) (added g h) (added-filter g h) (stayed-filter g h) B

pub old_edges_counted : OldEdgesAreCounted
old_edges_counted g h = are_counted g h (edges g) (removed g h) (removed-filter g h)
    (stayed-filter_old g h)

pub new_edges_counted : NewEdgesAreCounted
new_edges_counted g h = are_counted g h (edges h) (added g h) (added-filter g h) (stayed-filter g h)

-- ---- edges out of a vertex
pub stayed_out : StayedOutIsFilter
stayed_out g h u = ap (filter (λ e. eqb e.src u)) (stayed-filter g h)
    ∙ filter-swap (λ e. eqb e.src u) (edge_stays g h) (edges h)

pub or_false : (a b : Bool) → (a || b) ≡ false → (a ≡ false) × (b ≡ false)
or_false true b e = absurd (cc)
or_false false b e = (refl, e)

-- where none of those that fail passes r, those that pass are all that pass r
all_pass : {X : Type 0} (r q : X → Bool) (xs : List X)
    → list_any r (filter (λ x. not (q x)) xs) ≡ false → filter r (filter q xs) ≡ filter r xs
all_pass r q [] h = refl
all_pass r q (x ∷ xs) h =
    elim (q x) as (λ b. list_any r (cond (not b) (x ∷ filter (λ y. not (q y)) xs)
    (filter (λ y. not (q y)) xs)) ≡ false
    → filter r (cond b (x ∷ filter q xs) (filter q xs))
    ≡ cond (r x) (x ∷ filter r xs) (filter r xs)) [
      | true ↦ λ k. ap (λ ys. cond (r x) (x ∷ ys) ys) (all_pass r q xs k)
      | false ↦ λ k. let parts = or_false (r x) (list_any r (filter (λ y. not (q y)) xs)) k in rw
          parts.0 (all_pass r q xs parts.1)
    ] h

pub out_edges_stay : OutEdgesStay
out_edges_stay g h u calm =
    let r : Edge → Bool = λ e. eqb e.src u in
    let parts = or_false (list_any r (removed g h)) (list_any r (added g h)) calm in
    let none_gone : list_any r (filter (λ e. not (edge_stays g h e)) (edges g))
    ≡ false = ap (list_any r) (sym (removed-filter g h)) ∙ parts.0 in
    let none_came : list_any r (filter (λ e. not (edge_stays g h e)) (edges h))
    ≡ false = ap (list_any r) (sym (added-filter g h)) ∙ parts.1 in
    sym (all_pass r (edge_stays g h) (edges h) none_came)
    ∙ ap (filter r) (sym (stayed-filter g h) ∙ stayed-filter_old g h)
    ∙ all_pass r (edge_stays g h) (edges g) none_gone
