-- The edges, degrees and attributes that an edit leaves.
use Rattle.std.proofs.Common.{◌≡◌, ℕ, ℤ, ◌+◌, Bool, true, false, cond, eqb, List, [], ◌∷◌, map}
use Rattle.std.proofs.Common.{filter, length, refl, sym, ap, ◌∙◌, subst, arith, Some, None}
use Rattle.std.specs.declared.cmp.Ordering.TheVariants.{Less, Equal, Greater}
use Rattle.std.specs.Ordering.{is_eq, eq_by_cmp}
use Rattle.std.specs.Cmp.{tied_itself}
use Rattle.std.specs.FinMap as finite
use Rattle.std.specs.FinMap.Entries.{put, find, by_order}
use Rattle.std.specs.List.{All, AllByRecursion}
use Rattle.std.proofs.lemmas.List.Elements.{recursion_from_All, All-from_recursion}
use Rattle.bolt_base.specs.Graph.{Graph, Pair, pair_cmp, edge, edges, outdeg, indeg}
use Rattle.bolt_base.specs.Edits.{edited}
use Rattle.bolt_base.specs.declared.edge.Edge.{Edge}
use Rattle.bolt_base.specs.declared.edge.Edit.TheVariants.{Add, Cut}
use Rattle.bolt_base.proofs.EdgeMap.{pairs_total, pairs_exact, tied_pairs_equal}

-- 1 where the test passes
abbrev pub one_if : Bool → ℕ
one_if b = cond b 1 0

length-filter-cons : {X : Type 0} (p : X → Bool) (x : X) (xs : List X)
    → length (filter p (x ∷ xs)) ≡ one_if (p x) + length (filter p xs)
length-filter-cons p x xs = elim (p x) as
    (λ b. length (cond b (x ∷ filter p xs) (filter p xs)) ≡ one_if b + length (filter p xs))
    [ true ↦ omega arith | false ↦ omega arith ]

filter_all : {X : Type 0} (xs : List X) → filter (λ _. true) xs ≡ xs
filter_all [] = refl
filter_all (x ∷ xs) = ap (λ ys. x ∷ ys) (filter_all xs)

-- ---- an entry put where there was none
module _ (k : Pair) (w : ℤ) where
  abbrev new : Edge
  new = edge (k, w)

  abbrev put_in : List (Pair × ℤ) → List Edge
  put_in es = map edge (put pair_cmp k w es)

  count_put : (p : Edge → Bool) (es : List (Pair × ℤ)) → find pair_cmp k es ≡ None
      → length (filter p (put_in es)) ≡ one_if (p new) + length (filter p (map edge es))
  count_put p [] h = length-filter-cons p new []
  count_put p (e ∷ es) h =
      elim (pair_cmp k e.0) as (λ r. cond (is_eq r) (Some e.1) (find pair_cmp k es) ≡ None
      → length (filter p (map edge (by_order r ((k, w) ∷ e ∷ es) ((e.0, w) ∷ es)
      (e ∷ put pair_cmp k w es)))) ≡ one_if (p new) + length (filter p (map edge (e ∷ es)))) [
        | Less ↦ λ n. length-filter-cons p new (map edge (e ∷ es))
        | Equal ↦ λ n. absurd (cc)
        | Greater ↦ λ n.
            let one : length (filter p (edge e ∷ put_in es))
            ≡ one_if (p (edge e)) + length (filter p (put_in es)) = length-filter-cons p
            (edge e) (put_in es) in
            let two : length (filter p (map edge (e ∷ es)))
            ≡ one_if (p (edge e)) + length (filter p (map edge es)) = length-filter-cons p
            (edge e) (map edge es) in
            let more = count_put p es n in
            omega arith
      ] h

  all_put : (P : Edge → Type 0) (es : List (Pair × ℤ)) → find pair_cmp k es ≡ None → P new
      → AllByRecursion P (map edge es) → AllByRecursion P (put_in es)
  all_put P [] h x all = (x, tt)
  all_put P (e ∷ es) h x all =
      elim (pair_cmp k e.0) as (λ r. cond (is_eq r) (Some e.1) (find pair_cmp k es) ≡ None
      → AllByRecursion P (map edge
      (by_order r ((k, w) ∷ e ∷ es) ((e.0, w) ∷ es) (e ∷ put pair_cmp k w es)))) [
        | Less ↦ λ n. (x, all)
        | Equal ↦ λ n. absurd (cc)
        | Greater ↦ λ n. (all.0, all_put P es n x all.1)
      ] h

  all_before : (P : Edge → Type 0) (es : List (Pair × ℤ)) → find pair_cmp k es ≡ None
      → AllByRecursion P (put_in es) → P new × AllByRecursion P (map edge es)
  all_before P [] h all = (all.0, tt)
  all_before P (e ∷ es) h all =
      elim (pair_cmp k e.0) as (λ r. cond (is_eq r) (Some e.1) (find pair_cmp k es) ≡ None
      → AllByRecursion P (map edge
      (by_order r ((k, w) ∷ e ∷ es) ((e.0, w) ∷ es) (e ∷ put pair_cmp k w es)))
      → P new × AllByRecursion P (map edge (e ∷ es))) [
        | Less ↦ λ n a. (a.0, a.1)
        | Equal ↦ λ n a. absurd (cc)
        | Greater ↦ λ n a. let rest = all_before P es n a.1 in (rest.0, (a.0, rest.1))
      ] h all

-- ---- an addition at a pair that has no edge
module _ (g : Graph) (e : Edge) (absent : finite.get g.weights (e.src, e.dst) ≡ None) where
  not_there : find pair_cmp (e.src, e.dst) (finite.entries g.weights) ≡ None
  not_there = sym (finite.get-entries g.weights (e.src, e.dst)) ∙ absent

  edges_added : edges (edited g (Add e))
      ≡ map edge (put pair_cmp (e.src, e.dst) e.weight (finite.entries g.weights))
  edges_added = ap (map edge) (finite.entries-insert pairs_total g.weights (e.src, e.dst) e.weight)

  pub get_added : (q : Pair)
      → finite.get (edited g (Add e)).weights q
      ≡ cond (eq_by_cmp pair_cmp q (e.src, e.dst)) (Some e.weight) (finite.get g.weights q)
  get_added q = finite.get-insert pairs_total g.weights (e.src, e.dst) e.weight q

  pub count_added : (p : Edge → Bool)
      → length (filter p (edges (edited g (Add e)))) ≡ one_if (p e) + length (filter p (edges g))
  count_added p = ap (λ es. length (filter p es)) edges_added
      ∙ count_put (e.src, e.dst) e.weight p (finite.entries g.weights) not_there

  pub length_added : length (edges (edited g (Add e))) ≡ 1 + length (edges g)
  length_added = ap length (sym (filter_all (edges (edited g (Add e))))) ∙ count_added (λ _. true)
      ∙ ap (λ es. 1 + length es) (filter_all (edges g))

  pub outdeg_added : (u : ℕ) → outdeg (edited g (Add e)) u ≡ one_if (eqb e.src u) + outdeg g u
  outdeg_added u = count_added (λ x. eqb x.src u)

  pub indeg_added : (v : ℕ) → indeg (edited g (Add e)) v ≡ one_if (eqb e.dst v) + indeg g v
  indeg_added v = count_added (λ x. eqb x.dst v)

  pub All-added : (P : Edge → Type 0) → P e → All P (edges g) → All P (edges (edited g (Add e)))
  All-added P here all =
      All-from_recursion P (edges (edited g (Add e))) (subst (AllByRecursion P) (sym edges_added)
      (all_put (e.src, e.dst) e.weight P (finite.entries g.weights) not_there here
      (recursion_from_All P (edges g) all)))

  pub All-before : (P : Edge → Type 0) → All P (edges (edited g (Add e))) → P e × All P (edges g)
  All-before P all =
      let both = all_before (e.src, e.dst) e.weight P (finite.entries g.weights) not_there
      (subst (AllByRecursion P) edges_added
      (recursion_from_All P (edges (edited g (Add e))) all)) in
      (both.0, All-from_recursion P (edges g) both.1)

-- ---- a cut of an edge that is there: the graph is what the addition of that edge makes of what is
-- left
module _ (g : Graph) (s d : ℕ) (w : ℤ) (there : finite.get g.weights (s, d) ≡ Some w) where
  abbrev edge_cut : Edge
  edge_cut = record { src = s; dst = d; weight = w }

  abbrev left : Graph
  left = edited g (Cut s d)

  tied_to_itself : eq_by_cmp pair_cmp (s, d) (s, d) ≡ true
  tied_to_itself = ap is_eq (tied_itself pairs_total (s, d))

  pub get_cut : (q : Pair)
      → finite.get left.weights q ≡ cond (eq_by_cmp pair_cmp q (s, d)) None (finite.get g.weights q)
  get_cut q = finite.get-remove pairs_total g.weights (s, d) q

  pub absent_after_cut : finite.get left.weights (s, d) ≡ None
  absent_after_cut = get_cut (s, d) ∙ ap (λ b. cond b None (finite.get g.weights (s, d)))
      tied_to_itself

  pub cut_restored : edited left (Add edge_cut) ≡ g
  cut_restored =
      let same : finite.insert left.weights (s, d) w
      ≡ g.weights = finite.same_map pairs_total pairs_exact _ _ (λ q.
      finite.get-insert pairs_total left.weights (s, d) w q
      ∙ ap (cond (eq_by_cmp pair_cmp q (s, d)) (Some w)) (get_cut q) ∙ back q) in
      λ i. record { attrs = g.attrs; weights = same i }
    where
      back : (q : Pair)
          → cond (eq_by_cmp pair_cmp q (s, d)) (Some w)
          (cond (eq_by_cmp pair_cmp q (s, d)) None (finite.get g.weights q))
          ≡ finite.get g.weights q
      back q = elim (eq_by_cmp pair_cmp q (s, d)) as
          (λ b. eq_by_cmp pair_cmp q (s, d) ≡ b
          → cond b (Some w) (cond b None (finite.get g.weights q)) ≡ finite.get g.weights q) [
            | true ↦ λ e. sym there ∙ ap (finite.get g.weights) (sym (tied_pairs_equal q (s, d) e))
            | false ↦ λ e. refl
          ] refl

  pub count_cut : (p : Edge → Bool)
      → length (filter p (edges g)) ≡ one_if (p edge_cut) + length (filter p (edges left))
  count_cut p = ap (λ h. length (filter p (edges h))) (sym cut_restored)
      ∙ count_added left edge_cut absent_after_cut p

  pub length_cut : length (edges g) ≡ 1 + length (edges left)
  length_cut = ap (λ h. length (edges h)) (sym cut_restored)
      ∙ length_added left edge_cut absent_after_cut

  pub outdeg_cut : (u : ℕ) → outdeg g u ≡ one_if (eqb s u) + outdeg left u
  outdeg_cut u = count_cut (λ x. eqb x.src u)

  pub indeg_cut : (v : ℕ) → indeg g v ≡ one_if (eqb d v) + indeg left v
  indeg_cut v = count_cut (λ x. eqb x.dst v)

  pub All-cut : (P : Edge → Type 0) → All P (edges g) → P edge_cut × All P (edges left)
  All-cut P all = All-before left edge_cut absent_after_cut P
      (subst (λ h. All P (edges h)) (sym cut_restored) all)
