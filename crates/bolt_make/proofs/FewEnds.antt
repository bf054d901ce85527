-- A vertex has no more edges out of it, and into it, than there are vertices.
use Rattle.std.proofs.Common.{◌≡◌, ℕ, ℤ, suc, ◌+◌, ◌<◌, ◌≤◌, T, eqb, cond, List, [], ◌∷◌, map}
use Rattle.std.proofs.Common.{filter}
use Rattle.std.proofs.Common.{length}
use Rattle.std.proofs.Common.{refl, sym, ap, ◌∙◌, subst, arith, inl, inr}
use Rattle.std.specs.List.{All, AllByRecursion}
use Rattle.std.specs.Ordering.{nat_cmp, is_lt, ordering_then}
use Rattle.std.specs.declared.cmp.Ordering.TheVariants.{Less, Equal, Greater}
use Rattle.std.specs.FinMap as finite
use Rattle.std.specs.FinMap.Entries.{below_all, is_sorted}
use Rattle.std.proofs.lemmas.Bool.{eqb-true, cases_Bool}
use Rattle.std.proofs.lemmas.Bool.Decides.{nat_tests}
use Rattle.std.proofs.lemmas.Cmp.{ranked}
use Rattle.std.proofs.lemmas.List.Elements.{recursion_from_All}
use Rattle.bolt_base.specs.Graph.{Graph, Pair, pair_cmp, edge, edges, outdeg, indeg}
use Rattle.bolt_base.specs.declared.edge.Edge.{Edge}
use Rattle.bolt_base.proofs.SortedKeys.{both_hold, is_lt-less}

abbrev Entry : Type 0
Entry = Pair × ℤ

numbers_tie : (s u : ℕ) → s ≡ u → nat_cmp s u ≡ Equal
numbers_tie s u e = grind (arith, nat_tests)

-- of one source a later edge has a greater destination
next_dst : (e f : Entry) → T (is_lt (pair_cmp e.0 f.0)) → (edge e).src ≡ (edge f).src
    → (edge e).dst < (edge f).dst
next_dst e f h same =
    is_lt-less e.0.1 f.0.1 (subst (λ r. T (is_lt (ordering_then r (nat_cmp e.0.1 f.0.1))))
    (numbers_tie e.0.0 f.0.0 same) h)

-- into one destination a later edge has a greater source
next_src : (e f : Entry) → T (is_lt (pair_cmp e.0 f.0)) → (edge e).dst ≡ (edge f).dst
    → (edge e).src < (edge f).src
next_src e f h same = elim (nat_cmp e.0.0 f.0.0) as
    (λ r. nat_cmp e.0.0 f.0.0 ≡ r → T (is_lt (ordering_then r (nat_cmp e.0.1 f.0.1)))
    → e.0.0 < f.0.0) [
      | Less ↦ λ is t. ranked e.0.0 f.0.0 Less (sym is)
      | Equal ↦ λ is t. absurd (subst (λ r. T (is_lt r)) (numbers_tie e.0.1 f.0.1 same) t)
      | Greater ↦ λ is t. absurd t
    ] refl h

-- edges with one end u on a side rise by their other end
module _ (side other : Edge → ℕ) (next : (e f : Entry) → T (is_lt (pair_cmp e.0 f.0))
    → side (edge e) ≡ side (edge f) → other (edge e) < other (edge f)) where
  AreFrom : (u lo : ℕ) → List Entry → Type 0
  AreFrom u lo es = AllByRecursion (λ (e : Entry). side (edge e) ≡ u → lo ≤ other (edge e)) es

  all_from_zero : (u : ℕ) (es : List Entry) → AreFrom u 0 es
  unfolding AreFrom
  all_from_zero u [] = tt
  all_from_zero u (e ∷ es) = (λ at. omega arith, all_from_zero u es)

  later_from : (e : Entry) (u : ℕ) (es : List Entry) → T (below_all pair_cmp e.0 es)
      → side (edge e) ≡ u
      → AreFrom u (other (edge e) + 1) es
  unfolding AreFrom
  later_from e u [] h same = tt
  later_from e u (f ∷ es) h same =
      let parts = both_hold (is_lt (pair_cmp e.0 f.0)) (below_all pair_cmp e.0 es) h in (
        λ at. let up = next e f parts.0 (same ∙ sym at) in omega arith,
        later_from e u es parts.1
            same,
      )

  few_from : (n u lo : ℕ) (es : List Entry) → T (is_sorted pair_cmp es) → AreFrom u lo es
      → AllByRecursion (λ (x : Edge). other x < n) (map edge es) → lo ≤ n
      → length (filter (λ (x : Edge). eqb (side x) u) (map edge es)) + lo ≤ n
  unfolding AreFrom
  few_from n u lo [] s from small l = omega arith
  few_from n u lo (e ∷ es) s from small l =
      let parts = both_hold (below_all pair_cmp e.0 es) (is_sorted pair_cmp es) s in
      let rest : List Edge = filter (λ (x : Edge). eqb (side x) u) (map edge es) in
      let all : List Edge = filter (λ (x : Edge). eqb (side x) u) (map edge (e ∷ es)) in
      elim (cases_Bool (eqb (side (edge e)) u)) [
        | inl t ↦
            let same = eqb-true (side (edge e)) u t in
            let first = from.0 same in
            let below = small.0 in
            let more = few_from n u (other (edge e) + 1) es parts.1
            (later_from e u es parts.0 same) small.1 (omega arith) in
            let count : length all ≡ suc (length rest) =
            ap (λ b. length (cond b (edge e ∷ rest) rest)) t in
            omega arith
        | inr f ↦
            let more = few_from n u lo es parts.1 from.1 small.1 l in
            let count : length all ≡ length rest =
            ap (λ b. length (cond b (edge e ∷ rest) rest)) f in
            omega arith
      ]

  few_ends : (n u : ℕ) (g : Graph) → All (λ (x : Edge). other x < n) (edges g)
      → length (filter (λ (x : Edge). eqb (side x) u) (edges g)) ≤ n
  few_ends n u g small =
      let es = finite.entries g.weights in
      let few = few_from n u 0 es (finite.entries_sorted g.weights) (all_from_zero u es)
      (recursion_from_All (λ (x : Edge). other x < n) (edges g) small) (omega arith) in
      omega arith

pub few_out_edges : (n u : ℕ) (g : Graph) → All (λ (x : Edge). x.dst < n) (edges g) → outdeg g u ≤ n
few_out_edges n u g small = few_ends (λ (x : Edge). x.src) (λ (x : Edge). x.dst) next_dst n u g
    small

pub few_in_edges : (n v : ℕ) (g : Graph) → All (λ (x : Edge). x.src < n) (edges g) → indeg g v ≤ n
few_in_edges n v g small = few_ends (λ (x : Edge). x.dst) (λ (x : Edge). x.src) next_src n v g small
