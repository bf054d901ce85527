-- Graphs of drawn pairs are good within wide limits.
use Rattle.std.proofs.Common.{◌≡◌, ℕ, ℤ, pos, suc, zero, ◌+◌, ◌<◌, ◌≤◌, ◌%◌, true, false}
use Rattle.std.proofs.Common.{cond, List, [], ◌∷◌, length}
use Rattle.std.proofs.Common.{replicate, refl, sym, ap, subst, arith, Option, None}
use Rattle.std.proofs.Common.{Some}
use Rattle.std.specs.Prelude.{is_some}
use Rattle.std.specs.List.{All, AllByRecursion}
use Rattle.std.specs.FinMap as finite
use Rattle.std.proofs.lemmas.List.{length-replicate}
use Rattle.std.proofs.lemmas.Nat.{mod_below}
use Rattle.std.proofs.lemmas.List.Elements.{All-replicate, All-weaker}
use Rattle.bolt_base.specs.Graph.{Graph, Pair, IsGood, IsBetween, edges}
use Rattle.bolt_base.specs.Edits.{edited, has_edge}
use Rattle.bolt_base.specs.declared.edge.Edge.{Edge}
use Rattle.bolt_base.specs.declared.limits.Limits.{Limits}
use Rattle.bolt_base.proofs.PlainLists.{length-graph_of}
use Rattle.bolt_base.proofs.EditLemmas.{length_added, All-added}
use Rattle.bolt_make.specs.Draws.{seeded, drawn, drawn_pairs}
use Rattle.bolt_make.specs.Generator.{bare, added, unit_edge, with_pair, joined, made_pairs}
use Rattle.bolt_make.specs.Generator.{made_graph}
use Rattle.bolt_make.specs.Made.{AreWide}
use Rattle.bolt_make.proofs.FewEnds.{few_out_edges, few_in_edges}

abbrev IsMadeEdge : ℕ → Edge → Type 0
IsMadeEdge n e = (e.weight ≡ pos 1) × (e.src < n) × (e.dst < n)

-- n vertices with the attribute 0, and at most c edges, each of weight 1
pub record IsMade (n c : ℕ) (g : Graph) : Type 0 where
  pub vertices : length g.attrs ≡ n
  pub attrs : All (λ a. a ≡ pos 0) g.attrs
  pub units : All (IsMadeEdge n) (edges g)
  pub count : length (edges g) ≤ c

pub bare_made : (n : ℕ) → IsMade n 0 (bare n)
bare_made n =
    let none : length (edges (bare n)) ≡ 0 = length-graph_of (replicate n (pos 0)) [] tt in
    record {
      vertices = length-replicate n (pos 0);
      attrs = All-replicate (λ a. a ≡ pos 0) n (pos 0) refl;
      units = λ k d i. absurd (omega arith);
      count = omega arith;
    }

no_edge : (o : Option ℤ) → is_some o ≡ false → o ≡ None
no_edge None h = refl
no_edge (Some x) h = cc

-- a pair of vertices is joined
pub with_pair_made : (n c : ℕ) (g : Graph) (p : Pair) → IsMade n c g → p.0 < n → p.1 < n
    → IsMade n (c + 1) (with_pair g p)
with_pair_made n c g p m s d = elim (has_edge g p.0 p.1) as
    (λ b. has_edge g p.0 p.1 ≡ b → IsMade n (c + 1) (cond b g (edited g (added p)))) [
      | true ↦ λ is. record {
        vertices = m.vertices;
        attrs = m.attrs;
        units = m.units;
        count = let few
            = m.count in omega arith;
      }
      | false ↦ λ is.
          let absent = no_edge (finite.get g.weights (p.0, p.1)) is in
          record {
            vertices = m.vertices;
            attrs = m.attrs;
            units = All-added g (unit_edge p) absent (IsMadeEdge n) (refl, s, d) m.units;
            count = let few = m.count in omega (arith, length_added g (unit_edge p) absent);
          }
    ] refl

AreBelow : ℕ → List Pair → Type 0
AreBelow n pairs = AllByRecursion (λ (p : Pair). (p.0 < n) × (p.1 < n)) pairs

joined_made : (n c : ℕ) (g : Graph) (pairs : List Pair) → IsMade n c g → AreBelow n pairs
    → IsMade n (c + length pairs) (joined g pairs)
unfolding AreBelow
joined_made n c g [] m below = record {
  vertices = m.vertices;
  attrs = m.attrs;
  units = m.units;
  count = let few = m.count in omega
      arith;
}
joined_made n c g (p ∷ pairs) m below =
    let first = below.0 in
    let rest = joined_made n (c + 1) (with_pair g p) pairs
    (with_pair_made n c g p m first.0 first.1) below.1 in
    record {
      vertices = rest.vertices;
      attrs = rest.attrs;
      units = rest.units;
      count = let few =
          rest.count in omega arith;
    }

rest_below : (x n : ℕ) → 1 ≤ n → x % n < n
rest_below x n some = let more : 0 < n = omega arith in mod_below x n more

drawn_pairs_below : (n count x : ℕ) → 1 ≤ n → AreBelow n (drawn_pairs n count x)
unfolding AreBelow
drawn_pairs_below n zero x some = tt
drawn_pairs_below n (suc k) x some = (
  (rest_below (drawn x) n some, rest_below (drawn (drawn x)) n some),
  drawn_pairs_below n k
      (drawn (drawn x)) some,
)

pub length-drawn_pairs : (n count x : ℕ) → length (drawn_pairs n count x) ≡ count
length-drawn_pairs n zero x = refl
length-drawn_pairs n (suc k) x = ap suc (length-drawn_pairs n k (drawn (drawn x)))

pub made_graph_made : (seed n count : ℕ) → 1 ≤ n → IsMade n count (made_graph seed n count)
made_graph_made seed n count some =
    let made = joined_made n 0 (bare n) (made_pairs seed n count) (bare_made n)
    (drawn_pairs_below n count (seeded seed) some) in
    record {
      vertices = made.vertices;
      attrs = made.attrs;
      units = made.units;
      count = let few = made.count in omega (arith, length-drawn_pairs n count (seeded seed));
    }

-- what is made is good within limits that are wide enough
pub made_good : (l : Limits) (n c : ℕ) (g : Graph) → AreWide l n c → IsMade n c g → IsGood l g
made_good l n c g wide made =
    let long = made.vertices in
    let few = made.count in
    let most = wide.edges in
    let all = wide.vertices in
    let degree = wide.degree in
    record {
      few_vertices = omega arith;
      few_edges = omega arith;
      attrs = All-weaker (λ a. a ≡ pos 0) (IsBetween l.attr_lo l.attr_hi)
          (λ a e. subst (IsBetween l.attr_lo l.attr_hi) (sym e) wide.attr) g.attrs made.attrs;
      weights = All-weaker (IsMadeEdge n) (λ e. IsBetween l.weight_lo l.weight_hi e.weight)
          (λ e is. subst (IsBetween l.weight_lo l.weight_hi) (sym is.0) wide.weight) (edges g)
          made.units;
      ends = All-weaker (IsMadeEdge n) (λ e. (e.src < length g.attrs) × (e.dst < length g.attrs))
          (λ e is. let src = is.1 in let dst = is.2 in (omega arith, omega arith)) (edges g)
          made.units;
      out_degrees = λ u.
          let few = few_out_edges n u g
          (All-weaker (IsMadeEdge n) (λ e. e.dst < n) (λ e is. is.2) (edges g) made.units) in
          omega arith;
      in_degrees = λ v.
          let few = few_in_edges n v g
          (All-weaker (IsMadeEdge n) (λ e. e.src < n) (λ e is. is.1) (edges g) made.units) in
          omega arith;
    }
