-- A graph without edges is good, and how many edges a graph has.
use Rattle.std.proofs.Common.{◌≡◌, ◌<◌, ◌≤◌, ℤ, List, [], ◌∷◌, length, filter, sym, ap, ◌∙◌, subst}
use Rattle.std.proofs.Common.{arith}
use Rattle.std.specs.FinMap as finite
use Rattle.std.specs.List.{All}
use Rattle.std.proofs.lemmas.List.{length-map}
use Rattle.std.specs.Prelude.{◌==◌}
use Rattle.std.proofs.lemmas.List.Elements.{All-nil}
use Rattle.bolt_base.specs.Graph.{Graph, edge, edges, IsGood, IsBetween}
use Rattle.bolt_base.specs.Plain.{graph_of}
use Rattle.bolt_base.specs.declared.edge.Edge.{Edge}
use Rattle.bolt_base.specs.declared.limits.Limits.{Limits}
use Rattle.bolt_base.proofs.PlainLists.{length-graph_of}

no_items : (es : List Edge) → length es ≡ 0 → es ≡ []
no_items [] e = λ _. []
no_items (x ∷ es) e = absurd (omega arith)

pub bare_good : (l : Limits) (attrs : List ℤ) → length attrs ≤ l.vertices
    → All (λ a. IsBetween l.attr_lo l.attr_hi a) attrs → IsGood l (graph_of attrs [])
bare_good l attrs few within =
    let none : edges (graph_of attrs [])
    ≡ [] = no_items (edges (graph_of attrs [])) (length-graph_of attrs [] tt) in
    record {
      few_vertices = few;
      few_edges = let e = ap length none in omega arith;
      attrs = within;
      weights = subst (λ es. All (λ (e : Edge). IsBetween l.weight_lo l.weight_hi e.weight) es)
          (sym none) (All-nil (λ (e : Edge). IsBetween l.weight_lo l.weight_hi e.weight));
      ends = subst (λ es. All (λ (e : Edge). (e.src < length attrs) × (e.dst < length attrs)) es)
          (sym none) (All-nil (λ (e : Edge). (e.src < length attrs) × (e.dst < length attrs)));
      out_degrees = λ u. let e = ap (λ es. length (filter (λ (x : Edge). x.src == u) es)) none in
          omega arith;
      in_degrees = λ v. let e = ap (λ es. length (filter (λ (x : Edge). x.dst == v) es)) none in
          omega arith;
    }

-- the edges are as many as the weights
pub edge_count : (g : Graph) → length (edges g) ≡ finite.len g.weights
edge_count g = length-map (finite.entries g.weights) edge ∙ sym (finite.len-entries g.weights)
