-- How the logic stores a graph, and limits.
use Rattle.std.specs.Prelude.{ℕ, ℤ, List, refl}
use Rattle.std.specs.Coded.{Coded, code_by, coded×, coded_ℕ, coded_ℤ, coded_list}
use Rattle.std.specs.FinMap as finite
use Rattle.bolt_base.specs.Graph.{Graph, Weights}
use Rattle.bolt_base.specs.declared.limits.Limits.{Limits}

abbrev pub coded_graph : Coded Graph
coded_graph =
    code_by (List ℤ × Weights)
    (coded× (coded_list coded_ℤ) (finite.code (coded× coded_ℕ coded_ℕ) coded_ℤ))
    (λ g. (g.attrs, g.weights)) (λ p. record { attrs = p.0; weights = p.1 }) (λ _. refl)

abbrev pub coded_limits : Coded Limits
coded_limits =
    code_by (ℕ × (ℕ × (ℕ × (ℤ × (ℤ × (ℤ × ℤ))))))
    (coded× coded_ℕ (coded× coded_ℕ (coded× coded_ℕ
    (coded× coded_ℤ (coded× coded_ℤ (coded× coded_ℤ coded_ℤ))))))
    (λ l. (
      l.vertices,
      (
        l.degree,
        (
          l.edges,
          (l.weight_lo, (l.weight_hi, (l.attr_lo, l.attr_hi))),
        ),
      ),
    ))
    (λ p. record {
      vertices = p.0;
      degree = p.1.0;
      edges = p.1.1.0;
      weight_lo = p.1.1.1.0;
      weight_hi = p.1.1.1.1.0;
      attr_lo = p.1.1.1.1.1.0;
      attr_hi = p.1.1.1.1.1.1;
    }) (λ _. refl)
