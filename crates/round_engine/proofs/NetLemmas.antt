-- A graph has no fewer edges than came or went.
use Rattle.std.proofs.Common.{◌≤◌, Bool, not, List, filter, length, refl, ap}
use Rattle.std.proofs.Common.{arith}
use Rattle.std.proofs.lemmas.List.Filters.{length-filter_both}
use Rattle.bolt_base.specs.Change.{added, removed}
use Rattle.bolt_base.specs.Graph.{Graph, edges}
use Rattle.bolt_base.specs.LawsOfChange.{edge_stays}
use Rattle.bolt_base.specs.declared.edge.Edge.{Edge}
use Rattle.bolt_base.proofs.EdgeParts.{added-filter, removed-filter}

some_of : (p : Edge → Bool) (es : List Edge) → length (filter p es) ≤ length es
some_of p es = let both = length-filter_both p (λ e. not (p e)) (λ e. refl) es in omega arith

pub added_within : (g h : Graph) → length (added g h) ≤ length (edges h)
added_within g h =
    let few = some_of (λ e. not (edge_stays g h e)) (edges h) in
    let is = ap length (added-filter g h) in
    omega arith

pub removed_within : (g h : Graph) → length (removed g h) ≤ length (edges g)
removed_within g h =
    let few = some_of (λ e. not (edge_stays g h e)) (edges g) in
    let is = ap length (removed-filter g h) in
    omega arith
