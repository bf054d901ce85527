use Rattle.std.proofs.Common.{◌≡◌, ℤ, ◌∙◌, ap, sym, List, Option, rules, w64, FitsSigned, to_z}
use Rattle.std.proofs.Common.{of_z}
use Rattle.std.specs.Prelude.{is_some, not, Bool, true, false}
use Rattle.std.proofs.lemmas.Int.{to_z-of_z}
use Rattle.std.specs.FinMap as finite
use Rattle.bolt_base.specs.Graph.{Pair, Weights}
use Rattle.graph_text.proofs.WeightLemmas.{get-lookup, from_entries-insert}
use Rattle.graph_text.proofs.weight_map.WeightMap.put.Goals as goal

not-swap : (a b : Bool) → a ≡ not b → b ≡ not a
not-swap a true e = ap not (sym e)
not-swap a false e = ap not (sym e)

pub returns-clause-fresh : goal.returns-clause-fresh
returns-clause-fresh c =
    let k : Pair = (c.args.edge.src, c.args.edge.dst) in
    let absent : Option ℤ → Bool = λ o. not (is_some o) in
    not-swap _ _ c.is_none.ensures ∙ ap absent c.in_ok-old.ensures.old
    ∙ ap absent (sym (get-lookup k c.self.inside.map.entries))
    ∙ ap (λ (m : Weights). absent (finite.get m k)) c.self.view_is

pub returns-clause-put : goal.returns-clause-put
returns-clause-put c =
    let k : Pair = (c.args.edge.src, c.args.edge.dst) in
    let fits : FitsSigned w64 c.args.edge.weight = search rules in
    let w : ℤ = to_z w64 (of_z w64 c.args.edge.weight) in
    let view : List (Pair × ℤ) → Weights = λ es. finite.from_entries es in
    ap view c.in_ok-old.ensures.entries ∙ from_entries-insert k w c.self.inside.map.entries
    ∙ ap (λ (m : Weights). finite.insert m k w) c.self.view_is
    ∙ ap (λ (x : ℤ). finite.insert c.args.self.now k x) (to_z-of_z w64 c.args.edge.weight fits)
