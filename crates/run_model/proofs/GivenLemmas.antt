-- What an edge gives can be evaluated, and where weights don't matter it is what its source gives.
use Rattle.std.proofs.Common.{◌≡◌, ◌≢◌, ℕ, ◌<◌, ◌≤◌, ◌≤ℤ◌, false, List, length, get_or, map, refl}
use Rattle.std.proofs.Common.{ap, ◌∙◌, arith, if◌then◌else◌}
use Rattle.std.specs.List.{range_with_len}
use Rattle.std.proofs.lemmas.List.FromFn.{length-map-range_with_len, get_or-map-range_with_len}
use Rattle.std.proofs.lemmas.Int.{ints}
use Rattle.std.proofs.lemmas.Bool.{ne_eqb}
use Rattle.bolt_base.specs.Graph.{Graph, vertices, outdeg}
use Rattle.bolt_base.specs.declared.edge.Edge.{Edge}
use Rattle.vertex_expr.specs.Mentions.{AgreeFor, mentions_weight}
use Rattle.vertex_expr.specs.declared.program.ProgramEntries.{ProgramEntries}
use Rattle.vertex_expr.proofs.Unmentioned.{same_meaning}
use Rattle.range_check.specs.Laws.{tree_at}
use Rattle.run_model.specs.Evaluable.{AreEvaluable}
use Rattle.run_model.specs.Program.{lanes, params, zeros}
use Rattle.run_model.specs.Rows.{Lists, at, each_vertex, contribute_env, contribution}
use Rattle.run_model.proofs.Evaluations.{contribute_evaluable}
use Rattle.run_model.proofs.InRange.{IsFine, contribute_in, at_vertex}
use Rattle.run_model.proofs.Listed.{same_lanes}
use Rattle.run_model.specs.Given.{IsBefore, IsEdge, IsWeightless, edge_gives, edge_of, source_gives}

pub degrees_long : (g : Graph) (xs : List ℕ) → xs ≡ map (outdeg g) (range_with_len 0 (vertices g))
    → length xs ≡ vertices g
degrees_long g xs e = ap length e ∙ length-map-range_with_len (outdeg g) 0 (vertices g)

pub degree_at : (g : Graph) (xs : List ℕ) (u : ℕ)
    → xs ≡ map (outdeg g) (range_with_len 0 (vertices g)) → u < vertices g
    → get_or xs u 0 ≡ outdeg g u
degree_at g xs u e small = ap (λ ys. get_or ys u 0) e
    ∙ get_or-map-range_with_len (outdeg g) 0 (vertices g) u u 0 small (omega arith)

module _ (p : ProgramEntries) (g : Graph) (vals : Lists) (before : IsBefore p g vals) where
  pub fine_of : (e : Edge) → IsEdge p g e → IsFine p g before.safe before.good e
  fine_of e is = record { source = is.source; weight = is.weight; some = is.some }

  pub edge_evaluable : (e : Edge) → IsEdge p g e
      → AreEvaluable p (contribute_env p g vals e) p.contribute
  edge_evaluable e is = contribute_evaluable p before.safe (contribute_env p g vals e)
      (contribute_in p g before.safe before.good vals before.ranged e (fine_of e is))

  -- an edge of the least weight out of a vertex that has edges
  pub least_edge : (u : ℕ) → u < vertices g → 1 ≤ outdeg g u → IsEdge p g (edge_of p u)
  least_edge u there some = let order = before.safe.writable.limits.weight.order in record {
    source = there;
    weight = (
      let low : p.limits.weight_lo ≤ℤ p.limits.weight_lo = omega (arith, ints) in low,
      order,
    );
    some = some;
  }

  weightless_agree : IsWeightless p → (e : Edge) (l : ℕ) → l < lanes p
      → AgreeFor (tree_at p.contribute l) (contribute_env p g vals (edge_of p e.src))
      (contribute_env p g vals e)
  weightless_agree none e l small = record {
    val = refl;
    agg = refl;
    old = refl;
    id = refl;
    outdeg = λ _. refl;
    weight = λ mentioned. let unmentioned : mentions_weight (tree_at p.contribute l)
        ≡ false = none l small in absurd (cc);
    attr = λ _. refl;
  }

  pub same_gives : IsWeightless p → (e : Edge)
      → edge_gives p g vals (edge_of p e.src) ≡ edge_gives p g vals e
  same_gives none e =
      same_lanes p (λ l. contribution p g vals l (edge_of p e.src)) (λ l. contribution p g vals l e)
      (λ l small. same_meaning (params p) (contribute_env p g vals (edge_of p e.src))
      (contribute_env p g vals e) (tree_at p.contribute l) (weightless_agree none e l small))

  pub given_at : IsWeightless p → (given : Lists) → given ≡ each_vertex g (source_gives p g vals)
      → (e : Edge) → IsEdge p g e → at given e.src ≡ edge_gives p g vals e
  given_at none given is e edge =
      let some = edge.some in
      let apart : outdeg g e.src ≢ 0 = omega arith in
      ap (λ xs. at xs e.src) is ∙ at_vertex g (source_gives p g vals) e.src edge.source
      ∙ ap (λ b. if b then zeros p else edge_gives p g vals (edge_of p e.src))
      (ne_eqb (outdeg g e.src) 0 apart)
      ∙ same_gives none e
