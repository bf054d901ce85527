use Rattle.std.proofs.Common.{◌≡◌, ◌+◌, ℕ, List, length, get_or, map, ap, sym}
use Rattle.std.proofs.Common.{◌∙◌, arith}
use Rattle.std.specs.Prelude.{slice_get}
use Rattle.std.proofs.lemmas.Option.{slice_get-get_or}
use Rattle.bolt_base.specs.Graph.{Graph}
use Rattle.bolt_base.specs.Keep.{Entry}
use Rattle.vertex_expr.specs.declared.program.ProgramEntries.{ProgramEntries}
use Rattle.agg_history.specs.Puts.{Round}
use Rattle.refine_rows.specs.Progress.{again, vertices_put}
use Rattle.refine_rows.proofs.PickLemmas.{length_with_one}
use Rattle.refine_rows.proofs.PutLemmas.{goes_on}
use Rattle.refine_rows.proofs.first.begin.Goals as goal

pub loop-v-init : goal.loop-v-init
loop-v-init g c = record {
  within = c.requires.none.within;
  count = ap (λ (round : Round). length (map (λ (put : ℕ × Entry). put.0) round))
      c.requires.none.none;
}

pub put_first-requires : goal.put_first-requires
put_first-requires g c =
    let p : ProgramEntries = c.args.program.now in
    let was : Graph = g.O.OldGraph.graph in
    let now : Graph = g.A.Adjacency.plain c.args.graph.now in
    let k : ℕ = c.loop-v.v-index in
    let is : c.deref-v-items.result.now ≡ again p was now 0 =
    c.deref-v-items.ensures.value ∙ c.in_ok-begun.ensures in
    record {
      over = c.requires.change.over;
      within = c.loop-v.invariant.within;
      next = ap (slice_get (again p was now 0)) c.loop-v.invariant.count
          ∙ ap (λ (vs : List ℕ). slice_get vs k) (sym is)
          ∙ slice_get-get_or c.deref-v-items.result.now k 0 c.loop-v-test.true;
    }

pub loop-v-preserved : goal.loop-v-preserved
loop-v-preserved g c = record {
  within = c.in_ok-put_first.ensures.within;
  count = ap length c.in_ok-put_first.ensures.put
      ∙ length_with_one (vertices_put c.loop-v.overlay 0)
      (get_or c.deref-v-items.result.now c.loop-v.v-index 0)
      ∙ ap (λ (n : ℕ). n + 1) c.loop-v.invariant.count;
}

pub returns : goal.returns
returns g c =
    let p : ProgramEntries = c.args.program.now in
    let was : Graph = g.O.OldGraph.graph in
    let now : Graph = g.A.Adjacency.plain c.args.graph.now in
    let is : length c.deref-v-items.result.now ≡ length (again p was now 0) =
    ap length (c.deref-v-items.ensures.value ∙ c.in_ok-begun.ensures) in
    let past = c.loop-v-test.false in
    let count = c.loop-v.invariant.count in
    goes_on p was now c.args.history.now c.loop-v.overlay 0 c.loop-v.invariant.within (omega arith)
