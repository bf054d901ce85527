use Rattle.std.proofs.Common.{rules, ◌≡◌, ◌<◌, ℕ, ℤ, pos, List, [], length, get_or, replicate, sym}
use Rattle.std.proofs.Common.{ap, ◌∙◌, subst, arith, FitsSigned, w64, to_z, of_z}
use Rattle.std.proofs.lemmas.Int.{to_z-of_z}
use Rattle.std.proofs.lemmas.List.{get_or_read}
use Rattle.std.proofs.lemmas.List.FromFn.{length-map-range_with_len}
use Rattle.bolt_base.specs.Change.{attr_at}
use Rattle.bolt_base.specs.Graph.{Graph, vertices}
use Rattle.vertex_expr.specs.Meaning.{ev}
use Rattle.vertex_expr.specs.declared.program.ProgramEntries.{ProgramEntries}
use Rattle.run_model.specs.Evaluable.{AreEvaluable}
use Rattle.range_check.specs.Laws.{tree_at}
use Rattle.run_model.specs.Program.{lanes, params, by_lane, zeros}
use Rattle.run_model.specs.Rows.{Lists, at, each_vertex, apply_env, gathered, applied}
use Rattle.run_model.proofs.Evaluations.{apply_evaluable}
use Rattle.run_model.proofs.Gathering.{table_more}
use Rattle.run_model.proofs.InRange.{at_vertex, apply_in}
use Rattle.run_model.proofs.plain.next_values.Goals as goal

env_is : (p : ProgramEntries) (g : Graph) (v : ℕ) (zs agg val agg' val' : List ℤ) (a : ℤ)
    → zs ≡ zeros p → agg ≡ agg' → val ≡ val' → a ≡ attr_at g v
    → record { val = zs; agg = agg; old = val; outdeg = 0; weight = pos 0; attr = a; id = v }
    ≡ apply_env p g agg' val' v
env_is p g v zs agg val agg' val' a r s t u = λ j. record {
  val = r j;
  agg = s j;
  old = t j;
  outdeg = 0;
  weight = pos 0;
  attr = u j;
  id = v;
}

long_aggs : (g : Graph) (f : ℕ → List ℤ) (aggs : Lists) → aggs ≡ each_vertex g f
    → length aggs ≡ vertices g
long_aggs g f aggs e = ap length e ∙ length-map-range_with_len f 0 (vertices g)

agg_read : (g : Graph) (f : ℕ → List ℤ) (aggs : Lists) (v : ℕ) (x : List ℤ)
    → aggs ≡ each_vertex g f → v < vertices g → x ≡ get_or aggs v x → x ≡ f v
agg_read g f aggs v x e there is =
    let n = long_aggs g f aggs e in
    get_or_read aggs v x (omega arith) is [] ∙ ap (λ xs. get_or xs v []) e ∙ at_vertex g f v there

pub bounds-aggs-v : goal.bounds-aggs-v
bounds-aggs-v c =
    let n = long_aggs c.args.graph.now
    (gathered c.args.program.now c.args.graph.now c.args.vals.now) c.args.aggs.now
    c.requires.aggs in
    let long = ap length c.attrs-attrs.ensures.attrs in
    let test = c.loop-v-test.true in
    omega arith

pub evaluated-requires : goal.evaluated-requires
evaluated-requires c =
    let p : ProgramEntries = c.args.program.now in
    let g : Graph = c.args.graph.now in
    let v : ℕ = c.loop-v.v in
    let vals : Lists = c.args.vals.now in
    let len : c.len.result ≡ lanes p = c.len.ensures
    ∙ ap (λ (x : ProgramEntries). length x.ranges) c.entries-entries.ensures.entries in
    let long = ap length c.attrs-attrs.ensures.attrs in
    let test = c.loop-v-test.true in
    let there : v < vertices g = omega arith in
    let whole = c.requires.before.long in
    let attr : FitsSigned w64 (get_or c.attrs-attrs.result.now v (pos 0)) = search rules in
    let same = env_is p g v c.zeros-zeros.result c.index-aggs-v.result c.index-vals-v.result
    (gathered p g vals v) (at vals v)
    (to_z w64 (of_z w64 (get_or c.attrs-attrs.result.now v (pos 0))))
    (c.zeros-zeros.ensures ∙ ap (λ n. replicate n (pos 0)) len)
    (agg_read g (gathered p g vals) c.args.aggs.now v c.index-aggs-v.result c.requires.aggs
    there c.index-aggs-v.is)
    (get_or_read vals v c.index-vals-v.result (omega arith) c.index-vals-v.is [])
    (to_z-of_z w64 _ attr ∙ ap (λ xs. get_or xs v (pos 0)) c.attrs-attrs.ensures.attrs) in
    record {
      evaluable = subst (λ n. AreEvaluable p n c.entries-entries.result.now.apply) (sym same)
          (subst (λ (x : ProgramEntries). AreEvaluable p
          (apply_env p g (gathered p g vals v) (at vals v) v) x.apply)
          (sym c.entries-entries.ensures.entries)
          (apply_evaluable p c.requires.before.safe
          (apply_env p g (gathered p g vals v) (at vals v) v)
          (apply_in p g c.requires.before.safe c.requires.before.good vals
          c.requires.before.ranged v there)));
    }

pub loop-v-preserved : goal.loop-v-preserved
loop-v-preserved c =
    let p : ProgramEntries = c.args.program.now in
    let g : Graph = c.args.graph.now in
    let v : ℕ = c.loop-v.v in
    let vals : Lists = c.args.vals.now in
    let len : c.len.result ≡ lanes p = c.len.ensures
    ∙ ap (λ (x : ProgramEntries). length x.ranges) c.entries-entries.ensures.entries in
    let long = ap length c.attrs-attrs.ensures.attrs in
    let test = c.loop-v-test.true in
    let there : v < vertices g = omega arith in
    let whole = c.requires.before.long in
    let attr : FitsSigned w64 (get_or c.attrs-attrs.result.now v (pos 0)) = search rules in
    let same = env_is p g v c.zeros-zeros.result c.index-aggs-v.result c.index-vals-v.result
    (gathered p g vals v) (at vals v)
    (to_z w64 (of_z w64 (get_or c.attrs-attrs.result.now v (pos 0))))
    (c.zeros-zeros.ensures ∙ ap (λ n. replicate n (pos 0)) len)
    (agg_read g (gathered p g vals) c.args.aggs.now v c.index-aggs-v.result c.requires.aggs
    there c.index-aggs-v.is)
    (get_or_read vals v c.index-vals-v.result (omega arith) c.index-vals-v.is [])
    (to_z-of_z w64 _ attr ∙ ap (λ xs. get_or xs v (pos 0)) c.attrs-attrs.ensures.attrs) in
    let made : c.evaluated.result ≡ applied p g (gathered p g vals v) (at vals v) v =
    c.evaluated.ensures.numbers ∙ (λ j. by_lane p
    (λ l. ev (params p) (same j)
    (tree_at (ap (λ (x : ProgramEntries). x.apply) c.entries-entries.ensures.entries j)
    l))) in
    table_more (λ u. applied p g (gathered p g vals u) (at vals u) u) v c.loop-v.next.items
    c.push.new.self.items c.evaluated.result c.in_ok-push.ensures.items c.loop-v.invariant made
