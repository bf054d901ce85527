use Rattle.std.proofs.Common.{◌≡◌, ◌+◌, ◌++◌, ◌∷◌, [], ℕ, Bool, List, length, sym, ap, ◌∙◌, arith}
use Rattle.bolt_base.specs.Graph.{Graph, vertices}
use Rattle.vertex_expr.specs.declared.program.ProgramEntries.{ProgramEntries}
use Rattle.run_model.specs.Logs.{differs}
use Rattle.run_model.specs.Rows.{row}
use Rattle.refine_rows.specs.Picked.{vertices_where}
use Rattle.refine_rows.specs.Seen.{changed_values}
use Rattle.refine_rows.proofs.ReadLemmas.{same_vertices}
use Rattle.round_engine.proofs.ChangeLemmas.{changed_first, new_differs, new_long, one_more}
use Rattle.round_engine.proofs.changes.renewed_at_cut.Goals as goal

pub overflow_add-next : goal.overflow_add-next
overflow_add-next g c =
    let most = c.requires.over.safe.writable.rounds.most in
    let low = c.requires.low in
    let is = c.cut-next.ensures in
    omega arith

pub loop-v-init : goal.loop-v-init
loop-v-init g c =
    let p : ProgramEntries = c.args.program.now in
    let was : Graph = g.O.OldGraph.graph in
    let now : Graph = g.A.Adjacency.plain c.args.graph.now in
    let cut : ℕ = c.args.history.now.cut in
    let count = same_vertices p was c.args.history.now c.requires.refined.within.laid.stands in
    let some = c.vertices-old.ensures.count in
    let olds : c.vertices-old.result ≡ vertices was = omega arith in
    let all = c.vertices-count.ensures in
    let more = c.requires.over.more in
    record {
      listed = c.in_ok-vs.ensures
          ∙ ap (λ n. changed_values p was now (n + 1)) c.cut-next.ensures
          ∙ sym (changed_first p was now cut)
          ∙ ap (λ n. vertices_where n (differs (row p was cut) (row p now cut))) (sym olds);
      past = omega arith;
      below = omega arith;
    }

pub loop-v-preserved : goal.loop-v-preserved
loop-v-preserved g c =
    let p : ProgramEntries = c.args.program.now in
    let was : Graph = g.O.OldGraph.graph in
    let now : Graph = g.A.Adjacency.plain c.args.graph.now in
    let cut : ℕ = c.args.history.now.cut in
    let v : ℕ = c.loop-v.v in
    let test : (ℕ → Bool) = differs (row p was cut) (row p now cut) in
    let count = same_vertices p was c.args.history.now c.requires.refined.within.laid.stands in
    let some = c.vertices-old.ensures.count in
    let past = c.loop-v.invariant.past in
    let small = c.loop-v-test.true in
    record {
      listed = c.in_ok-push.ensures.items
          ∙ ap (λ (vs : List ℕ). vs ++ v ∷ []) c.loop-v.invariant.listed
          ∙ sym (one_more test v (new_differs p was now cut v (omega arith)));
      past = omega arith;
      below = omega arith;
    }

pub returns : goal.returns
returns g c =
    let p : ProgramEntries = c.args.program.now in
    let was : Graph = g.O.OldGraph.graph in
    let now : Graph = g.A.Adjacency.plain c.args.graph.now in
    let cut : ℕ = c.args.history.now.cut in
    let long = new_long p was now cut in
    let all = c.vertices-count.ensures in
    let below = c.loop-v.invariant.below in
    let end = c.loop-v-test.false in
    c.loop-v.invariant.listed
    ∙ ap (λ n. vertices_where n (differs (row p was cut) (row p now cut)))
    (let e : c.loop-v.v ≡ length (row p now cut) = omega arith in e)
