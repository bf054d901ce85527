use Rattle.std.proofs.Common.{◌≡◌, ℕ, ◌+◌, List, length, get_or, map, drop, refl, sym, ap}
use Rattle.std.proofs.Common.{◌∙◌, subst, arith}
use Rattle.std.specs.Prelude.{slice_get}
use Rattle.std.proofs.lemmas.Option.{slice_get-get_or}
use Rattle.bolt_base.specs.Graph.{Graph, vertices}
use Rattle.bolt_base.specs.Keep.{Entry}
use Rattle.vertex_expr.specs.declared.program.ProgramEntries.{ProgramEntries}
use Rattle.run_model.specs.Refined.{agg_again, is_again}
use Rattle.run_model.specs.Steps.{Step, step}
use Rattle.agg_history.specs.Puts.{Round}
use Rattle.refine_rows.specs.Progress.{again, vertices_put}
use Rattle.refine_rows.proofs.PickLemmas.{length_with_one}
use Rattle.refine_rows.proofs.PutLemmas.{goes_on}
use Rattle.refine_tasks.specs.Taking.{AreTakenTo}
use Rattle.retract_propagate.proofs.ApplyLemmas.{had_long, next_first, none_behind, none_taken_yet}
use Rattle.retract_propagate.proofs.applying.put_again.Goals as goal

pub loop-v-init : goal.loop-v-init
loop-v-init g c =
    let p : ProgramEntries = c.args.program.now in
    let was : Graph = g.O.OldGraph.graph in
    let now : Graph = g.A.Adjacency.plain c.args.graph.now in
    let vs : List ℕ = c.deref-v-items.result.now in
    let view = c.args.seat.now.view in
    let k = c.args.words.now.layout in
    let us : List ℕ = c.args.targets.now in
    record {
      within = c.requires.refined.within;
      count = ap (λ (round : Round). length (map (λ (put : ℕ × Entry). put.0) round))
          c.requires.refined.none;
      taken = subst (λ (n : ℕ). AreTakenTo p (step p was now c.args.i) k us view.amounts n vs view)
          (sym c.requires.first)
          (none_taken_yet p was now c.args.i k us vs view c.requires.iteration.0 c.requires.spread
          (c.deref-v-items.ensures.value ∙ c.in_ok-again.ensures));
      table = refl;
    }

pub next_aggregate-agg-requires-clause-old : goal.next_aggregate-agg-requires-clause-old
next_aggregate-agg-requires-clause-old g c =
    let v : ℕ = get_or c.deref-v-items.result.now c.loop-v.v-index 0 in
    ap length c.old_agg-old.ensures
    ∙ had_long c.args.program.now g.O.OldGraph.graph c.args.history.now
    c.requires.refined.within.laid.stands c.args.i v c.requires.iteration.1

pub put_entry-requires-clause-next : goal.put_entry-requires-clause-next
put_entry-requires-clause-next g c =
    let p : ProgramEntries = c.args.program.now in
    let was : Graph = g.O.OldGraph.graph in
    let now : Graph = g.A.Adjacency.plain c.args.graph.now in
    let k : ℕ = c.loop-v.v-index in
    let is : c.deref-v-items.result.now ≡ again p was now c.args.i =
    c.deref-v-items.ensures.value ∙ c.in_ok-again.ensures in
    ap (slice_get (again p was now c.args.i)) c.loop-v.invariant.count
    ∙ ap (λ (vs : List ℕ). slice_get vs k) (sym is)
    ∙ slice_get-get_or c.deref-v-items.result.now k 0 c.loop-v-test.true

pub put_entry-requires-clause-agg : goal.put_entry-requires-clause-agg
put_entry-requires-clause-agg g c =
    let p : ProgramEntries = c.args.program.now in
    let was : Graph = g.O.OldGraph.graph in
    let now : Graph = g.A.Adjacency.plain c.args.graph.now in
    let s : Step = step p was now c.args.i in
    let vs : List ℕ = c.deref-v-items.result.now in
    let k : ℕ = c.loop-v.v-index in
    let v : ℕ = get_or vs k 0 in
    let start = c.args.seat.now.view.amounts in
    let once = none_behind (vertices now) (is_again p was now c.args.i) vs k
    (c.deref-v-items.ensures.value ∙ c.in_ok-again.ensures) c.loop-v-test.true in
    let before = subst (λ (l : List ℕ). AreTakenTo p s c.args.words.now.layout c.args.targets.now
    start c.loop-v.next l c.loop-v.seat.view) (next_first vs k c.loop-v-test.true)
    c.loop-v.invariant.taken in
    c.next_aggregate-agg.ensures.agg s start (drop (k + 1) vs) before once
    ∙ ap (λ old. agg_again p s old v) c.old_agg-old.ensures

pub returns-in_err-put_entry-clause-left : goal.returns-in_err-put_entry-clause-left
returns-in_err-put_entry-clause-left g c =
    let p : ProgramEntries = c.args.program.now in
    let was : Graph = g.O.OldGraph.graph in
    let now : Graph = g.A.Adjacency.plain c.args.graph.now in
    let s : Step = step p was now c.args.i in
    let vs : List ℕ = c.deref-v-items.result.now in
    let k : ℕ = c.loop-v.v-index in
    let start = c.args.seat.now.view.amounts in
    let once = none_behind (vertices now) (is_again p was now c.args.i) vs k
    (c.deref-v-items.ensures.value ∙ c.in_ok-again.ensures) c.loop-v-test.true in
    let before = subst (λ (l : List ℕ). AreTakenTo p s c.args.words.now.layout c.args.targets.now
    start c.loop-v.next l c.loop-v.seat.view) (next_first vs k c.loop-v-test.true)
    c.loop-v.invariant.taken in
    let after = c.next_aggregate-agg.ensures.taken s start (drop (k + 1) vs) before once in
    record { inside = after.inside; left = after.left; marks = after.marks }

pub loop-v-preserved : goal.loop-v-preserved
loop-v-preserved g c =
    let p : ProgramEntries = c.args.program.now in
    let was : Graph = g.O.OldGraph.graph in
    let now : Graph = g.A.Adjacency.plain c.args.graph.now in
    let s : Step = step p was now c.args.i in
    let vs : List ℕ = c.deref-v-items.result.now in
    let k : ℕ = c.loop-v.v-index in
    let start = c.args.seat.now.view.amounts in
    let once = none_behind (vertices now) (is_again p was now c.args.i) vs k
    (c.deref-v-items.ensures.value ∙ c.in_ok-again.ensures) c.loop-v-test.true in
    let before = subst (λ (l : List ℕ). AreTakenTo p s c.args.words.now.layout c.args.targets.now
    start c.loop-v.next l c.loop-v.seat.view) (next_first vs k c.loop-v-test.true)
    c.loop-v.invariant.taken in
    record {
      within = c.in_ok-put_entry.ensures.within;
      count = ap length c.in_ok-put_entry.ensures.put
          ∙ length_with_one (vertices_put c.loop-v.overlay c.args.i) (get_or vs k 0)
          ∙ ap (λ (n : ℕ). n + 1) c.loop-v.invariant.count;
      taken = c.next_aggregate-agg.ensures.taken s start (drop (k + 1) vs) before once;
      table = c.next_aggregate-agg.ensures.table ∙ c.loop-v.invariant.table;
    }

pub returns-clause-refined : goal.returns-clause-refined
returns-clause-refined g c =
    let p : ProgramEntries = c.args.program.now in
    let was : Graph = g.O.OldGraph.graph in
    let now : Graph = g.A.Adjacency.plain c.args.graph.now in
    let same : length c.deref-v-items.result.now ≡ length (again p was now c.args.i) =
    ap length (c.deref-v-items.ensures.value ∙ c.in_ok-again.ensures) in
    let past = c.loop-v-test.false in
    let count = c.loop-v.invariant.count in
    goes_on p was now c.args.history.now c.loop-v.overlay c.args.i c.loop-v.invariant.within
    (omega arith)
