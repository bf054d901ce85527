use Rattle.std.proofs.Common.{rules, ◌≡◌, ◌<◌, ◌+◌, ℕ, ℤ, length, FitsSigned, w64, sym, ap}
use Rattle.std.proofs.Common.{◌∙◌, subst, arith}
use Rattle.std.proofs.lemmas.Int.{to_z-of_z}
use Rattle.bolt_base.specs.Graph.{Graph}
use Rattle.bolt_base.specs.Keep.{Entry}
use Rattle.vertex_expr.specs.declared.program.ProgramEntries.{ProgramEntries}
use Rattle.run_model.specs.Program.{lanes, number}
use Rattle.run_model.specs.Rows.{at, row}
use Rattle.run_model.proofs.ByLane.{IsSoFar, one_more}
use Rattle.refine_rows.proofs.ReadLemmas.{copied_value}
use Rattle.hybrid_tail.proofs.KeptLemmas.{kept_entry, new_put}
use Rattle.hybrid_tail.proofs.kept.kept_value.Goals as goal

pub val-requires : goal.val-requires
val-requires g c =
    let p : ProgramEntries = c.args.program.now in
    let now : Graph = g.A.Adjacency.plain c.args.graph.now in
    let kept = c.requires.kept in
    let count = kept.refined.vertices in
    let cuts = kept.refined.belongs.cut in
    let low = c.requires.iteration in
    let there = c.requires.vertex in
    let wide = kept.refined.belongs.lanes ∙ kept.lanes in
    let len : c.len-lanes.result ≡ lanes p = c.len-lanes.ensures
    ∙ ap (λ (x : ProgramEntries). length x.ranges) c.entries.ensures.entries in
    let test = c.loop-lane-test.true in
    record {
      belongs = kept.refined.belongs;
      iteration = omega arith;
      vertex = omega arith;
      new = new_put p now c.args.history.now c.args.overlay.now kept c.args.i c.args.v low there;
      lane = omega arith;
    }

pub loop-lane-preserved : goal.loop-lane-preserved
loop-lane-preserved g c =
    let p : ProgramEntries = c.args.program.now in
    let now : Graph = g.A.Adjacency.plain c.args.graph.now in
    let f : ℕ → ℤ = number (at (row p now c.args.i) c.args.v) in
    let lane : ℕ = c.loop-lane.lane in
    let len : c.len-lanes.result ≡ lanes p = c.len-lanes.ensures
    ∙ ap (λ (x : ProgramEntries). length x.ranges) c.entries.ensures.entries in
    let small : lane < lanes p = let test = c.loop-lane-test.true in omega arith in
    let is : c.val.result ≡ f lane = c.val.ensures
    ∙ ap (λ (e : Entry). number e.1 lane)
    (kept_entry p now c.args.history.now c.args.overlay.now c.requires.kept c.args.i c.args.v
    c.requires.iteration c.requires.vertex) in
    let fits : FitsSigned w64 c.val.result = search rules in
    subst (IsSoFar f (lanes p) (lane + 1)) (sym c.set.ensures)
    (one_more f (lanes p) lane c.loop-lane.value _ c.loop-lane.invariant small
    (to_z-of_z w64 c.val.result fits ∙ is))

pub returns : goal.returns
returns g c =
    let p : ProgramEntries = c.args.program.now in
    let len : c.len-lanes.result ≡ lanes p = c.len-lanes.ensures
    ∙ ap (λ (x : ProgramEntries). length x.ranges) c.entries.ensures.entries in
    let past = c.loop-lane-test.false in
    copied_value p (g.A.Adjacency.plain c.args.graph.now) c.args.i c.args.v c.loop-lane.lane
    c.loop-lane.value c.requires.vertex c.loop-lane.invariant (omega arith)
