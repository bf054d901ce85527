use Rattle.std.proofs.Common.{◌≡◌, ◌≢◌, ◌-◌, ◌<◌, ◌≤◌, ℕ, ℤ, not, ◌&&◌, length, ap, sym, ◌∙◌}
use Rattle.std.proofs.Common.{arith, inl, inr, rules, FitsSigned, w64, of_z, to_z}
use Rattle.std.proofs.lemmas.Bool.{cases_eq}
use Rattle.std.proofs.lemmas.Int.{to_z-of_z}
use Rattle.bolt_base.specs.Graph.{Graph, vertices}
use Rattle.bolt_base.specs.Keep.{Entry}
use Rattle.vertex_expr.specs.declared.program.ProgramEntries.{ProgramEntries}
use Rattle.run_model.specs.Program.{lanes, number}
use Rattle.run_model.specs.Rows.{at, row}
use Rattle.run_model.specs.Steps.{step, value_changed}
use Rattle.run_model.proofs.Still.{is_le, not_new}
use Rattle.refine_rows.proofs.ReadLemmas.{laid_entry, old_entry, other_number, same_numbers}
use Rattle.refine_rows.proofs.ReadLemmas.{same_vertices}
use Rattle.refine_rows.proofs.dirty.has_other_value.Goals as goal

pub returns-then-vertices-u : goal.returns-then-vertices-u
returns-then-vertices-u g c =
    let p : ProgramEntries = c.args.program.now in
    let was : Graph = g.O.OldGraph.graph in
    let now : Graph = g.A.Adjacency.plain c.args.graph.now in
    let count = same_vertices p was c.args.history.now c.requires.laid.stands in
    let some = c.vertices.ensures.count in
    sym (ap (λ b. not b && value_changed (step p was now c.args.i) c.args.u)
    (is_le (vertices was) c.args.u (omega arith)))

pub returns-then-was-now : goal.returns-then-was-now
returns-then-was-now g c =
    let p : ProgramEntries = c.args.program.now in
    let was : Graph = g.O.OldGraph.graph in
    let now : Graph = g.A.Adjacency.plain c.args.graph.now in
    let i : ℕ = c.args.i in
    let u : ℕ = c.args.u in
    let lane : ℕ = c.loop-lane.lane in
    let count = same_vertices p was c.args.history.now c.requires.laid.stands in
    let some = c.vertices.ensures.count in
    let past = c.if-vertices-u.false in
    let first = c.requires.some in
    let low = c.requires.low in
    let there : u < vertices was = omega arith in
    let had : c.val-was.result ≡ number (at (row p was (i - 1)) u) lane = c.val-was.ensures
    ∙ ap (λ (e : Entry). number e.1 lane)
    (old_entry p was c.args.history.now c.requires.laid.stands (i - 1) u (omega arith) there) in
    let has : c.val-now.result ≡ number (at (row p now (i - 1)) u) lane = c.val-now.ensures
    ∙ ap (λ (e : Entry). number e.1 lane)
    (laid_entry p was now c.args.history.now c.args.overlay.now c.requires.over c.requires.laid
    (i - 1) u c.requires.refined (omega arith) c.requires.vertex) in
    let apart = c.if-was-now.true in
    let is : value_changed (step p was now i) u ≡ _ = other_number p was now i u there
    c.requires.vertex lane (λ e. absurd (apart (ap (of_z w64) (had ∙ e ∙ sym has)))) in
    sym (ap (λ b. not b && value_changed (step p was now i) u) (not_new (vertices was) u there)
    ∙ is)

pub loop-lane-preserved : goal.loop-lane-preserved
loop-lane-preserved g c =
    let p : ProgramEntries = c.args.program.now in
    let was : Graph = g.O.OldGraph.graph in
    let now : Graph = g.A.Adjacency.plain c.args.graph.now in
    let i : ℕ = c.args.i in
    let u : ℕ = c.args.u in
    let lane : ℕ = c.loop-lane.lane in
    let count = same_vertices p was c.args.history.now c.requires.laid.stands in
    let some = c.vertices.ensures.count in
    let past = c.if-vertices-u.false in
    let first = c.requires.some in
    let low = c.requires.low in
    let there : u < vertices was = omega arith in
    let had : c.val-was.result ≡ number (at (row p was (i - 1)) u) lane = c.val-was.ensures
    ∙ ap (λ (e : Entry). number e.1 lane)
    (old_entry p was c.args.history.now c.requires.laid.stands (i - 1) u (omega arith) there) in
    let has : c.val-now.result ≡ number (at (row p now (i - 1)) u) lane = c.val-now.ensures
    ∙ ap (λ (e : Entry). number e.1 lane)
    (laid_entry p was now c.args.history.now c.args.overlay.now c.requires.over c.requires.laid
    (i - 1) u c.requires.refined (omega arith) c.requires.vertex) in
    let was_fits : FitsSigned w64 c.val-was.result = search rules in
    let now_fits : FitsSigned w64 c.val-now.result = search rules in
    let same : c.val-was.result ≡ c.val-now.result = sym (to_z-of_z w64 c.val-was.result was_fits)
    ∙ ap (to_z w64) c.if-was-now.false ∙ to_z-of_z w64 c.val-now.result now_fits in
    λ j below. elim (cases_eq j lane) [
      | inl here ↦ ap (number (at (row p now (i - 1)) u)) here ∙ sym has ∙ sym same ∙ had
          ∙ ap (number (at (row p was (i - 1)) u)) (sym here)
      | inr apart ↦ c.loop-lane.invariant j (omega arith)
    ]

pub returns : goal.returns
returns g c =
    let p : ProgramEntries = c.args.program.now in
    let was : Graph = g.O.OldGraph.graph in
    let now : Graph = g.A.Adjacency.plain c.args.graph.now in
    let u : ℕ = c.args.u in
    let len : c.len-lanes.result ≡ lanes p = c.len-lanes.ensures
    ∙ ap (λ (x : ProgramEntries). length x.ranges) c.entries.ensures.entries in
    let count = same_vertices p was c.args.history.now c.requires.laid.stands in
    let some = c.vertices.ensures.count in
    let before = c.if-vertices-u.false in
    let there : u < vertices was = omega arith in
    let past = c.loop-lane-test.false in
    sym (ap (λ b. not b && value_changed (step p was now c.args.i) u)
    (not_new (vertices was) u there)
    ∙ same_numbers p was now c.args.i u there c.requires.vertex c.loop-lane.lane (omega arith)
    c.loop-lane.invariant)
