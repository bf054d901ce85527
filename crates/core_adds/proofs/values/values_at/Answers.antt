use Rattle.std.proofs.Common.{◌≡◌, ℕ, ◌∙◌}
use Rattle.bolt_base.specs.Graph.{Graph}
use Rattle.vertex_expr.specs.declared.program.ProgramEntries.{ProgramEntries}
use Rattle.run_model.specs.Rows.{row}
use Rattle.run_model.proofs.Runs.{next_row}
use Rattle.vertex_steps.proofs.Rounds.{before_at}
use Rattle.core_adds.proofs.values.values_at.Goals as goal

pub values_after-requires : goal.values_after-requires
values_after-requires g c =
    let p : ProgramEntries = c.args.program.now in
    let h : Graph = g.A.Adjacency.plain c.args.graph.now in
    let i : ℕ = c.loop-i.i in
    let read : c.deref.result.now ≡ row p h i = c.deref.ensures.value ∙ c.loop-i.invariant in
    record { before = before_at p h i c.deref.result.now read c.requires.safe c.requires.good }

pub loop-i-preserved : goal.loop-i-preserved
loop-i-preserved g c =
    let p : ProgramEntries = c.args.program.now in
    let h : Graph = g.A.Adjacency.plain c.args.graph.now in
    let i : ℕ = c.loop-i.i in
    let read : c.deref.result.now ≡ row p h i = c.deref.ensures.value ∙ c.loop-i.invariant in
    next_row p h i c.deref.result.now read c.in_ok-vals-2.vals.items c.in_ok-vals-2.ensures
