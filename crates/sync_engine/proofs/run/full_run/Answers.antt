use Rattle.std.proofs.Common.{◌≡◌, length, ap, arith}
use Rattle.bolt_base.specs.Graph.{Graph, edges}
use Rattle.vertex_expr.specs.declared.program.ProgramEntries.{ProgramEntries}
use Rattle.sync_engine.proofs.Counts.{both_parts}
use Rattle.sync_engine.proofs.run.full_run.Goals as goal

pub last_values-requires-clause-room : goal.last_values-requires-clause-room
last_values-requires-clause-room g c κs within =
    let h : Graph = g.A.Adjacency.plain c.args.graph.now in
    let rounds : c.program-program.result.now.rounds
    ≡ c.args.accepted.now.rounds = ap
    (λ (x : ProgramEntries). x.rounds) c.program-program.ensures.program in
    let parts = both_parts c.args.cut c.args.accepted.now.rounds c.program-program.result.now.rounds
    (length (edges h)) rounds c.requires.cut in
    let first = c.in_ok-rows.ensures.exact in
    let room = c.requires.room in
    omega arith

pub returns-clause-exact : goal.returns-clause-exact
returns-clause-exact g c =
    let h : Graph = g.A.Adjacency.plain c.args.graph.now in
    let rounds : c.program-program.result.now.rounds
    ≡ c.args.accepted.now.rounds = ap
    (λ (x : ProgramEntries). x.rounds) c.program-program.ensures.program in
    let parts = both_parts c.args.cut c.args.accepted.now.rounds c.program-program.result.now.rounds
    (length (edges h)) rounds c.requires.cut in
    let first = c.in_ok-rows.ensures.exact in
    let last = c.in_ok-last.ensures.exact in
    omega arith
