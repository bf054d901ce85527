use Rattle.std.specs.List.{range_with_len}
use Rattle.std.proofs.Common.{rules, ◌≡◌, ◌<◌, ℤ, [], map, ap, ◌∙◌, sym, subst, arith, length}
use Rattle.std.proofs.Common.{FitsSigned, w64}
use Rattle.std.proofs.lemmas.Int.{to_z-of_z}
use Rattle.std.proofs.lemmas.List.{get_or_read}
use Rattle.std.proofs.lemmas.List.FromFn.{length-map-range_with_len}
use Rattle.bolt_base.specs.Graph.{Graph, vertices}
use Rattle.vertex_expr.specs.declared.program.ProgramEntries.{ProgramEntries}
use Rattle.run_model.specs.Evaluable.{AreEvaluable}
use Rattle.range_check.specs.Gathered.{with_one}
use Rattle.run_model.specs.Program.{lanes, number}
use Rattle.run_model.specs.Rows.{Lists, contribute_env}
use Rattle.run_model.proofs.InRange.{length-by_lane}
use Rattle.run_model.specs.Given.{edge_gives, source_gives}
use Rattle.run_model.specs.Given.{AreGiven}
use Rattle.run_model.proofs.GivenLemmas.{edge_evaluable, given_at}
use Rattle.vertex_steps.proofs.contributions.gather_edge.Goals as goal

given_long : (p : ProgramEntries) (h : Graph) (vals given : Lists)
    → given ≡ map (source_gives p h vals) (range_with_len 0 (vertices h))
    → length given ≡ vertices h
given_long p h vals given e = ap length e
    ∙ length-map-range_with_len (source_gives p h vals) 0 (vertices h)

pub index-requires : goal.index-requires
index-requires g c =
    let p : ProgramEntries = c.args.program.now in
    let h : Graph = g.A.Adjacency.plain c.args.graph.now in
    let vals : Lists = g.V.ValueRow.values c.args.row.now in
    let are = subst (AreGiven p h vals) c.in-BySource.is c.requires.given in
    let long = given_long p h vals c.in-BySource.given.items are.1 in
    let there = c.requires.edge.source in
    omega arith

pub evaluated_at-ones-requires-clause-evaluable : goal.evaluated_at-ones-requires-clause-evaluable
evaluated_at-ones-requires-clause-evaluable g c =
    let p : ProgramEntries = c.args.program.now in
    let h : Graph = g.A.Adjacency.plain c.args.graph.now in
    let vals : Lists = g.V.ValueRow.values c.args.row.now in
    let fits : FitsSigned w64 c.args.e.weight = search rules in
    subst (λ (w : ℤ). AreEvaluable p
    (contribute_env p h vals (record { src = c.args.e.src; dst = 0; weight = w }))
    p.contribute) (sym (to_z-of_z w64 c.args.e.weight fits))
    (edge_evaluable p h vals c.requires.before c.args.e c.requires.edge)

pub gather-requires-clause-long : goal.gather-requires-clause-long
gather-requires-clause-long g c =
    let p : ProgramEntries = c.args.program.now in
    let h : Graph = g.A.Adjacency.plain c.args.graph.now in
    let vals : Lists = g.V.ValueRow.values c.args.row.now in
    let are = subst (AreGiven p h vals) c.in-BySource.is c.requires.given in
    let size = given_long p h vals c.in-BySource.given.items are.1 in
    let there = c.requires.edge.source in
    let is : c.index.result.now ≡ edge_gives p h vals c.args.e =
    get_or_read c.in-BySource.given.items c.args.e.src c.index.result.now (omega arith)
    c.index.ensures []
    ∙ given_at p h vals c.requires.before are.0 c.in-BySource.given.items are.1
    c.args.e c.requires.edge in
    let long : length c.index.result.now ≡ lanes p = ap length is ∙ length-by_lane p _ in
    let entries : c.entries.result.now ≡ p = c.entries.ensures.entries in
    c.requires.long ∙ sym long

pub gather-requires-clause-fits : goal.gather-requires-clause-fits
gather-requires-clause-fits g c = λ l inside.
    let p : ProgramEntries = c.args.program.now in
    let h : Graph = g.A.Adjacency.plain c.args.graph.now in
    let vals : Lists = g.V.ValueRow.values c.args.row.now in
    let are = subst (AreGiven p h vals) c.in-BySource.is c.requires.given in
    let size = given_long p h vals c.in-BySource.given.items are.1 in
    let there = c.requires.edge.source in
    let is : c.index.result.now ≡ edge_gives p h vals c.args.e =
    get_or_read c.in-BySource.given.items c.args.e.src c.index.result.now (omega arith)
    c.index.ensures []
    ∙ given_at p h vals c.requires.before are.0 c.in-BySource.given.items are.1
    c.args.e c.requires.edge in
    let long : length c.index.result.now ≡ lanes p = ap length is ∙ length-by_lane p _ in
    let entries : c.entries.result.now ≡ p = c.entries.ensures.entries in
    let lane : l < lanes p = omega arith in
    subst (FitsSigned w64) (λ j. with_one (sym entries j).combine (number c.args.totals.now l)
    (number (sym is j) l)) (c.requires.fits l lane)

pub returns-in-BySource : goal.returns-in-BySource
returns-in-BySource g c =
    let p : ProgramEntries = c.args.program.now in
    let h : Graph = g.A.Adjacency.plain c.args.graph.now in
    let vals : Lists = g.V.ValueRow.values c.args.row.now in
    let are = subst (AreGiven p h vals) c.in-BySource.is c.requires.given in
    let size = given_long p h vals c.in-BySource.given.items are.1 in
    let there = c.requires.edge.source in
    let is : c.index.result.now ≡ edge_gives p h vals c.args.e =
    get_or_read c.in-BySource.given.items c.args.e.src c.index.result.now (omega arith)
    c.index.ensures []
    ∙ given_at p h vals c.requires.before are.0 c.in-BySource.given.items are.1
    c.args.e c.requires.edge in
    let long : length c.index.result.now ≡ lanes p = ap length is ∙ length-by_lane p _ in
    let entries : c.entries.result.now ≡ p = c.entries.ensures.entries in
    record {
      totals = c.gather.ensures.totals
          ∙ (λ j. map (λ l. with_one (entries j).combine (number c.args.totals.now l)
          (number (is j) l)) (range_with_len 0 (long j)));
    }

pub gather-requires-in-ByEdge-clause-long : goal.gather-requires-in-ByEdge-clause-long
gather-requires-in-ByEdge-clause-long g c =
    let p : ProgramEntries = c.args.program.now in
    let h : Graph = g.A.Adjacency.plain c.args.graph.now in
    let vals : Lists = g.V.ValueRow.values c.args.row.now in
    let is : c.evaluated_at-ones.result ≡ edge_gives p h vals c.args.e = search rules in
    let long : length c.evaluated_at-ones.result ≡ lanes p = ap length is ∙ length-by_lane p _ in
    let entries : c.entries.result.now ≡ p = c.entries.ensures.entries in
    c.requires.long ∙ sym long

pub gather-requires-in-ByEdge-clause-fits : goal.gather-requires-in-ByEdge-clause-fits
gather-requires-in-ByEdge-clause-fits g c = λ l inside.
    let p : ProgramEntries = c.args.program.now in
    let h : Graph = g.A.Adjacency.plain c.args.graph.now in
    let vals : Lists = g.V.ValueRow.values c.args.row.now in
    let is : c.evaluated_at-ones.result ≡ edge_gives p h vals c.args.e = search rules in
    let long : length c.evaluated_at-ones.result ≡ lanes p = ap length is ∙ length-by_lane p _ in
    let entries : c.entries.result.now ≡ p = c.entries.ensures.entries in
    let lane : l < lanes p = omega arith in
    subst (FitsSigned w64) (λ j. with_one (sym entries j).combine (number c.args.totals.now l)
    (number (sym is j) l)) (c.requires.fits l lane)

pub returns-in-ByEdge : goal.returns-in-ByEdge
returns-in-ByEdge g c =
    let p : ProgramEntries = c.args.program.now in
    let h : Graph = g.A.Adjacency.plain c.args.graph.now in
    let vals : Lists = g.V.ValueRow.values c.args.row.now in
    let is : c.evaluated_at-ones.result ≡ edge_gives p h vals c.args.e = search rules in
    let long : length c.evaluated_at-ones.result ≡ lanes p = ap length is ∙ length-by_lane p _ in
    let entries : c.entries.result.now ≡ p = c.entries.ensures.entries in
    record {
      totals = c.gather-in-ByEdge.ensures.totals
          ∙ (λ j. map (λ l. with_one (entries j).combine (number c.args.totals.now l)
          (number (is j) l)) (range_with_len 0 (long j)));
    }
