use Rattle.std.proofs.Common.{rules, ◌≡◌, ◌≢◌, ◌≤◌, ℕ, ℤ, pos, cond, length, get_or}
use Rattle.std.proofs.Common.{replicate, ap, ◌∙◌, sym, subst, arith, FitsSigned, w64, to_z, of_z}
use Rattle.std.proofs.lemmas.Bool.{eq-eqb, ne_eqb}
use Rattle.std.proofs.lemmas.Int.{to_z-of_z}
use Rattle.bolt_base.specs.Graph.{Graph, outdeg}
use Rattle.vertex_expr.specs.declared.program.ProgramEntries.{ProgramEntries}
use Rattle.run_model.specs.Evaluable.{AreEvaluable}
use Rattle.run_model.specs.Given.{edge_gives, edge_of}
use Rattle.run_model.specs.Program.{lanes, by_lane, zeros}
use Rattle.run_model.specs.Rows.{contribute_env, contribution}
use Rattle.run_model.proofs.GivenLemmas.{degrees_long, degree_at, edge_evaluable, least_edge}
use Rattle.run_model.proofs.given.source_gives.Goals as goal

pub bounds-degrees-u : goal.bounds-degrees-u
bounds-degrees-u c = let n = degrees_long c.args.graph.now c.args.degrees.now c.requires.degrees in
    let s = c.requires.source in omega arith

pub returns-then-degrees-u-eq0 : goal.returns-then-degrees-u-eq0
returns-then-degrees-u-eq0 c =
    let p : ProgramEntries = c.args.program.now in
    let h : Graph = c.args.graph.now in
    let u : ℕ = c.args.u in
    let len : c.len.result ≡ lanes p = c.len.ensures
    ∙ ap (λ (x : ProgramEntries). length x.ranges) c.entries.ensures.entries in
    let none : get_or c.args.degrees.now u 0 ≡ 0 = search rules in
    let no_edges : outdeg h u ≡ 0 = sym
    (degree_at h c.args.degrees.now u c.requires.degrees c.requires.source) ∙ none in
    record {
      numbers = c.zeros.ensures ∙ ap (λ n. replicate n (pos 0)) len
          ∙ sym (ap (λ b. cond b (zeros p) (edge_gives p h c.args.vals.now (edge_of p u)))
          (eq-eqb (outdeg h u) 0 no_edges));
    }

pub contributed-requires-clause-lanes : goal.contributed-requires-clause-lanes
contributed-requires-clause-lanes c =
    let p : ProgramEntries = c.args.program.now in
    let h : Graph = c.args.graph.now in
    let u : ℕ = c.args.u in
    let fits : FitsSigned w64 p.limits.weight_lo =
    c.requires.before.safe.writable.limits.weight.lo_fits in
    let is : to_z w64 (of_z w64 c.entries-2.result.now.limits.weight_lo) ≡ p.limits.weight_lo =
    ap (λ (x : ProgramEntries). to_z w64 (of_z w64 x.limits.weight_lo)) c.entries-2.ensures.entries
    ∙ to_z-of_z w64 p.limits.weight_lo fits in
    let some_read : 1 ≤ get_or c.args.degrees.now u 0 = search rules in
    let same = degree_at h c.args.degrees.now u c.requires.degrees c.requires.source in
    let some : 1 ≤ outdeg h u = omega arith in
    subst (λ (w : ℤ). AreEvaluable p
    (contribute_env p h c.args.vals.now (record { src = u; dst = 0; weight = w }))
    p.contribute) (sym is)
    (edge_evaluable p h c.args.vals.now c.requires.before (edge_of p u)
    (least_edge p h c.args.vals.now c.requires.before u c.requires.source some))

pub returns : goal.returns
returns c =
    let p : ProgramEntries = c.args.program.now in
    let h : Graph = c.args.graph.now in
    let u : ℕ = c.args.u in
    let fits : FitsSigned w64 p.limits.weight_lo =
    c.requires.before.safe.writable.limits.weight.lo_fits in
    let is : to_z w64 (of_z w64 c.entries-2.result.now.limits.weight_lo) ≡ p.limits.weight_lo =
    ap (λ (x : ProgramEntries). to_z w64 (of_z w64 x.limits.weight_lo)) c.entries-2.ensures.entries
    ∙ to_z-of_z w64 p.limits.weight_lo fits in
    let some_read : 1 ≤ get_or c.args.degrees.now u 0 = search rules in
    let same = degree_at h c.args.degrees.now u c.requires.degrees c.requires.source in
    let apart : outdeg h u ≢ 0 = omega arith in
    record {
      numbers = c.contributed.ensures.numbers
          ∙ (λ j. by_lane p (λ l. contribution p h c.args.vals.now l (record {
            src = u;
            dst = 0;
            weight = is j;
          })))
          ∙ sym (ap (λ b. cond b (zeros p) (edge_gives p h c.args.vals.now (edge_of p u)))
          (ne_eqb (outdeg h u) 0 apart));
    }
