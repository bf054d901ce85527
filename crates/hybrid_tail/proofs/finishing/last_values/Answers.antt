use Rattle.std.proofs.Common.{◌≡◌, ◌+◌, ◌<◌, ◌≤◌, ◌++◌, ℕ, List, sym, ap, ◌∙◌, arith, append_assoc}
use Rattle.bolt_base.specs.Graph.{Graph}
use Rattle.bolt_base.specs.Residue.{Amount}
use Rattle.vertex_expr.specs.declared.program.ProgramEntries.{ProgramEntries}
use Rattle.run_model.proofs.VisitLemmas.{tail_more}
use Rattle.hybrid_tail.specs.TailAmounts.{tail_amounts_to, tail_step_amounts}
use Rattle.hybrid_tail.proofs.AmountLemmas.{amounts_more, visits_within}
use Rattle.hybrid_tail.proofs.finishing.last_values.Goals as goal

pub iterate-requires-clause-visits : goal.iterate-requires-clause-visits
iterate-requires-clause-visits g c κs within =
    let p : ProgramEntries = c.args.accepted.now in
    let h : Graph = g.A.Adjacency.plain c.args.graph.now in
    let cut : ℕ = c.args.history.now.cut in
    let i : ℕ = c.loop-i.i in
    let inv = c.loop-i.invariant in
    let from = c.cut-i.ensures in
    let rounds : c.entries.result.now.rounds ≡ p.rounds = ap (λ (q : ProgramEntries). q.rounds)
    (c.entries.ensures.entries ∙ c.program-program.ensures.program) in
    let start = c.loop-i.auto.i in
    let low : cut ≤ i = omega arith in
    let test = c.loop-i-test.true in
    let high : i < p.rounds = omega arith in
    let more = visits_within p h cut i p.rounds low high in
    let room = c.requires.visits in
    let count = inv.count in
    omega arith

pub returns-in_err-iterate-clause-most : goal.returns-in_err-iterate-clause-most
returns-in_err-iterate-clause-most g c =
    let p : ProgramEntries = c.args.accepted.now in
    let h : Graph = g.A.Adjacency.plain c.args.graph.now in
    let cut : ℕ = c.args.history.now.cut in
    let i : ℕ = c.loop-i.i in
    let inv = c.loop-i.invariant in
    let from = c.cut-i.ensures in
    let rounds : c.entries.result.now.rounds ≡ p.rounds = ap (λ (q : ProgramEntries). q.rounds)
    (c.entries.ensures.entries ∙ c.program-program.ensures.program) in
    let start = c.loop-i.auto.i in
    let low : cut ≤ i = omega arith in
    let test = c.loop-i-test.true in
    let high : i < p.rounds = omega arith in
    let more = visits_within p h cut i p.rounds low high in
    let most = c.iterate.ensures.most in
    let count = inv.count in
    omega arith

pub loop-i-preserved : goal.loop-i-preserved
loop-i-preserved g c =
    let p : ProgramEntries = c.args.accepted.now in
    let h : Graph = g.A.Adjacency.plain c.args.graph.now in
    let cut : ℕ = c.args.history.now.cut in
    let i : ℕ = c.loop-i.i in
    let inv = c.loop-i.invariant in
    let from = c.cut-i.ensures in
    let rounds : c.entries.result.now.rounds ≡ p.rounds = ap (λ (q : ProgramEntries). q.rounds)
    (c.entries.ensures.entries ∙ c.program-program.ensures.program) in
    let start = c.loop-i.auto.i in
    let low : cut ≤ i = omega arith in
    let test = c.loop-i-test.true in
    let high : i < p.rounds = omega arith in
    let old : List Amount = c.args.seat.now.view.amounts in
    let more = tail_more p h cut i low in
    let count = inv.count in
    let exact = c.in_ok-iterate.ensures.exact in
    record {
      rows = c.in_ok-iterate.ensures.rows;
      amounts = c.in_ok-iterate.ensures.amounts
          ∙ ap (λ (l : List Amount). l ++ tail_step_amounts p h (i + 1)) inv.amounts
          ∙ append_assoc old (tail_amounts_to p h cut i) (tail_step_amounts p h (i + 1))
          ∙ ap (λ (l : List Amount). old ++ l) (sym (amounts_more p h cut i low));
      count = omega arith;
      held = c.iterate.ensures.held ∙ inv.held;
      table = c.iterate.ensures.table ∙ inv.table;
      units = c.iterate.ensures.units ∙ inv.units;
      clear = c.iterate.ensures.clear;
    }
