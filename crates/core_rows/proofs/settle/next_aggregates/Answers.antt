use Rattle.std.proofs.Common.{◌≡◌, ◌-◌, false, IfOk, sym, ap, ◌∙◌, subst}
use Rattle.vertex_expr.specs.declared.program.ProgramEntries.{ProgramEntries}
use Rattle.run_model.specs.Program.{is_sum}
use Rattle.run_model.specs.Rows.{Lists}
use Rattle.vertex_steps.proofs.Rounds.{before_at}
use Rattle.core_rows.specs.Settling.{work_of}
use Rattle.core_rows.proofs.SettleLemmas.{gathered_is}
use Rattle.core_rows.proofs.settle.next_aggregates.Goals as goal

pub gathered_aggregates-requires : goal.gathered_aggregates-requires
gathered_aggregates-requires g c = record {
  before = before_at c.args.program.now (g.A.Adjacency.plain c.args.new.now)
      (c.args.iteration - 1) c.args.vals.now c.requires.vals c.requires.ready.may.safe
      c.requires.ready.new;
}

pub returns : goal.returns
returns g c =
    let p : ProgramEntries = c.args.program.now in
    let other : is_sum p.combine ≡ false =
    ap (λ (x : ProgramEntries). is_sum x.combine) (sym c.entries.ensures.entries)
    ∙ sym c.is_sum.ensures ∙ c.if-is_sum.false in
    subst (λ (l : Lists). IfOk c.gathered_aggregates.result (λ aggs. aggs.items ≡ l))
    (gathered_is p c.args.choice (g.A.Adjacency.plain c.args.old.now) c.args.kept.now
    (work_of (g.A.Adjacency.plain c.args.new.now) c.args.iteration c.args.rows.now
    c.args.words.now) c.requires.ready c.args.vals.now c.requires.vals other)
    c.gathered_aggregates.ensures
