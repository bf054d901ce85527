use Rattle.std.proofs.Common.{◌≡◌, ◌<◌, ◌-◌, [], List, length, map, get_or, IfOk, sym, ap, ◌∙◌}
use Rattle.std.proofs.Common.{subst, arith}
use Rattle.std.specs.List.{zip}
use Rattle.std.proofs.lemmas.List.{get_or_read}
use Rattle.bolt_base.specs.Graph.{Graph}
use Rattle.bolt_base.specs.Keep.{Entry, Row}
use Rattle.vertex_expr.specs.ProgramBounds.{aggregated}
use Rattle.vertex_expr.specs.Span.{AreIn}
use Rattle.vertex_expr.specs.declared.program.ProgramEntries.{ProgramEntries}
use Rattle.run_model.specs.Rows.{Lists, applied, at, each_vertex, row}
use Rattle.run_model.proofs.Runs.{length-rows_to}
use Rattle.vertex_steps.proofs.Rounds.{before_at}
use Rattle.core_model.specs.State.{Work}
use Rattle.bolt_base.specs.declared.answer.Choice.{Choice}
use Rattle.core_rows.specs.Settling.{CanSettle, work_of}
use Rattle.core_rows.proofs.SettleLemmas.{aggs_in, aggs_long, read_is, row_made}
use Rattle.core_rows.proofs.settle.next_row.Goals as goal

last_there : (p : ProgramEntries) (choice : Choice) (g : Graph) (kept : List (List Entry))
    (w : Work) → CanSettle p choice g kept w → w.iteration - 1 < length w.rows
last_there p choice g kept w can =
    let long = ap length can.rows ∙ length-rows_to p w.graph (w.iteration - 1) in
    omega arith

pub bounds-rows-iteration : goal.bounds-rows-iteration
bounds-rows-iteration g c = last_there c.args.program.now c.args.choice
    (g.A.Adjacency.plain c.args.old.now) c.args.kept.now
    (work_of (g.A.Adjacency.plain c.args.new.now) c.args.iteration c.args.rows.now
    c.args.words.now) c.requires.ready

-- the values that were read
values_are : (p : ProgramEntries) (choice : Choice) (g : Graph) (kept : List (List Entry))
    (w : Work) → CanSettle p choice g kept w → (item last : Row) (vals : Lists)
    → item ≡ get_or w.rows (w.iteration - 1) item → last ≡ item
    → vals ≡ map (λ (e : Entry). e.1) last → vals ≡ row p w.graph (w.iteration - 1)
values_are p choice g kept w can item last vals is same read =
    read ∙ ap (map (λ (e : Entry). e.1))
    (same ∙ get_or_read w.rows (w.iteration - 1) item (last_there p choice g kept w can) is [])
    ∙ read_is p choice g kept w can

pub next_aggregates-requires-clause-vals : goal.next_aggregates-requires-clause-vals
next_aggregates-requires-clause-vals g c =
    c.deref.ensures.value
    ∙ values_are c.args.program.now c.args.choice (g.A.Adjacency.plain c.args.old.now)
    c.args.kept.now (work_of (g.A.Adjacency.plain c.args.new.now) c.args.iteration c.args.rows.now
    c.args.words.now) c.requires.ready c.index-rows-iteration.result c.as_slice.result.now
    c.in_ok-vals.vals.items c.index-rows-iteration.is c.as_slice.ensures c.in_ok-vals.ensures

pub row_of-requires-clause-before : goal.row_of-requires-clause-before
row_of-requires-clause-before g c =
    before_at c.args.program.now (g.A.Adjacency.plain c.args.new.now) (c.args.iteration - 1)
    c.deref-3.result.now
    (c.deref-3.ensures.value
    ∙ values_are c.args.program.now c.args.choice (g.A.Adjacency.plain c.args.old.now)
    c.args.kept.now (work_of (g.A.Adjacency.plain c.args.new.now) c.args.iteration c.args.rows.now
    c.args.words.now) c.requires.ready c.index-rows-iteration.result c.as_slice.result.now
    c.in_ok-vals.vals.items c.index-rows-iteration.is c.as_slice.ensures c.in_ok-vals.ensures)
    c.requires.ready.may.safe c.requires.ready.new

pub row_of-requires-clause-long : goal.row_of-requires-clause-long
row_of-requires-clause-long g c =
    ap length (c.deref-2.ensures.value ∙ c.in_ok-aggs.ensures)
    ∙ aggs_long c.args.program.now c.args.choice (g.A.Adjacency.plain c.args.old.now)
    c.args.kept.now (work_of (g.A.Adjacency.plain c.args.new.now) c.args.iteration c.args.rows.now
    c.args.words.now) c.requires.ready

pub row_of-requires-clause-aggs : goal.row_of-requires-clause-aggs
row_of-requires-clause-aggs g c v there =
    subst (λ (l : Lists). AreIn (aggregated c.args.program.now) (at l v))
    (sym (c.deref-2.ensures.value ∙ c.in_ok-aggs.ensures))
    (aggs_in c.args.program.now c.args.choice (g.A.Adjacency.plain c.args.old.now)
    c.args.kept.now (work_of (g.A.Adjacency.plain c.args.new.now) c.args.iteration c.args.rows.now
    c.args.words.now) c.requires.ready v there)

pub returns : goal.returns
returns g c =
    let p : ProgramEntries = c.args.program.now in
    let h : Graph = g.A.Adjacency.plain c.args.new.now in
    let w : Work = work_of h c.args.iteration c.args.rows.now c.args.words.now in
    let old : Graph = g.A.Adjacency.plain c.args.old.now in
    let vals : Lists = c.deref-3.result.now in
    let read : vals ≡ row p h (c.args.iteration - 1) = c.deref-3.ensures.value
    ∙ values_are p c.args.choice old c.args.kept.now w c.requires.ready
    c.index-rows-iteration.result c.as_slice.result.now
    c.in_ok-vals.vals.items c.index-rows-iteration.is c.as_slice.ensures c.in_ok-vals.ensures in
    let aggs = c.deref-2.ensures.value ∙ c.in_ok-aggs.ensures in
    subst (λ (row : Row). IfOk c.row_of.result (λ x. x ≡ row))
    ((λ j. zip (aggs j) (each_vertex h (λ v. applied p h (at (aggs j) v) (at vals v) v)))
    ∙ row_made p c.args.choice old c.args.kept.now w c.requires.ready vals read)
    c.row_of.ensures
