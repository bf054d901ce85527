use Rattle.std.proofs.Common.{◌<◌, ◌≤◌, ◌+◌, ◌*◌, ℕ, ℤ, List, length, ap, ◌∙◌, arith}
use Rattle.bolt_base.specs.Graph.{Graph, vertices}
use Rattle.vertex_expr.specs.declared.program.ProgramEntries.{ProgramEntries}
use Rattle.run_model.specs.Program.{lanes}
use Rattle.run_model.proofs.Gathering.{table_more}
use Rattle.core_model.specs.Iterations.{next_agg, with_words}
use Rattle.core_model.specs.State.{Work}
use Rattle.core_rows.specs.Settling.{given_of, work_of}
use Rattle.core_rows.proofs.SettleLemmas.{had_long, kept_long, last_long, summed_is}
use Rattle.core_rows.proofs.words.summed_aggregates.Goals as goal

-- the words of a vertex lie within those of all
words_there : (n m v : ℕ) → v < n → v * m + m ≤ n * m
words_there n m v h = grind arith

pub had_aggregate-had-requires-clause-last : goal.had_aggregate-had-requires-clause-last
had_aggregate-had-requires-clause-last g c =
    let old : Graph = g.A.Adjacency.plain c.args.old.now in
    let w : Work = work_of (g.A.Adjacency.plain c.args.new.now) c.args.iteration c.args.rows.now
    c.args.words.now in
    let long = last_long c.args.program.now c.args.choice old c.args.kept.now w c.requires.ready in
    let test = c.loop-v-test.true in
    let n = c.vertices-vertices.ensures in
    omega arith

pub had_aggregate-had-requires-clause-kept : goal.had_aggregate-had-requires-clause-kept
had_aggregate-had-requires-clause-kept g c =
    let old : Graph = g.A.Adjacency.plain c.args.old.now in
    kept_long c.args.program.now c.args.choice old c.args.kept.now
    (work_of (g.A.Adjacency.plain c.args.new.now) c.args.iteration c.args.rows.now
    c.args.words.now) c.requires.ready

pub with_words-requires-clause-old : goal.with_words-requires-clause-old
with_words-requires-clause-old g c =
    let old : Graph = g.A.Adjacency.plain c.args.old.now in
    let w : Work = work_of (g.A.Adjacency.plain c.args.new.now) c.args.iteration c.args.rows.now
    c.args.words.now in
    let test = c.loop-v-test.true in
    let n = c.vertices-vertices.ensures in
    ap length c.had_aggregate-had.ensures
    ∙ had_long c.args.program.now c.args.choice old c.args.kept.now w c.requires.ready c.loop-v.v
    (omega arith)

pub with_words-requires-clause-words : goal.with_words-requires-clause-words
with_words-requires-clause-words g c =
    let h : Graph = g.A.Adjacency.plain c.args.new.now in
    let test = c.loop-v-test.true in
    let n = c.vertices-vertices.ensures in
    let long = c.requires.ready.long in
    let there = words_there (vertices h) (lanes c.args.program.now) c.loop-v.v (omega arith) in
    omega arith

pub loop-v-preserved : goal.loop-v-preserved
loop-v-preserved g c =
    let p : ProgramEntries = c.args.program.now in
    let old : Graph = g.A.Adjacency.plain c.args.old.now in
    let w : Work = work_of (g.A.Adjacency.plain c.args.new.now) c.args.iteration c.args.rows.now
    c.args.words.now in
    let f : ℕ → List ℤ = next_agg (given_of p c.args.choice old) old c.args.kept.now w in
    table_more f c.loop-v.v c.loop-v.aggs.items c.push.new.self.items c.with_words.result
    c.in_ok-push.ensures.items c.loop-v.invariant
    (c.with_words.ensures
    ∙ ap (λ (xs : List ℤ). with_words (given_of p c.args.choice old) c.args.words.now xs
    c.loop-v.v) c.had_aggregate-had.ensures
    ∙ summed_is p c.args.choice old c.args.kept.now w c.requires.ready c.requires.sum c.loop-v.v)
