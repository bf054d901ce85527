use Rattle.std.proofs.Common.{◌≡◌, ℕ, pos, length, replicate, sym, ap, ◌∙◌, arith, map}
use Rattle.std.specs.List.{range_with_len}
use Rattle.bolt_base.specs.Graph.{Graph, vertices}
use Rattle.bolt_base.specs.Keep.{Entry}
use Rattle.vertex_expr.specs.declared.program.ProgramEntries.{ProgramEntries}
use Rattle.run_model.specs.Program.{lanes, zeros}
use Rattle.run_model.specs.Rows.{begun}
use Rattle.run_model.proofs.Gathering.{table_more}
use Rattle.core_rows.proofs.EntryLemmas.{zip_of_maps}
use Rattle.core_rows.proofs.first.first_row.Goals as goal

pub loop-v-preserved : goal.loop-v-preserved
loop-v-preserved g c =
    let p : ProgramEntries = c.args.program.now in
    let h : Graph = g.A.Adjacency.plain c.args.graph.now in
    let len : c.len.result ≡ lanes p = c.len.ensures
    ∙ ap (λ (x : ProgramEntries). length x.ranges) c.entries.ensures.entries in
    let none : c.zeros-zeros.result ≡ zeros p = c.zeros-zeros.ensures
    ∙ ap (λ n. replicate n (pos 0)) len in
    table_more (λ v. (zeros p, begun p h v)) c.loop-v.v c.loop-v.row.items c.push.new.self.items
    (c.zeros-zeros.result, c.first_value-value.result)
    c.in_ok-push.ensures.items c.loop-v.invariant
    (λ j. (none j, c.first_value-value.ensures.value j))

pub returns : goal.returns
returns g c =
    let p : ProgramEntries = c.args.program.now in
    let h : Graph = g.A.Adjacency.plain c.args.graph.now in
    let row : ℕ → Entry = λ v. (zeros p, begun p h v) in
    let past = c.loop-v-test.false in
    let end = c.loop-v.auto.v-end in
    let all : c.loop-v.v ≡ vertices h = omega (arith, c.vertices-v-end.ensures) in
    c.from_vec.ensures ∙ c.loop-v.invariant
    ∙ ap (λ n. map row (range_with_len 0 n)) all
    ∙ sym (zip_of_maps (λ v. zeros p) (begun p h) (range_with_len 0 (vertices h)))
