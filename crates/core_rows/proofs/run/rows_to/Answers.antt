use Rattle.std.proofs.Common.{◌≡◌, ℕ, suc, ◌+◌, map, ap, ◌∙◌, arith}
use Rattle.std.specs.List.{range_with_len, zip}
use Rattle.bolt_base.specs.Graph.{Graph}
use Rattle.bolt_base.specs.Keep.{Entry, Row}
use Rattle.vertex_expr.specs.declared.program.ProgramEntries.{ProgramEntries}
use Rattle.run_model.specs.Rows.{Lists, applied, at, each_vertex, entries, gathered, row}
use Rattle.run_model.proofs.Gathering.{table_more}
use Rattle.vertex_steps.proofs.Rounds.{before_at}
use Rattle.core_rows.proofs.EntryLemmas.{entry_values}
use Rattle.core_rows.proofs.run.rows_to.Goals as goal

read_is : (p : ProgramEntries) (h : Graph) (i : ℕ) (vals : Lists) (r now : Row)
    → vals ≡ map (λ (e : Entry). e.1) now → now ≡ r → r ≡ entries p h i → vals ≡ row p h i
read_is p h i vals r now read same is =
    read ∙ ap (map (λ (e : Entry). e.1)) (same ∙ is) ∙ entry_values p h i

next_is : (p : ProgramEntries) (h : Graph) (i : ℕ) (vals : Lists) (next : Row)
    → vals ≡ row p h i
    → next ≡ zip (each_vertex h (gathered p h vals))
    (each_vertex h (λ v. applied p h (gathered p h vals v) (at vals v) v))
    → next ≡ entries p h (i + 1)
next_is p h i vals next read made =
    made ∙ ap (λ (l : Lists). zip (each_vertex h (gathered p h l))
    (each_vertex h (λ v. applied p h (gathered p h l v) (at l v) v))) read
    ∙ ap (entries p h) (let e : suc i ≡ i + 1 = omega arith in e)

pub row_after-requires : goal.row_after-requires
row_after-requires g c =
    let p : ProgramEntries = c.args.program.now in
    let h : Graph = g.A.Adjacency.plain c.args.graph.now in
    let i : ℕ = c.loop-i._i in
    let read = c.deref.ensures.value
    ∙ read_is p h i c.in_ok-vals.vals.items c.loop-i.row c.as_slice.result.now
    c.in_ok-vals.ensures c.as_slice.ensures c.loop-i.invariant.row in
    record { before = before_at p h i c.deref.result.now read c.requires.safe c.requires.good }

pub loop-i-preserved : goal.loop-i-preserved
loop-i-preserved g c =
    let p : ProgramEntries = c.args.program.now in
    let h : Graph = g.A.Adjacency.plain c.args.graph.now in
    let i : ℕ = c.loop-i._i in
    let read = c.deref.ensures.value
    ∙ read_is p h i c.in_ok-vals.vals.items c.loop-i.row c.as_slice.result.now
    c.in_ok-vals.ensures c.as_slice.ensures c.loop-i.invariant.row in
    record {
      rows = table_more (entries p h) i c.loop-i.rows c.push.new.self c.loop-i.row
          c.in_ok-push.ensures.ok c.loop-i.invariant.rows c.loop-i.invariant.row;
      row = next_is p h i c.deref.result.now c.in_ok-next.next read c.in_ok-next.ensures;
    }

pub returns : goal.returns
returns g c =
    let p : ProgramEntries = c.args.program.now in
    let h : Graph = g.A.Adjacency.plain c.args.graph.now in
    let past = c.loop-i-test.false in
    let end = c.loop-i.auto._i-end in
    let all : c.loop-i._i ≡ c.args.last = omega arith in
    table_more (entries p h) c.loop-i._i c.loop-i.rows c.push-2.new.self c.loop-i.row
    c.in_ok-push-2.ensures.ok c.loop-i.invariant.rows c.loop-i.invariant.row
    ∙ ap (λ n. map (entries p h) (range_with_len 0 (n + 1))) all
