-- The rows of a changed graph, as old rows with entries put over them.
use Rattle.std.specs.Prelude.{◌≡◌, ℕ, ℤ, zero, suc, ◌-◌, ◌+ℤ◌, ◌<◌, Bool, false}
use Rattle.std.specs.Prelude.{if◌then◌else◌, List, map, Option, Some, None, unwrap_or}
use Rattle.std.specs.Int.{cast_signed, int_wrap, w64}
use Rattle.std.specs.List.{range_with_len}
use Rattle.bolt_base.specs.Graph.{Graph, vertices}
use Rattle.bolt_base.specs.Keep.{Entry, Row}
use Rattle.bolt_base.specs.Residue.{Amount, sum_at}
use Rattle.bolt_base.specs.RowTable.{entry_at}
use Rattle.vertex_expr.specs.declared.program.ProgramEntries.{ProgramEntries}
use Rattle.range_check.specs.Gathered.{empty_of}
use Rattle.run_model.specs.Additions.{adds_of, items, word}
use Rattle.run_model.specs.Program.{by_lane, number, zeros, is_sum}
use Rattle.run_model.specs.Rows.{Lists, at, each_vertex, gathered, begun, applied, row, aggr, entry}
use Rattle.run_model.specs.Steps.{Step, step, is_new, is_target, is_applied, is_begun}

-- entries that were put, at some iterations for some vertices
abbrev pub Puts : Type 0
Puts = ℕ → ℕ → Option Entry

-- what a vertex has at an iteration: what was put, or else what the rows have
abbrev pub laid : Puts → List Row → ℕ → ℕ → Entry
laid put rows i v = unwrap_or (put i v) (entry_at rows i v)

abbrev pub laid_values : ℕ → Puts → List Row → ℕ → Lists
laid_values n put rows i = map (λ v. (laid put rows i v).1) (range_with_len 0 n)

abbrev pub row_values : ℕ → List Row → ℕ → Lists
row_values n rows i = map (λ v. (entry_at rows i v).1) (range_with_len 0 n)

-- an iteration as it is seen by the old rows and what was put over them
abbrev pub seen_step : Graph → Graph → Puts → List Row → ℕ → Step
seen_step g h put rows i = record {
  old_graph = g;
  new_graph = h;
  old_row = row_values (vertices g) rows (i - 1);
  new_row = laid_values (vertices h) put rows (i - 1);
}

-- ---- what is evaluated again, from the rows before
-- an aggregate and what its words give, with wrap-around
abbrev pub with_words : ProgramEntries → List Amount → List ℤ → ℕ → List ℤ
with_words p amounts old v =
    by_lane p (λ l. int_wrap w64 (number old l +ℤ cast_signed w64 (sum_at (word p v l) amounts)))

-- the aggregate of a target: an old sum with the additions, or what the edges to it come to
abbrev pub target_agg : ProgramEntries → Step → List ℤ → ℕ → List ℤ
target_agg p s old v =
    if is_sum p.combine
    then with_words p (adds_of p s (items p s)) old v
    else gathered p s.new_graph s.new_row v

-- the aggregate of a vertex that had the old one
abbrev pub agg_again : ProgramEntries → Step → List ℤ → ℕ → List ℤ
agg_again p s old v = if is_target p s v then target_agg p s old v else old

abbrev pub entry_again : ProgramEntries → Step → List ℤ → ℕ → Entry
entry_again p s old v =
    let agg = agg_again p s old v in
    (agg, applied p s.new_graph agg (at s.new_row v) v)

-- the aggregate that a vertex had in the old rows: a new one had none
abbrev pub had : ProgramEntries → Graph → List Row → ℕ → ℕ → List ℤ
had p g rows i v =
    if is_new g v then by_lane p (λ _. empty_of p.combine) else (entry_at rows i v).0

-- what is to be put at iteration 0, and at a later one
abbrev pub put_first : ProgramEntries → Graph → Graph → ℕ → Option Entry
put_first p g h v = if is_begun (step p g h 0) v then Some (zeros p, begun p h v) else None

abbrev pub put_again : ProgramEntries → Graph → Graph → Puts → List Row → ℕ → ℕ → Option Entry
put_again p g h put rows i v =
    let s = seen_step g h put rows i in
    if is_applied p s v then Some (entry_again p s (had p g rows i v) v) else None

-- ---- how far the new rows are there
-- the vertex's entry is evaluated again: its init at iteration 0, its apply at a later one
abbrev pub is_again : ProgramEntries → Graph → Graph → ℕ → ℕ → Bool
is_again p g h zero v = is_begun (step p g h 0) v
is_again p g h (suc i) v = is_applied p (step p g h (suc i)) v

-- what was put for a vertex at an iteration is its new entry, and where nothing was, nothing had to
-- be
pub record IsRefined (p : ProgramEntries) (g h : Graph) (put : Puts) (i v : ℕ) : Type 0 where
  pub right : (e : Entry) → put i v ≡ Some e → e ≡ entry p h i v
  pub rest : put i v ≡ None → is_again p g h i v ≡ false

-- so at the first k iterations for each vertex
abbrev pub AreRefined : ProgramEntries → Graph → Graph → Puts → ℕ → Type 0
AreRefined p g h put k = (i v : ℕ) → i < k → v < vertices h → IsRefined p g h put i v

-- ---- past the cut, on one graph
-- an iteration as it is seen by the values of the two before it
abbrev pub tail_seen : Graph → Lists → Lists → Step
tail_seen h before vals =
    record { old_graph = h; new_graph = h; old_row = before; new_row = vals }

-- its aggregates, from those before, and its values
abbrev pub aggs_again : ProgramEntries → Step → Lists → Lists
aggs_again p s aggs = each_vertex s.new_graph (λ v. agg_again p s (at aggs v) v)

abbrev pub value_again : ProgramEntries → Step → Lists → ℕ → List ℤ
value_again p s aggs v =
    if is_applied p s v
    then applied p s.new_graph (at aggs v) (at s.new_row v) v
    else at s.new_row v

abbrev pub values_again : ProgramEntries → Step → Lists → Lists
values_again p s aggs = each_vertex s.new_graph (value_again p s aggs)

-- the aggregates and the values of an iteration, and the values before it
pub record AreTailRows (p : ProgramEntries) (h : Graph) (i : ℕ) (aggs vals last : Lists)
    : Type 0 where
  pub aggregates : aggs ≡ aggr p h i
  pub values : vals ≡ row p h i
  pub before : last ≡ row p h (i - 1)
