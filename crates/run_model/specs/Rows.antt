-- The rows of a program on a graph, each computed anew from the row before.
use Rattle.std.specs.Prelude.{ℕ, zero, suc, ℤ, pos, ◌+◌, ◌+ℤ◌, List, [], map, fold, slice_index_or}
use Rattle.std.specs.List.{range_with_len, zip}
use Rattle.bolt_base.specs.Change.{attr_at}
use Rattle.bolt_base.specs.Graph.{Graph, vertices, in_edges, outdeg}
use Rattle.bolt_base.specs.Keep.{Entry, Row}
use Rattle.bolt_base.specs.RowTable.{RowTable}
use Rattle.bolt_base.specs.declared.edge.Edge.{Edge}
use Rattle.vertex_expr.specs.Meaning.{ev}
use Rattle.vertex_expr.specs.declared.env.Env.{Env}
use Rattle.vertex_expr.specs.declared.program.ProgramEntries.{ProgramEntries}
use Rattle.range_check.specs.Gathered.{empty_of, with_one}
use Rattle.range_check.specs.Laws.{tree_at}
use Rattle.run_model.specs.Program.{lanes, params, by_lane, number, zeros}

-- lists of numbers, one for each vertex: its values or its aggregates, lane by lane
abbrev pub Lists : Type 0
Lists = List (List ℤ)

abbrev pub at : Lists → ℕ → List ℤ
at row v = slice_index_or row v []

-- the sum of a lane over all vertices
abbrev pub lane_total : ℕ → Lists → ℤ
lane_total lane values = fold (λ total xs. total +ℤ number xs lane) (pos 0) values

abbrev pub each_vertex : Graph → (ℕ → List ℤ) → Lists
each_vertex g f = map f (range_with_len 0 (vertices g))

-- ---- what the expressions read; zeros stand for what a part may not mention
abbrev pub init_env : ProgramEntries → Graph → ℕ → Env
init_env p g v = record {
  val = zeros p;
  agg = zeros p;
  old = zeros p;
  outdeg = 0;
  weight = pos 0;
  attr = attr_at g v;
  id = v;
}

-- for an edge, under a row of values
abbrev pub contribute_env : ProgramEntries → Graph → Lists → Edge → Env
contribute_env p g row e = record {
  val = at row e.src;
  agg = zeros p;
  old = zeros p;
  outdeg = outdeg g e.src;
  weight = e.weight;
  attr = attr_at g e.src;
  id = e.src;
}

-- for a vertex with this aggregate, and this value at the iteration before
abbrev pub apply_env : ProgramEntries → Graph → List ℤ → List ℤ → ℕ → Env
apply_env p g agg before v = record {
  val = zeros p;
  agg = agg;
  old = before;
  outdeg = 0;
  weight = pos 0;
  attr = attr_at g v;
  id = v;
}

-- ---- one vertex
-- how an edge contributes to a lane
abbrev pub Contribution : Type 0
Contribution = ℕ → Edge → ℤ

abbrev pub contribution : ProgramEntries → Graph → Lists → Contribution
contribution p g row l e = ev (params p) (contribute_env p g row e) (tree_at p.contribute l)

-- what the contributions of some edges come to, in a lane
abbrev pub gathered_over : ProgramEntries → Contribution → List Edge → ℕ → ℤ
gathered_over p give es l = fold (λ a e. with_one p.combine a (give l e)) (empty_of p.combine) es

-- the aggregate of a vertex after a row of values
abbrev pub gathered : ProgramEntries → Graph → Lists → ℕ → List ℤ
gathered p g row v = by_lane p (gathered_over p (contribution p g row) (in_edges g v))

-- the first value of a vertex
abbrev pub begun : ProgramEntries → Graph → ℕ → List ℤ
begun p g v = by_lane p (λ l. ev (params p) (init_env p g v) (tree_at p.init l))

-- the next value of a vertex, from its aggregate and its value before
abbrev pub applied : ProgramEntries → Graph → List ℤ → List ℤ → ℕ → List ℤ
applied p g agg before v =
    by_lane p (λ l. ev (params p) (apply_env p g agg before v) (tree_at p.apply l))

-- ---- rows
-- the values at an iteration
abbrev pub row : ProgramEntries → Graph → ℕ → Lists
row p g zero = each_vertex g (begun p g)
row p g (suc i) =
    let before = row p g i in each_vertex g
    (λ v. applied p g (gathered p g before v) (at before v) v)

-- the aggregates at an iteration
abbrev pub aggr : ProgramEntries → Graph → ℕ → Lists
aggr p g zero = each_vertex g (λ v. zeros p)
aggr p g (suc i) = each_vertex g (gathered p g (row p g i))

-- the values at the last iteration
abbrev pub answer : ProgramEntries → Graph → Lists
answer p g = row p g p.rounds

-- a lane of an aggregate, and of a value
abbrev pub agg_at : ProgramEntries → Graph → ℕ → ℕ → ℕ → ℤ
agg_at p g i v l = number (at (aggr p g i) v) l

abbrev pub val_at : ProgramEntries → Graph → ℕ → ℕ → ℕ → ℤ
val_at p g i v l = number (at (row p g i) v) l

-- each vertex's number of out-edges
abbrev pub out_degrees : Graph → List ℕ
out_degrees g = map (outdeg g) (range_with_len 0 (vertices g))

-- ---- entries
-- what a vertex has at an iteration: its aggregate and its value
abbrev pub entry : ProgramEntries → Graph → ℕ → ℕ → Entry
entry p g i v = (at (aggr p g i) v, at (row p g i) v)

-- the entries of an iteration, vertex by vertex
abbrev pub entries : ProgramEntries → Graph → ℕ → Row
entries p g i = zip (aggr p g i) (row p g i)

-- the entries of the iterations from 0 to k
abbrev pub rows_to : ProgramEntries → Graph → ℕ → List Row
rows_to p g k = map (entries p g) (range_with_len 0 (k + 1))

-- the entries of all iterations
abbrev pub all_rows : ProgramEntries → Graph → List Row
all_rows p g = rows_to p g p.rounds

-- and with the numbers of vertices and lanes, as `Rows` are seen
abbrev pub table_of : ProgramEntries → Graph → RowTable
table_of p g = record { vertices = vertices g; lanes = lanes p; rows = all_rows p g }
