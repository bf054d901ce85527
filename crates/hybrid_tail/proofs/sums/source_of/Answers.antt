use Rattle.std.proofs.Common.{rules, ◌≡◌, ◌-◌, ℕ, [], length, true, FitsSigned, w64, ap, ◌∙◌}
use Rattle.std.proofs.Common.{arith}
use Rattle.std.proofs.lemmas.Int.{to_z-of_z}
use Rattle.std.proofs.lemmas.List.{get_or_read}
use Rattle.bolt_base.specs.Graph.{Graph}
use Rattle.vertex_expr.specs.declared.program.ProgramEntries.{ProgramEntries}
use Rattle.run_model.specs.Rows.{Lists, at, row}
use Rattle.run_model.proofs.RowLemmas.{values_whole}
use Rattle.hybrid_tail.proofs.sums.source_of.Goals as goal

pub index-requires : goal.index-requires
index-requires g c =
    let p : ProgramEntries = c.args.program.now in
    let h : Graph = g.A.Adjacency.plain c.args.graph.now in
    let long = ap length c.requires.rows.last ∙ (values_whole p h (c.args.i - 2)).each_vertex in
    let same = c.args.rows.now.last.ok.0 in
    let there = c.requires.vertex in
    omega arith

pub index-requires-2 : goal.index-requires-2
index-requires-2 g c =
    let p : ProgramEntries = c.args.program.now in
    let h : Graph = g.A.Adjacency.plain c.args.graph.now in
    let long = ap length c.requires.rows.vals ∙ (values_whole p h (c.args.i - 1)).each_vertex in
    let same = c.args.rows.now.vals.ok.0 in
    let there = c.requires.vertex in
    omega arith

pub returns : goal.returns
returns g c =
    let p : ProgramEntries = c.args.program.now in
    let h : Graph = g.A.Adjacency.plain c.args.graph.now in
    let u : ℕ = c.args.u in
    let there = c.requires.vertex in
    let last_long = ap length c.requires.rows.last
    ∙ (values_whole p h (c.args.i - 2)).each_vertex in
    let vals_long = ap length c.requires.rows.vals
    ∙ (values_whole p h (c.args.i - 1)).each_vertex in
    let old : c.index.result.now ≡ at (row p h (c.args.i - 2)) u =
    get_or_read c.args.rows.now.last.items u c.index.result.now (omega arith) c.index.ensures []
    ∙ ap (λ (xs : Lists). at xs u) c.requires.rows.last in
    let new : c.index-2.result.now ≡ at (row p h (c.args.i - 1)) u =
    get_or_read c.args.rows.now.vals.items u c.index-2.result.now (omega arith)
    c.index-2.ensures []
    ∙ ap (λ (xs : Lists). at xs u) c.requires.rows.vals in
    let fits : FitsSigned w64 c.attr-attr.result = search rules in
    let attr = to_z-of_z w64 c.attr-attr.result fits ∙ c.attr-attr.ensures in
    λ j. record {
      vertex = u;
      old = old j;
      new = new j;
      old_degree = c.out_degree-degree.ensures j;
      new_degree = c.out_degree-degree.ensures j;
      old_attr = attr j;
      new_attr = attr j;
      dirty = true;
    }
