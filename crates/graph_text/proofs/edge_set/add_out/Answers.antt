use Rattle.std.proofs.Common.{◌+◌, ◌<◌, ◌||◌, ◌∙◌, false, length, ap, arith}
use Rattle.std.specs.Prelude.{nat_eq}
use Rattle.std.proofs.lemmas.Result.{err_from_is_err_and}
use Rattle.graph_text.specs.declared.successors.Successors.{Successors}
use Rattle.graph_text.specs.EdgeIndex.{has}
use Rattle.graph_text.proofs.IndexLemmas.{row_value_read, row_value_same, has_more, count_more}
use Rattle.graph_text.proofs.edge_set.add_out.Goals as goal

pub put-requires : goal.put-requires
put-requires c =
    let inside : c.args.edge.src < length c.args.rows.now.items = omega arith in
    let at =
    row_value_read (λ (r : Successors). r.count) 0 c.args.rows.now.items c.args.edge.src
    c.index_mut-row.result.now inside in
    let is = ap (λ (r : Successors). r.count) c.index_mut-row.ensures.value in
    omega (arith, c.requires.fits)

pub returns-in_err-put-clause-kept : goal.returns-in_err-put-clause-kept
returns-in_err-put-clause-kept c =
    let inside : c.args.edge.src < length c.args.rows.now.items = omega arith in
    let p = err_from_is_err_and c.from_residual.result c.from_residual.ensures.1 in
    rw p.1 (λ u v. row_value_same c.args.rows.now.items c.args.edge.src c.put.new.self
    c.index_mut-row.result.now inside (λ (r : Successors). has r v) false
    (c.in_err-put.ensures.kept v ∙ ap (λ (r : Successors). has r v) c.index_mut-row.ensures.value)
    u)

pub returns-in_err-put-clause-same_counts : goal.returns-in_err-put-clause-same_counts
returns-in_err-put-clause-same_counts c =
    let inside : c.args.edge.src < length c.args.rows.now.items = omega arith in
    let p = err_from_is_err_and c.from_residual.result c.from_residual.ensures.1 in
    rw p.1 (λ u. row_value_same c.args.rows.now.items c.args.edge.src c.put.new.self
    c.index_mut-row.result.now inside (λ (r : Successors). r.count) 0
    (c.in_err-put.ensures.same_count
    ∙ ap (λ (r : Successors). r.count) c.index_mut-row.ensures.value) u)

pub returns-clause-held : goal.returns-clause-held
returns-clause-held c = λ u v.
    let inside : c.args.edge.src < length c.args.rows.now.items = omega arith in
    has_more c.args.rows.now.items c.args.edge.src c.put.new.self c.index_mut-row.result.now inside
    c.args.edge.dst
    (λ w. c.in_ok-put.ensures.put w ∙ ap (λ (r : Successors). nat_eq c.args.edge.dst w || has r w)
    c.index_mut-row.ensures.value) u v

pub returns-clause-counts : goal.returns-clause-counts
returns-clause-counts c = λ u.
    let inside : c.args.edge.src < length c.args.rows.now.items = omega arith in
    count_more c.args.rows.now.items c.args.edge.src c.put.new.self c.index_mut-row.result.now
    inside
    (c.in_ok-put.ensures.count ∙ ap (λ (r : Successors). r.count + 1) c.index_mut-row.ensures.value)
    u
