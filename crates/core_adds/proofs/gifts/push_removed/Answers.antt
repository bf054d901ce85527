use Rattle.std.proofs.Common.{◌≡◌, ◌++◌, List, subst}
use Rattle.std.specs.Prelude.{OnOk}
use Rattle.bolt_base.specs.Graph.{Graph}
use Rattle.bolt_base.specs.Residue.{Amount}
use Rattle.vertex_expr.specs.declared.program.ProgramEntries.{ProgramEntries}
use Rattle.run_model.specs.Rows.{contribution}
use Rattle.core_adds.proofs.EdgeGifts.{removed_is}
use Rattle.core_adds.proofs.gifts.push_removed.Goals as goal

pub returns : goal.returns
returns g c =
    let p : ProgramEntries = c.args.program.now in
    let h : Graph = g.A.Adjacency.plain c.args.graph.now in
    subst (λ (l : List Amount). OnOk c.push_differences.result
    (c.push_differences.new.list ≡ c.args.list.now ++ l))
    (removed_is p c.args.e (contribution p h c.args.vals.now) c.zeros-zeros.result
    c.gives-was.result c.width.result c.gives-was.ensures c.zeros-zeros.ensures
    c.width.ensures.width)
    c.push_differences.ensures
