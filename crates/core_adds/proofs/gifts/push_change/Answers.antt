use Rattle.std.proofs.Common.{◌≡◌, ◌++◌, List, subst}
use Rattle.std.specs.Prelude.{OnOk}
use Rattle.bolt_base.specs.Graph.{Graph}
use Rattle.bolt_base.specs.Residue.{Amount}
use Rattle.vertex_expr.specs.declared.program.ProgramEntries.{ProgramEntries}
use Rattle.run_model.specs.Rows.{contribution}
use Rattle.core_adds.proofs.EdgeGifts.{change_is}
use Rattle.core_adds.proofs.gifts.push_change.Goals as goal

pub returns : goal.returns
returns g c =
    let p : ProgramEntries = c.args.program.now in
    let before : Graph = g.A.Adjacency.plain c.args.old.now in
    let after : Graph = g.A.Adjacency.plain c.args.new.now in
    subst (λ (l : List Amount). OnOk c.push_differences.result
    (c.push_differences.new.list ≡ c.args.list.now ++ l))
    (change_is p c.args.e (contribution p before c.args.was.now)
    (contribution p after c.args.now.now) c.gives-new_lanes.result c.gives-old_lanes.result
    c.gives-new_lanes.ensures c.gives-old_lanes.ensures)
    c.push_differences.ensures
