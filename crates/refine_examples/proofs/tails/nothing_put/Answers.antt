use Rattle.std.proofs.Common.{ap, ◌∙◌}
use Rattle.agg_history.specs.Puts.{no_puts_for}
use Rattle.refine_examples.proofs.NothingPut.{nothing_refined}
use Rattle.refine_examples.proofs.tails.nothing_put.Goals as goal

pub returns : goal.returns
returns c =
    nothing_refined c.args.accepted.now c.args.graph.now.now c.args.history.now c.requires.stands
    c.requires.lanes c.in_ok-overlay.overlay c.vertices-vertices.result c.vertices-vertices.ensures
    (c.in_ok-overlay.ensures
    ∙ ap (no_puts_for c.vertices-vertices.result c.vertices-vertices.result 1) c.cut.ensures)
