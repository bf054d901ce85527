use Rattle.std.proofs.Common.{◌∙◌}
use Rattle.agg_history.proofs.ListedLemmas.{vertices_is}
use Rattle.agg_history.proofs.put_list.PutList.vertices.Goals as goal

pub returns : goal.returns
returns c = c.as_slice.ensures.value
    ∙ vertices_is c.self.inside c.args.self.now c.self.view_is c.self.invariant
