use Rattle.std.proofs.Common.{ap, ◌∙◌, ◌+◌, ◌++◌, arith, append_assoc}
use Rattle.agg_history.specs.Entries.{chunks}
use Rattle.agg_history.proofs.CellLemmas.{lanes_is, count_is, more_is}
use Rattle.agg_history.proofs.cells.Cells.push.Goals as goal

pub overflow_add-self : goal.overflow_add-self
overflow_add-self c = omega
    (arith, count_is c.self.inside c.args.self.now c.self.view_is c.self.invariant, c.requires.room)

pub returns-clause-ok : goal.returns-clause-ok
returns-clause-ok c =
    let all = ap (chunks c.self.inside.lanes (c.self.inside.len + 1))
    (c.push_lanes-2.ensures.items
    ∙ ap (λ xs. xs ++ c.args.val.now) (c.push_lanes.ensures.items
    ∙ ap (λ xs. xs ++ c.args.agg.now) c.reserve.ensures.items)
    ∙ append_assoc c.self.inside.words.items c.args.agg.now c.args.val.now)
    ∙ more_is c.self.inside c.args.self.now c.self.view_is c.self.invariant
    (c.args.agg.now, c.args.val.now) c.requires.agg c.requires.val in
    λ i. record {
      lanes = lanes_is c.self.inside c.args.self.now c.self.view_is c.self.invariant i;
      all = all i;
    }
