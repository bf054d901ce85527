use Rattle.std.proofs.Common.{ap, ◌∙◌, ◌+◌, ◌++◌, arith}
use Rattle.agg_history.specs.Entries.{entry_in, chunks}
use Rattle.agg_history.proofs.CellLemmas.{lanes_is, count_is, more_is}
use Rattle.agg_history.proofs.cells.Cells.push_from.Goals as goal

pub overflow_add-self : goal.overflow_add-self
overflow_add-self c = omega
    (arith, count_is c.self.inside c.args.self.now c.self.view_is c.self.invariant, c.requires.room)

pub returns-clause-ok : goal.returns-clause-ok
returns-clause-ok c =
    let all = ap (chunks c.self.inside.lanes (c.self.inside.len + 1))
    (c.in_ok-extend_from_slice.ensures.items
    ∙ ap (λ xs. c.self.inside.words.items ++ xs) c.words_at.ensures.value)
    ∙ more_is c.self.inside c.args.self.now c.self.view_is c.self.invariant
    (entry_in c.args.other.now.all c.args.j) (c.words_at.ensures.agg ∙ c.requires.lanes)
    (c.words_at.ensures.val ∙ c.requires.lanes) in
    λ i. record {
      lanes = lanes_is c.self.inside c.args.self.now c.self.view_is c.self.invariant i;
      all = all i;
    }
