use Rattle.std.proofs.Common.{eqb, filter, ◌∙◌}
use Rattle.std.specs.List.{range_with_len}
use Rattle.std.proofs.lemmas.List.Filters.{dedup_is}
use Rattle.pull_targets.specs.EndList.{is_found}
use Rattle.pull_targets.proofs.RisingLists.{sorted_filter}
use Rattle.pull_targets.proofs.end_list.EndList.into_rising.Goals as goal

pub returns : goal.returns
returns c =
    dedup_is eqb c.sort_unstable.new.self.items c.dedup.new.self.items c.dedup.ensures.filtered
    ∙ sorted_filter c.self.inside.vertices c.self.inside.ends.items
    c.sort_unstable.new.self.items c.self.invariant.below c.sort_unstable.ensures.permutation
    c.sort_unstable.ensures.sorted
    ∙ (λ j. filter (is_found (c.self.view_is j).ends)
    (range_with_len 0 (c.self.view_is j).vertices))
