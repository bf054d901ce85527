use Rattle.std.proofs.Common.{ap, sym, ◌∙◌, ◌≡◌, ◌++◌, [], append-nil}
use Rattle.std.specs.FinMap as finite
use Rattle.std.specs.Map.Iter.{deref_pair}
use Rattle.std.proofs.lemmas.Map.Iter.{rest_all}
use Rattle.adjacency.proofs.PatchLemmas.{entries_ordered}
use Rattle.adjacency.proofs.patch.Patch.ends.Goals as goal

pub returns : goal.returns
returns c =
    let over : c.loop-end.end-iterator
    ≡ [] = rest_all deref_pair c.loop-end.end-iterator c.next.new.self c.next.result
    c.in-None.is c.next.ensures.steps in
    sym (append-nil c.loop-end.ends.items) ∙ ap (λ es. c.loop-end.ends.items ++ es) (sym over)
    ∙ c.loop-end.invariant.all
    ∙ c.into_iter-end-iterator.ensures.into_iter_gives ∙ c.iter-end-items.ensures.rest
    ∙ sym (entries_ordered c.self.inside.arcs.entries c.self.invariant)
    ∙ ap finite.entries c.self.view_is
