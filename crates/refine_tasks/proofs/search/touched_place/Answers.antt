use Rattle.std.proofs.Common.{rules}
use Rattle.std.proofs.lemmas.List.Sorted.{answers_always}
use Rattle.bolt_base.specs.declared.edge.Touched.{Touched}
use Rattle.refine_tasks.proofs.SearchLemmas.{searched_key}
use Rattle.refine_tasks.proofs.search.touched_place.Goals as goal

pub returns : goal.returns
returns c =
    let facts = c.binary_search_by_key.ensures in
    let found = searched_key (λ (t : Touched). t.vertex) c.args.touched.now c.args.u _ facts.bound
    (facts.position (λ (t : Touched). t.vertex)
    (answers_always _ _ _ (λ f a r g called. search rules))) in
    record { found = found.0; absent = found.1 }
