use Rattle.std.proofs.Common.{rules}
use Rattle.std.proofs.lemmas.List.Sorted.{answers_always}
use Rattle.adjacency.proofs.RowLemmas.{search_found}
use Rattle.adjacency.proofs.row.halve.Goals as goal

-- the closure gives an arc's end
pub returns-clause-found : goal.returns-clause-found
returns-clause-found c =
    let facts = c.binary_search_by_key.ensures in
    (search_found _ c.requires c.args.end _ facts.bound
    (facts.position (λ arc. arc.0) (answers_always _ _ _ (λ f a r g called. search rules)))).0

pub returns-clause-absent : goal.returns-clause-absent
returns-clause-absent c =
    let facts = c.binary_search_by_key.ensures in
    (search_found _ c.requires c.args.end _ facts.bound
    (facts.position (λ arc. arc.0) (answers_always _ _ _ (λ f a r g called. search rules)))).1
