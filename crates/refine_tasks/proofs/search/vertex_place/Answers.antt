use Rattle.std.proofs.Common.{ℕ}
use Rattle.refine_tasks.proofs.SearchLemmas.{searched_key}
use Rattle.refine_tasks.proofs.search.vertex_place.Goals as goal

pub returns : goal.returns
returns c =
    let facts = c.binary_search.ensures in
    let found = searched_key (λ (v : ℕ). v) c.args.us.now c.args.u _ facts.bound facts.position in
    record { found = found.0; absent = found.1 }
