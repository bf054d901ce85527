-- How contributions are held.
use Rattle.run_model.specs.declared.given.Contributions.{Contributions}
use Rattle.run_model.specs.declared.given.Contributions.TheVariants.{BySource, ByEdge}

-- one for all edges out of a vertex
abbrev pub AreShared : Contributions → Type 0
AreShared (BySource given) = Unit {0}
AreShared ByEdge = ⊥
