-- Why a batch of edits is refused.
use Rattle.std.specs.Prelude.{◌≡◌, List, Some}
use Rattle.bolt_base.specs.Graph.{Graph as Plain}
use Rattle.bolt_base.specs.Edits.{bad}
use Rattle.bolt_base.specs.declared.edge.Edit.{Edit}
use Rattle.bolt_base.specs.declared.limits.Limits.{Limits}
use Rattle.adjacency.specs.declared.change.EditRefusal.{EditRefusal}
use Rattle.adjacency.specs.declared.change.EditRefusal.TheVariants.{At, Memory}

-- the first bad edit, with its cause
abbrev pub IsRefusal : Limits → Plain → List Edit → EditRefusal → Type 0
IsRefusal l g edits (At index cause) = bad l g edits ≡ Some (index, cause)
IsRefusal l g edits Memory = Unit {0}
