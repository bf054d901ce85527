-- What contracts see of a scope and of a word's meaning.
use Rattle.vertex_expr.specs.Node.{tree_of}
use Rattle.vertex_expr.specs.Writable.{Scope, names_of}
use Rattle.expr_text.specs.Reading.{Meaning, leaf, lane, call, nothing}
use Rattle.expr_text.specs.declared.scope.Scope.{Scope as CodeScope}
use Rattle.expr_text.specs.declared.scope.Meaning.{Meaning as CodeMeaning}
use Rattle.expr_text.specs.declared.scope.Meaning.TheVariants.{Leaf, OfLane, OfCall, Nothing}

abbrev pub scope_of : CodeScope → Scope
scope_of s = record { part = s.part; lanes = s.lanes; params = names_of s.params.now }

abbrev pub means : CodeMeaning → Meaning
means (Leaf e) = leaf (tree_of e)
means (OfLane l) = lane l
means (OfCall c) = call c
means Nothing = nothing
