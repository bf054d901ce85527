use Rattle.std.proofs.Common.{◌≡◌, false, take}
use Rattle.std.specs.List.{list_any}
use Rattle.vertex_expr.specs.Mentions.{mentions_attr}
use Rattle.vertex_expr.specs.Node.{tree_of}
use Rattle.core_adds.proofs.dirty.reads_attr.Given as goal

abbrev pub invariant-loop-expr : goal.invariant-loop-expr
invariant-loop-expr l =
    list_any (λ e. mentions_attr (tree_of e)) (take l.expr-index l.expr-items) ≡ false
