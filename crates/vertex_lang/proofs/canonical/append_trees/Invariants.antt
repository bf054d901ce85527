use Rattle.std.proofs.Common.{◌≡◌, ◌++◌, drop}
use Rattle.std.specs.Prelude.{map}
use Rattle.vertex_expr.specs.Node.{tree_of}
use Rattle.vertex_expr.specs.Writable.{names_of}
use Rattle.vertex_lang.specs.Canonical.{ended_lines, tree_lines}
use Rattle.vertex_lang.proofs.canonical.append_trees.Given as goal

abbrev pub invariant-loop-lane : goal.invariant-loop-lane
invariant-loop-lane l =
    l.out ++ ended_lines (tree_lines l.word (names_of l.params) l.lane
    (map tree_of (drop l.lane l.exprs)))
    ≡ l.initial.out ++ ended_lines
    (tree_lines l.word (names_of l.params) 0 (map tree_of l.exprs))
