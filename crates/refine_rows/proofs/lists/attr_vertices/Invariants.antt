use Rattle.std.proofs.Common.{◌≡◌, map, take}
use Rattle.bolt_base.specs.declared.edge.AttrChange.{AttrChange}
use Rattle.refine_rows.proofs.lists.attr_vertices.Given as goal

abbrev pub invariant-loop-attr : goal.invariant-loop-attr
invariant-loop-attr l =
    l.vs.items ≡ map (λ (a : AttrChange). a.vertex) (take l.attr-index l.attr-items)
