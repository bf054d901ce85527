use Rattle.std.proofs.Common.{ap, sym, ◌∙◌, map, length, subst}
use Rattle.std.proofs.lemmas.List.{length-map}
use Rattle.swaps.specs.Swaps.{undo, AreInside}
use Rattle.adjacency.proofs.RowListLemmas.{map-undo, inside_bare}
use Rattle.adjacency.proofs.row_list.RowList.put_back.Goals as goal

pub put_back-requires : goal.put_back-requires
put_back-requires g c =
    subst (λ n. AreInside n c.placed.inside.items.items)
    (sym (ap length c.self.view_is) ∙ length-map c.self.inside.rows.items g.R.Arcs.arcs)
    (inside_bare g.R.Arcs.arcs (length c.args.self.now) c.placed.inside.items.items
    (subst (AreInside (length c.args.self.now)) (sym c.placed.view_is) c.requires))

pub returns-clause-back : goal.returns-clause-back
returns-clause-back g c =
    ap (map g.R.Arcs.arcs) c.put_back.ensures.back
    ∙ map-undo g.R.Arcs.arcs c.placed.inside.items.items c.self.inside.rows.items
    ∙ ap (λ ps. undo ps (map g.R.Arcs.arcs c.self.inside.rows.items)) c.placed.view_is
    ∙ ap (undo c.args.placed.now) c.self.view_is
