use Rattle.std.proofs.Common.{ap, sym, ◌∙◌, map, length, subst}
use Rattle.std.proofs.lemmas.List.{length-map}
use Rattle.swaps.specs.Swaps.{put_all, AreInside}
use Rattle.adjacency.specs.Rows.{placed}
use Rattle.adjacency.proofs.RowListLemmas.{map-put_all, map-undo, inside_placed, inside_bare}
use Rattle.adjacency.proofs.row_list.RowList.swap_in.Goals as goal

pub swap_in-requires : goal.swap_in-requires
swap_in-requires g c =
    subst (λ n. AreInside n c.placed.inside.items.items)
    (sym (ap length c.self.view_is) ∙ length-map c.self.inside.rows.items g.R.Arcs.arcs)
    (inside_bare g.R.Arcs.arcs (length c.args.self.now) c.placed.inside.items.items
    (subst (AreInside (length c.args.self.now)) (sym c.placed.view_is) c.requires))

pub returns-clause-put : goal.returns-clause-put
returns-clause-put g c =
    ap (map g.R.Arcs.arcs) c.swap_in.ensures.put
    ∙ map-put_all g.R.Arcs.arcs c.placed.inside.items.items c.self.inside.rows.items
    ∙ ap (λ ps. put_all ps (map g.R.Arcs.arcs c.self.inside.rows.items)) c.placed.view_is
    ∙ ap (put_all c.args.placed.now) c.self.view_is

pub returns-clause-back : goal.returns-clause-back
returns-clause-back g c = sym (map-undo g.R.Arcs.arcs c.swap_in.new.items.items
    c.swap_in.new.all.items) ∙ ap (map g.R.Arcs.arcs) c.swap_in.ensures.back ∙ c.self.view_is

pub returns-clause-inside : goal.returns-clause-inside
returns-clause-inside g c =
    subst (λ n. AreInside n (placed g.R.Arcs.arcs c.swap_in.new.items.items))
    (sym (length-map c.swap_in.new.all.items g.R.Arcs.arcs))
    (inside_placed g.R.Arcs.arcs (length c.swap_in.new.all.items) c.swap_in.new.items.items
    c.swap_in.ensures.inside)
