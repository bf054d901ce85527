use Rattle.std.proofs.Common.{◌≡◌, ◌+◌, ◌++◌, ◌∷◌, [], ◌&&◌, ◌||◌, ◌∙◌, List, ap, sym, arith, subst}
use Rattle.std.proofs.Common.{false}
use Rattle.std.specs.Prelude.{is_some, nat_eq}
use Rattle.std.specs.FinMap as finite
use Rattle.bolt_base.specs.declared.edge.Edge.{Edge}
use Rattle.graph_text.specs.EdgeIndex.{weights_of, one_if, IsIndexed}
use Rattle.graph_text.proofs.IndexLemmas.{out_fits, in_fits, indexed_more, not_found, weights_more}
use Rattle.graph_text.proofs.edge_set.EdgeSet.put.Goals as goal

pub add_out-requires-clause-fits : goal.add_out-requires-clause-fits
add_out-requires-clause-fits c =
    let few =
    out_fits c.self.inside.edges.items c.self.inside.rows.items c.self.inside.in_degrees.items
    c.args.self.now c.self.invariant c.self.view_is c.args.edge.src in
    let same = c.in_ok-cover_rows.ensures.counts c.args.edge.src in
    omega (arith, c.requires.room)

pub add_in-requires-clause-fits : goal.add_in-requires-clause-fits
add_in-requires-clause-fits c =
    let few =
    in_fits c.self.inside.edges.items c.self.inside.rows.items c.self.inside.in_degrees.items
    c.args.self.now c.self.invariant c.self.view_is c.args.edge.dst in
    let same = c.in_ok-cover_counts.ensures.same c.args.edge.dst in
    omega (arith, c.requires.room)

pub invariant_of-self-2 : goal.invariant_of-self-2
invariant_of-self-2 c =
    let e = c.args.edge in
    let es = c.self.inside.edges.items in
    let absent : is_some (finite.get c.args.self.now (e.src, e.dst)) ≡ false =
    sym c.contains.ensures ∙ c.if-contains.false in
    let appended =
    c.in_ok-push.ensures.items ∙ ap (λ (xs : List Edge). xs ++ e ∷ []) c.in_ok-reserve.ensures.items
    in
    subst (λ (xs : List Edge). IsIndexed xs c.add_out.new.rows.items c.add_in.new.counts.items)
    (sym appended)
    (indexed_more es e c.self.inside.rows.items _ c.self.inside.in_degrees.items _ c.self.invariant
    (not_found es c.args.self.now (e.src, e.dst) c.self.view_is absent)
    (λ u v. c.in_ok-add_out.ensures.held u v
    ∙ ap (λ b. nat_eq e.src u && nat_eq e.dst v || b) (c.in_ok-cover_rows.ensures.held u v))
    (λ u. c.in_ok-add_out.ensures.counts u
    ∙ ap (λ n. one_if (nat_eq e.src u) + n) (c.in_ok-cover_rows.ensures.counts u))
    (λ v. c.add_in.ensures v ∙ ap (λ n. one_if (nat_eq e.dst v) + n)
    (c.in_ok-cover_counts.ensures.same v)))

pub returns-clause-put : goal.returns-clause-put
returns-clause-put c =
    let e = c.args.edge in
    let absent : is_some (finite.get c.args.self.now (e.src, e.dst)) ≡ false =
    sym c.contains.ensures ∙ c.if-contains.false in
    let appended =
    c.in_ok-push.ensures.items ∙ ap (λ (xs : List Edge). xs ++ e ∷ []) c.in_ok-reserve.ensures.items
    in
    ap weights_of appended ∙ weights_more c.self.inside.edges.items c.args.self.now e c.self.view_is
    absent
