use Rattle.std.proofs.Common.{ap, sym, ◌∙◌, ◌≡◌, ◌<◌, length, arith, rules, subst, Fits, w32}
use Rattle.std.specs.List.{All}
use Rattle.bolt_base.specs.Graph.{Graph as Plain, edges, IsGood}
use Rattle.bolt_base.specs.Plain.{graph_of}
use Rattle.bolt_base.specs.declared.edge.Edge.{Edge}
use Rattle.bolt_base.proofs.PlainLists.{length-graph_of}
use Rattle.std.specs.FinMap as finite
use Rattle.adjacency.specs.Rows.{AreMirrored, weights_of}
use Rattle.adjacency.specs.PlainOf.{plain_of}
use Rattle.adjacency.proofs.NewLemmas.{first_plain, first_mirrored, first_count, listed_ends}
use Rattle.adjacency.proofs.graph.RowGraph.first.Given.{Over}
use Rattle.adjacency.proofs.graph.RowGraph.first.Goals as goal
use Rattle.adjacency.proofs.graph.RowGraph.first.Goals.{After-len, After-new-3}

pub first_rows-requires-clause-few : goal.first_rows-requires-clause-few
first_rows-requires-clause-few g c =
    let narrow : Fits w32 c.args.limits.vertices = search rules in
    let few = c.requires.few_vertices in
    let items = ap length (c.in_ok-attrs.ensures.items ∙ c.attrs.ensures.attrs) in
    let long = c.in_ok-attrs.attrs.ok.0 in
    omega (arith, narrow, few, items, long, c.len.ensures)

pub first_rows-requires-clause-ends : goal.first_rows-requires-clause-ends
first_rows-requires-clause-ends g c =
    let plain = c.args.plain.now in
    let n : length plain.attrs ≡ c.len.result = sym
    (c.len.ensures ∙ c.in_ok-attrs.attrs.ok.0
    ∙ ap length (c.in_ok-attrs.ensures.items ∙ c.attrs.ensures.attrs)) in
    subst (λ k. All (λ (e : Edge). (e.src < k) × (e.dst < k)) c.edges-edges.result.now) n
    (listed_ends plain c.edges-edges.result.now c.edges-edges.ensures.apart
    c.edges-edges.ensures.graph c.requires.ends)

pub overflow_cast-result : goal.overflow_cast-result
overflow_cast-result g c =
    let narrow : Fits w32 c.args.limits.edges = search rules in
    let few = c.requires.few_edges in
    let plain = c.args.plain.now in
    let long = sym (length-graph_of plain.attrs c.edges-edges.result.now
    c.edges-edges.ensures.apart)
    ∙ ap (λ (h : Plain). length (edges h)) c.edges-edges.ensures.graph in
    omega (arith, narrow, few, long)

module _ (g : Over) (c : After-new-3 g) where
  items : c.in_ok-attrs.attrs.items ≡ c.args.plain.now.attrs
  items = c.in_ok-attrs.ensures.items ∙ c.attrs.ensures.attrs

  whole : plain_of c.in_ok-attrs.attrs.items c.in_ok-out.out ≡ c.args.plain.now
  whole =
      ap (plain_of c.in_ok-attrs.attrs.items) c.in_ok-out.ensures
      ∙ first_plain c.len.result c.edges-edges.result.now c.in_ok-out_rows.field-0
      c.in_ok-out_rows.ensures c.in_ok-attrs.attrs.items
      ∙ ap (λ a. graph_of a c.edges-edges.result.now) items ∙ c.edges-edges.ensures.graph

pub invariant_of-result : goal.invariant_of-result
invariant_of-result g c = record {
  mirrored = rw (c.in_ok-out.ensures, c.in_ok-into.ensures)
      (subst (λ n. AreMirrored n c.in_ok-out_rows.field-0.out.items
      c.in_ok-out_rows.field-0.into.items) (c.len.ensures ∙ c.in_ok-attrs.attrs.ok.0)
      (first_mirrored c.len.result c.edges-edges.result.now c.in_ok-out_rows.field-0
      c.in_ok-out_rows.ensures));
  count = first_count c.len.result c.edges-edges.result.now c.in_ok-out_rows.field-0
      c.in_ok-out_rows.ensures c.in_ok-attrs.attrs.items c.edges-edges.ensures.apart
      ∙ ap (λ rows. finite.len (weights_of rows)) (sym c.in_ok-out.ensures);
  good = subst (IsGood c.args.limits) (sym (whole g c)) c.requires;
  aside = λ h. absurd h;
}

pub returns-clause-now : goal.returns-clause-now
returns-clause-now g c = whole g c
