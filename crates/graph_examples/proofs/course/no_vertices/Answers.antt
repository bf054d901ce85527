use Rattle.std.proofs.Common.{ap, sym, ◌∙◌, ◌≡◌, [], ℤ, subst, arith}
use Rattle.std.proofs.lemmas.List.Elements.{All-nil}
use Rattle.bolt_base.specs.Graph.{IsBetween, IsGood}
use Rattle.bolt_base.specs.Plain.{graph_of}
use Rattle.bolt_base.proofs.BareGraphs.{bare_good}
use Rattle.graph_examples.proofs.course.no_vertices.Goals as goal

pub new-requires-3 : goal.new-requires-3
new-requires-3 g c =
    let graph : c.new-plain.result ≡ graph_of [] [] =
    c.new-plain.ensures.graph ∙ ap (λ xs. graph_of xs c.new-2.result) c.new.ensures
    ∙ ap (graph_of []) c.new-2.ensures in
    let within = All-nil (λ (a : ℤ). IsBetween c.args.limits.attr_lo c.args.limits.attr_hi a) in
    subst (IsGood c.args.limits) (sym graph) (bare_good c.args.limits [] (omega arith) within)
