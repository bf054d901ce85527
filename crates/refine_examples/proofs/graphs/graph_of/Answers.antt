use Rattle.std.proofs.Common.{◌≡◌, [], ap, ◌∙◌, sym, subst, arith}
use Rattle.std.proofs.lemmas.List.Elements.{All-nil}
use Rattle.bolt_base.specs.Graph.{IsGood}
use Rattle.bolt_base.specs.Plain.{graph_of}
use Rattle.bolt_base.specs.declared.limits.Limits.{Limits}
use Rattle.bolt_base.proofs.BareGraphs.{bare_good}
use Rattle.vertex_expr.specs.declared.program.ProgramEntries.{ProgramEntries}
use Rattle.refine_examples.proofs.graphs.graph_of.Goals as goal

pub new-requires-3 : goal.new-requires-3
new-requires-3 c =
    let graph : c.new-plain.result ≡ graph_of [] [] =
    c.new-plain.ensures.graph ∙ (λ i. graph_of (c.new.ensures i) (c.new-2.ensures i)) in
    let limits : Limits = c.entries.result.now.limits in
    subst (IsGood limits) (sym graph) (bare_good limits [] (omega arith) (All-nil _))

pub returns : goal.returns
returns c =
    let same = c.keep.ensures.limits ∙ c.in_ok-change.ensures.limits ∙ c.in_ok-graph.ensures.limits
    ∙ ap (λ (p : ProgramEntries). p.limits) (c.entries.ensures.entries ∙ c.program.ensures.program)
    in
    record {
      good = subst (λ (l : Limits). IsGood l c.keep.new.self.now) same
          c.limits-limits.ensures.good;
      limits = same;
      idle = c.keep.ensures.before;
    }
