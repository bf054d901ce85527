use Rattle.std.proofs.Common.{◌≡◌, sym, ap, ◌∙◌, subst, arith}
use Rattle.std.specs.Prelude.{unwrap_or, Option}
use Rattle.bolt_base.specs.Graph.{Graph, IsGood, vertices}
use Rattle.bolt_base.specs.declared.limits.Limits.{Limits}
use Rattle.bolt_base.proofs.AfterLemmas.{no_vertex_lost}
use Rattle.bolt_base.proofs.GoodLemmas.{good_without}
use Rattle.adjacency.specs.ChangeOf.{IsChange}
use Rattle.adjacency.specs.State.{State}
use Rattle.round_engine.specs.EngineOf.{IsHistoryOf, IsNextOf, graph_next, graph_read, read_of}
use Rattle.round_engine.specs.State.{EngineState}
use Rattle.round_engine.specs.declared.engine.Engine.TheInside.{Inside}
use Rattle.round_engine.proofs.EngineLemmas.{read_idle, still}
use Rattle.round_engine.proofs.engine.Engine.prepare.Goals as goal

pub refine_parts-refined-requires-clause-step : goal.refine_parts-refined-requires-clause-step
refine_parts-refined-requires-clause-step g c κs within =
    let e : Inside = c.self.inside in
    let ok = c.self.invariant in
    let made : State = c.apply.new.self in
    let was = read_idle e.graph
    (ap (λ (s : EngineState). s.next) c.self.view_is ∙ c.requires.idle) in
    let reads : read_of made ≡ e.graph.now =
    ap (graph_read made.now) c.in-Ok-apply.ensures.before in
    let same : read_of made ≡ read_of e.graph = reads ∙ sym was in
    record {
      chosen = ok.chosen;
      over = record {
        safe = ok.safe;
        old = subst (IsGood e.accepted.limits) (sym same)
            (good_without e.accepted.limits e.opened (read_of e.graph) ok.fine);
        new = good_without e.accepted.limits e.opened made.now
            (subst (λ (l : Limits). IsGood l made.now)
            (c.in-Ok-apply.ensures.limits ∙ ok.bounded) c.limits-limits.ensures.good);
        more = let all = no_vertex_lost e.graph.now c.args.edits.now in
            let new = ap (λ (x : Graph). vertices x) c.in-Ok-apply.ensures.now in
            let old = ap (λ (x : Graph). vertices x) reads in
            omega arith;
      };
      net = subst (λ (x : Graph). IsChange x made.now c.in-Ok-apply.change) (sym reads)
          c.in-Ok-apply.ensures.change;
      begun = subst (λ (x : Graph). IsHistoryOf e.accepted e.choice x e.history) (sym same)
          ok.kept_now;
    }

pub invariant_of-self-in-Ok-refined : goal.invariant_of-self-in-Ok-refined
invariant_of-self-in-Ok-refined g c =
    let e : Inside = c.self.inside in
    let made : State = c.apply.new.self in
    let parts = c.refine_parts-refined in
    let was = read_idle e.graph
    (ap (λ (s : EngineState). s.next) c.self.view_is ∙ c.requires.idle) in
    let same : read_of made ≡ read_of e.graph =
    ap (graph_read made.now) c.in-Ok-apply.ensures.before ∙ sym was in
    still e c.self.invariant made parts.new.history parts.new.seat same
    c.in-Ok-apply.ensures.limits parts.ensures.history
    (subst (λ (o : Option Graph). IsNextOf e.accepted e.choice o parts.new.history)
    (sym (ap (graph_next made.now) c.in-Ok-apply.ensures.before)) c.in-Ok-refined.ensures.next)
    parts.ensures.table parts.ensures.clear

pub invariant_of-self-in-Err-refined : goal.invariant_of-self-in-Err-refined
invariant_of-self-in-Err-refined g c =
    let e : Inside = c.self.inside in
    let back : State = c.revert.new.self in
    let parts = c.refine_parts-refined in
    let was = read_idle e.graph
    (ap (λ (s : EngineState). s.next) c.self.view_is ∙ c.requires.idle) in
    let now : back.now ≡ e.graph.now = ap (λ (o : Option Graph). unwrap_or o e.graph.now)
    (c.revert.ensures.now ∙ c.in-Ok-apply.ensures.before) in
    let same : read_of back ≡ read_of e.graph =
    (λ i. graph_read (now i) (c.revert.ensures.before i)) ∙ sym was in
    still e c.self.invariant back parts.new.history parts.new.seat same
    (c.revert.ensures.limits ∙ c.in-Ok-apply.ensures.limits) parts.ensures.history
    (subst (λ (o : Option Graph). IsNextOf e.accepted e.choice o parts.new.history)
    (sym (ap (graph_next back.now) c.revert.ensures.before)) tt)
    parts.ensures.table parts.ensures.clear
