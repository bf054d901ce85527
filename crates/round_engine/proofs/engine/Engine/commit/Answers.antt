use Rattle.std.proofs.Common.{◌≡◌, ◌∙◌, sym, ap, length, arith, rules, Fits, w32}
use Rattle.bolt_base.specs.Graph.{Graph, edges}
use Rattle.run_model.specs.Kept.{kept}
use Rattle.round_engine.specs.EngineOf.{graph_read, read_of}
use Rattle.round_engine.specs.State.{EngineState}
use Rattle.round_engine.proofs.EngineLemmas.{history_is}
use Rattle.round_engine.proofs.HistoryLemmas.{kept_is}
use Rattle.round_engine.proofs.NetLemmas.{added_within, removed_within}
use Rattle.round_engine.proofs.PreparedLemmas.{committed, is_out, leads_now}
use Rattle.round_engine.proofs.engine.Engine.commit.Goals as goal

pub overflow_cast-added : goal.overflow_cast-added
overflow_cast-added c =
    let leads = leads_now c.self.inside.graph c.args.self.now c.args.prepared
    (ap (λ (s : EngineState). s.now) c.self.view_is)
    (ap (λ (s : EngineState). s.next) c.self.view_is) c.requires.prepared in
    let narrow : Fits w32 c.edges-edges.result = search rules in
    let few = added_within c.args.self.now.now c.self.inside.graph.now in
    let is = ap length leads.net.is_added in
    let all = c.edges-edges.ensures in
    let long = c.len-added.ensures in
    omega arith

pub overflow_cast-removed : goal.overflow_cast-removed
overflow_cast-removed c =
    let leads = leads_now c.self.inside.graph c.args.self.now c.args.prepared
    (ap (λ (s : EngineState). s.now) c.self.view_is)
    (ap (λ (s : EngineState). s.next) c.self.view_is) c.requires.prepared in
    let narrow : Fits w32 c.self.inside.edges = search rules in
    let few = removed_within c.args.self.now.now c.self.inside.graph.now in
    let is = ap length leads.net.is_removed in
    let all = c.self.invariant.counted
    ∙ ap (λ (s : EngineState). length (edges s.now)) c.self.view_is in
    let long = c.len-removed.ensures in
    omega arith

pub keep-requires-clause-change : goal.keep-requires-clause-change
keep-requires-clause-change c = is_out c.self.inside.graph c.args.self.now c.args.prepared
    (ap (λ (s : EngineState). s.now) c.self.view_is)
    (ap (λ (s : EngineState). s.next) c.self.view_is) c.requires.prepared

pub returns-clause-kept : goal.returns-clause-kept
returns-clause-kept c =
    let s : EngineState = c.args.self.now in
    let h : Graph = c.self.inside.graph.now in
    let leads = leads_now c.self.inside.graph s c.args.prepared
    (ap (λ (x : EngineState). x.now) c.self.view_is)
    (ap (λ (x : EngineState). x.next) c.self.view_is) c.requires.prepared in
    let begun = history_is c.self.inside s c.self.view_is c.self.invariant in
    let made = committed s.program s.choice s.now h c.self.inside.history c.commit.new.self
    c.args.prepared.overlay _ begun leads.laid c.commit.ensures.rows c.commit.ensures.state in
    let reads : read_of c.keep.new.self ≡ h =
    (λ i. graph_read (c.keep.ensures.now i) (c.keep.ensures.before i)) in
    c.kept.ensures ∙ kept_is s.program s.choice h c.commit.new.self made
    ∙ ap (λ x. kept s.choice.vertical s.program x s.choice.cut) (sym reads)
