use Rattle.round_engine.proofs.PartLemmas.{laid_is, next_is, refined_by}
use Rattle.round_engine.proofs.parts.refine_parts.Goals as goal

pub reserve-requires-clause-new : goal.reserve-requires-clause-new
reserve-requires-clause-new g c = (refined_by c.args.accepted.now c.args.choice
    g.O.OldGraph.graph (g.A.Adjacency.plain c.args.graph.now) c.args.change.now
    c.args.history.now c.requires.step c.refine.new.overlay c.in_ok-refine.ensures.refined).new

pub returns-clause-leads : goal.returns-clause-leads
returns-clause-leads g c = record {
  laid = laid_is c.args.accepted.now c.args.choice g.O.OldGraph.graph
      (g.A.Adjacency.plain c.args.graph.now) c.args.change.now c.args.history.now
      c.requires.step c.refine.new.overlay c.in_ok-refine.ensures.refined;
  last = c.in_ok-last.ensures.leads;
}

pub returns-clause-next : goal.returns-clause-next
returns-clause-next g c = next_is c.args.accepted.now c.args.choice g.O.OldGraph.graph
    (g.A.Adjacency.plain c.args.graph.now) c.args.change.now c.args.history.now
    c.requires.step c.refine.new.overlay c.in_ok-refine.ensures.refined c.reserve.new.self
    c.in_ok-reserve.ensures.ok c.reserve.ensures.now
