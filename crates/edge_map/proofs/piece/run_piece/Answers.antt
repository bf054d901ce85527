use Rattle.std.proofs.Common.{rules, arith, pos}
use Rattle.std.proofs.lemmas.List.Sums.{sum_by_more_le}
use Rattle.edge_map.specs.Additions.{visits}
use Rattle.edge_map.specs.declared.tasks.Work.{Work}
use Rattle.edge_map.specs.declared.tasks.Work.TheVariants.{Removed}
use Rattle.bolt_base.specs.Graph.{vertices}
use Rattle.edge_map.proofs.Growing.{grew_none}
use Rattle.edge_map.proofs.Places.{marked_none}
use Rattle.edge_map.proofs.piece.run_piece.Goals as goal

pub make-count-requires-clause-room : goal.make-count-requires-clause-room
make-count-requires-clause-room g c =
    let d : Work = Removed (record {
      source = 0;
      edge = record { src = 0; dst = 0; weight = pos 0 };
    }) in
    let more = sum_by_more_le (visits c.args.plan.now.tasks.now) c.args.all.now
    c.loop-work.work-index d c.loop-work-test.true in
    let so_far = c.loop-work.invariant.count in
    let room = c.requires.room in
    let same = c.loop-work.auto.targets in
    omega arith

pub make-count-requires-clause-visits : goal.make-count-requires-clause-visits
make-count-requires-clause-visits g c =
    let d : Work = Removed (record {
      source = 0;
      edge = record { src = 0; dst = 0; weight = pos 0 };
    }) in
    let more = sum_by_more_le (visits c.args.plan.now.tasks.now) c.args.all.now
    c.loop-work.work-index d c.loop-work-test.true in
    let so_far = c.loop-work.invariant.visits in
    let room = c.requires.visits in
    omega arith

pub loop-work-init : goal.loop-work-init
loop-work-init g c =
    record {
      table = search rules;
      units = search rules;
      held = search rules;
      visits = search rules;
      count = search rules;
      marked = marked_none (vertices (g.A.Adjacency.plain c.args.graph.now)) c.args.seat.now.view
          c.args.targets.now;
      grew = grew_none c.args.seat.now.view;
    }
