use Rattle.std.proofs.Common.{◌≤◌, ◌∙◌, arith}
use Rattle.bolt_base.specs.Graph.{Graph}
use Rattle.run_model.specs.Rows.{gathered}
use Rattle.pull_targets.proofs.PartLemmas.{mapped_more, reads_more, reads_within}
use Rattle.pull_targets.proofs.pull.pull_each.Goals as goal

pub pull-requires-clause-vertex : goal.pull-requires-clause-vertex
pull-requires-clause-vertex g c =
    let test = c.loop-k-test.true in
    let places = c.requires.places in
    c.requires.vertices c.loop-k.k 0 (omega arith)

pub pull-requires-clause-room : goal.pull-requires-clause-room
pull-requires-clause-room g c =
    let h : Graph = g.A.Adjacency.plain c.args.graph.now in
    let low : c.args.from ≤ c.loop-k.k = c.loop-k.auto.k in
    let was = c.loop-k.invariant.count in
    let room = c.requires.room in
    let more = reads_within c.args.targets.now h c.args.from c.loop-k.k c.args.to low
    c.loop-k-test.true in
    omega arith

pub returns-in_err-push-clause-most : goal.returns-in_err-push-clause-most
returns-in_err-push-clause-most g c =
    let h : Graph = g.A.Adjacency.plain c.args.graph.now in
    let low : c.args.from ≤ c.loop-k.k = c.loop-k.auto.k in
    let was = c.loop-k.invariant.count in
    let now = c.pull.ensures.count in
    let more = reads_within c.args.targets.now h c.args.from c.loop-k.k c.args.to low
    c.loop-k-test.true in
    omega arith

pub loop-k-preserved : goal.loop-k-preserved
loop-k-preserved g c =
    let h : Graph = g.A.Adjacency.plain c.args.graph.now in
    let low : c.args.from ≤ c.loop-k.k = c.loop-k.auto.k in
    let was = c.loop-k.invariant.count in
    let now = c.pull.ensures.count in
    let more = reads_more c.args.targets.now h c.args.from c.loop-k.k low in
    record {
      aggs = mapped_more c.args.targets.now
          (gathered c.args.program.now h (g.V.ValueRow.values c.args.row.now)) c.args.from
          c.loop-k.k c.loop-k.aggs.items c.push.new.self.items c.pull.result low
          c.in_ok-push.ensures.items c.loop-k.invariant.aggs c.pull.ensures.aggregate;
      count = omega arith;
      units = c.pull.ensures.units ∙ c.loop-k.invariant.units;
    }
