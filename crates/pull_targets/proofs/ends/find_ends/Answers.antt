use Rattle.std.proofs.Common.{subst, arith}
use Rattle.std.proofs.lemmas.List.{take_all}
use Rattle.run_model.proofs.InRange.{no_edge}
use Rattle.pull_targets.specs.EndList.{AreFound}
use Rattle.pull_targets.specs.Ends.{ends_at}
use Rattle.pull_targets.proofs.EndLemmas.{found_none, one_more_end}
use Rattle.pull_targets.proofs.ends.find_ends.Goals as goal

pub loop-e-init : goal.loop-e-init
loop-e-init c = found_none c.args.found.now

pub find-requires : goal.find-requires
find-requires c =
    let same = c.loop-e.invariant.vertices in
    let there = c.requires.there c.loop-e.e-index no_edge c.loop-e-test.true in
    record { vertex = omega arith }

pub loop-e-preserved : goal.loop-e-preserved
loop-e-preserved c =
    one_more_end c.args.found.now c.loop-e.found c.find.new.self c.args.edges.now
    c.loop-e.e-index no_edge c.loop-e-test.true c.loop-e.invariant c.in_ok-find.ensures.found

pub returns : goal.returns
returns c =
    let past = c.loop-e-test.false in
    record {
      found = subst (λ es. AreFound c.args.found.now (ends_at es) c.loop-e.found)
          (take_all c.loop-e.e-index c.args.edges.now (omega arith)) c.loop-e.invariant;
    }
