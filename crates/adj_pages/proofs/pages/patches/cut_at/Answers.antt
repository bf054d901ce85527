use Rattle.std.proofs.Common.{ℕ, ℤ, ◌<◌, ◌+◌, Option, None, arith}
use Rattle.std.proofs.lemmas.List.Elements.{All-more}
use Rattle.adj_pages.proofs.SortedLemmas.{sorted_drop_from}
use Rattle.adj_pages.proofs.pages.patches.cut_at.Goals as goal

pub loop-at-preserved : goal.loop-at-preserved
loop-at-preserved c = record {
  later = omega (arith, c.loop-at.invariant.later);
  within = omega (arith, c.loop-at-test.true);
  passed = All-more (λ (e : ℕ × Option ℤ). e.0 < c.args.end) c.args.edits.now c.loop-at.at
      (0, None) c.loop-at-test.true c.loop-at.invariant.passed c.if-edits-at.true;
}

pub returns-else-edits-at-clause-cut : goal.returns-else-edits-at-clause-cut
returns-else-edits-at-clause-cut c = record {
  within = c.loop-at.invariant.within;
  below = c.loop-at.invariant.passed;
  above = sorted_drop_from c.args.end c.loop-at.at c.args.edits.now (0, None)
      c.requires.edits.rising c.loop-at-test.true c.if-edits-at.false;
}
