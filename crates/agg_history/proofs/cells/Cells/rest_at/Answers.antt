use Rattle.std.proofs.Common.{◌≡◌, ◌-◌, length, arith, ap, ◌∙◌, IsTrue}
use Rattle.agg_history.specs.Entries.{entry_in}
use Rattle.bolt_base.proofs.KeepLemmas.{rest_only}
use Rattle.agg_history.proofs.cells.Cells.rest_at.Goals as goal

pub returns-after-loop-n-clause-value : goal.returns-after-loop-n-clause-value
returns-after-loop-n-clause-value c =
    rest_only c.args.self.now.all c.loop-n.n
    (record {
      inside = c.loop-n.invariant.inside;
      equal = c.loop-n.invariant.equal;
      before = λ h. absurd (omega arith);
    })

pub returns-else-same-clause-value : goal.returns-else-same-clause-value
returns-else-same-clause-value c =
    rest_only c.args.self.now.all c.loop-n.n (record {
      inside = c.loop-n.invariant.inside;
      equal = c.loop-n.invariant.equal;
      before = λ h e. let t : IsTrue c.same.result = c.same.ensures.1
          (e ∙ ap (entry_in c.args.self.now.all)
          (let f : length c.args.self.now.all - 1
          ≡ c.len-last.result - 1 = omega (arith, c.loop-n.invariant.last) in f)) in
          cc (t, c.if-same.false);
    })
