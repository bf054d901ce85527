use Rattle.std.proofs.Common.{◌≡◌, ◌<◌, ◌≤◌, ℕ, inl, inr, IsSome, ap, ◌∙◌, subst, sym, arith}
use Rattle.std.proofs.lemmas.Bool.{cases_eq}
use Rattle.agg_history.specs.Puts.{PutTable, put_at}
use Rattle.agg_history.proofs.tests.put_all.Goals as goal

pub loop-i-preserved : goal.loop-i-preserved
loop-i-preserved c =
    let step = c.in_ok-put_row.ensures in
    let was = c.loop-i.invariant in
    let count = ap (λ (t : PutTable). t.vertices) was.same in
    record {
      same = step.same
          ∙ ap (λ (t : PutTable). record t { puts = c.put_row.new.overlay.puts }) was.same;
      new = λ j u below old small. elim (cases_eq j c.loop-i.i) [
        | inl last ↦ subst (λ i. IsSome (put_at c.put_row.new.overlay.puts i u)) (sym last)
            (step.here u old (omega (arith, count)))
        | inr other ↦ step.others j u (was.new j u (omega arith) old small)
      ];
    }
