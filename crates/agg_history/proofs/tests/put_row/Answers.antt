use Rattle.std.proofs.Common.{◌≡◌, ◌<◌, ◌≤◌, ℕ, inl, inr, IsSome, ap, ◌∙◌, subst, sym, arith}
use Rattle.std.proofs.lemmas.Bool.{cases_eq}
use Rattle.agg_history.specs.Puts.{PutTable, put_at}
use Rattle.agg_history.proofs.tests.put_row.Goals as goal

pub loop-v-preserved : goal.loop-v-preserved
loop-v-preserved c =
    let step = c.in_ok-put_once.ensures in
    let was = c.loop-v.invariant in
    record {
      same = step.same
          ∙ ap (λ (t : PutTable). record t { puts = c.put_once.new.overlay.puts }) was.same;
      end = was.end;
      here = λ u old below. elim (cases_eq u c.loop-v.v) [
        | inl last ↦ subst (λ w. IsSome (put_at c.put_once.new.overlay.puts c.args.i w))
            (sym last) step.here
        | inr other ↦ step.others c.args.i u (was.here u old (omega arith))
      ];
      others = λ j u put. step.others j u (was.others j u put);
    }
