use Rattle.std.proofs.Common.{◌≡◌, ◌+◌, ◌-◌, ◌++◌, ◌∷◌, [], ap, ◌∙◌, take, replicate, arith}
use Rattle.std.proofs.Common.{append_assoc}
use Rattle.std.proofs.lemmas.List.{replicate_more}
use Rattle.agg_history.specs.Entries.{Entries}
use Rattle.agg_history.proofs.history.reserve.grow_tracks.Goals as goal

pub loop-preserved : goal.loop-preserved
loop-preserved c =
    let blank : Entries = record { lanes = c.args.lanes; all = [] } in
    let old = take c.args.old c.args.tracks.now.items in
    let k = c.loop.counter - c.args.old in
    record {
      all = c.in_ok-push.ensures.items ∙ (λ i. c.loop.invariant.all i ++ c.new.ensures i ∷ [])
          ∙ append_assoc old (replicate k blank) (blank ∷ [])
          ∙ ap (λ xs. old ++ xs) (replicate_more k blank)
          ∙ ap (λ n. old ++ replicate n blank)
          (let e : k + 1 ≡ c.loop.counter + 1 - c.args.old = omega
          (arith, c.loop.invariant.from) in e);
      from = omega (arith, c.loop.invariant.from);
    }
