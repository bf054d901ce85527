use Rattle.std.proofs.Common.{◌≡◌, ◌∙◌, ◌++◌, ap, replicate, true, false}
use Rattle.std.proofs.lemmas.List.{length-take-le, drop-replicate}
use Rattle.round_journal.proofs.journal.Journal.new.Goals as goal

pub returns : goal.returns
returns c =
    let opened : c.fill.new.self ≡ replicate c.args.origins false =
    c.fill.ensures.after (λ y h. cc h)
    ∙ ap (λ n. replicate n false) (length-take-le c.args.origins _ c.requires.few) in
    λ i. record {
      entries = c.in_ok-entries.ensures.items i;
      decided = 0;
      closed = opened i ++ drop-replicate c.args.origins 16 true i;
    }
