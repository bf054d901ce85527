use Rattle.bolt_base.proofs.GoodLemmas.{good_after, good_within, good_without}
use Rattle.bolt_base.proofs.laws.good_stays_good.Goals as goal

pub returns : goal.returns
returns c = record { edits = good_after; room = good_within; within = good_without }
