use Rattle.bolt_base.proofs.TouchedLemmas.{removed_picked, added_picked}
use Rattle.bolt_base.proofs.change_laws.touched_pairs_tell.Goals as goal

pub returns : goal.returns
returns c = record {
  removed = removed_picked;
  added = added_picked;
}
