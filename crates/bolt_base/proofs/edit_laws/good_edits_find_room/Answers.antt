use Rattle.bolt_base.proofs.GoodLemmas.{good_addition, good_cut}
use Rattle.bolt_base.proofs.edit_laws.good_edits_find_room.Goals as goal

pub returns : goal.returns
returns c = record {
  addition = good_addition;
  cut = good_cut;
}
