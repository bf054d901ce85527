use Rattle.core_model.proofs.PieceAdditions.{pieces_make_additions}
use Rattle.core_model.proofs.Tying.{asks, decides_decide, each_word_is_a_sum, publishes}
use Rattle.core_model.proofs.Tying.{submits_enter}
use Rattle.core_model.proofs.laws.parts_make_steps.Goals as goal

pub returns : goal.returns
returns c = record {
  submit = λ c s ruled from edits small. submits_enter c s from edits ruled small;
  decide = decides_decide;
  add = λ c may g h i sum within. pieces_make_additions c g h i may.workers sum within;
  settle = each_word_is_a_sum;
  publish = λ c s ruled r is. publishes c s ruled r is;
  ask = λ c s ruled query. asks c s ruled query;
}
