use Rattle.core_model.proofs.Effects.{asks_are_answered, none_is_wanted, refused_change_nothing}
use Rattle.core_model.proofs.Effects.{seen_never_fall}
use Rattle.core_model.proofs.laws.steps_are_answered.Goals as goal

pub returns : goal.returns
returns c = record {
  nothing = λ c s k. refused_change_nothing c s k;
  memory = λ c s k. none_is_wanted c s k;
  asks = λ c s ruled desk query. asks_are_answered c s ruled desk query;
  seen = λ c s ruled k desk. seen_never_fall c s ruled k desk;
}
