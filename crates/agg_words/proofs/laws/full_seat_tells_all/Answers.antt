use Rattle.agg_words.proofs.Knowing.{tells_all, tells_zeros}
use Rattle.agg_words.proofs.laws.full_seat_tells_all.Goals as goal

pub returns : goal.returns
returns c = record {
  full = λ k words views h i v at full. tells_all k words views i v h at full;
  clear = λ k words views h i v at clear. tells_zeros k words views i v h at clear;
}
