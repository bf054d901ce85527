use Rattle.bolt_base.proofs.PieceLemmas.{pieces-append, pieces-whole, length-pieces}
use Rattle.bolt_base.proofs.laws.pieces_are_whole.Goals as goal

pub returns : goal.returns
returns g c = record {
  append = λ xs w p q r. pieces-append xs w p q r;
  all = λ xs w. pieces-whole xs w;
  length = λ xs w p q. length-pieces xs w p q;
}
