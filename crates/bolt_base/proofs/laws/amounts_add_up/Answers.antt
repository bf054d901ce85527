use Rattle.bolt_base.proofs.ResidueLemmas.{sum_at-append, residue-add, residues-fold}
use Rattle.bolt_base.proofs.ResidueLemmas.{signed-residue}
use Rattle.bolt_base.proofs.laws.amounts_add_up.Goals as goal

pub returns : goal.returns
returns c = record {
  sums = sum_at-append;
  residues = residue-add;
  many = residues-fold;
  signed = signed-residue;
}
