use Rattle.bolt_base.proofs.InsertLemmas.{addition_one_more, cut_one_less}
use Rattle.bolt_base.proofs.EditLemmas.{length_added, outdeg_added, indeg_added}
use Rattle.bolt_base.proofs.edit_laws.edits_move_one_edge.Goals as goal

pub returns : goal.returns
returns c = record {
  addition = addition_one_more;
  cut = cut_one_less;
  count = λ g e absent. record {
    count = length_added g e absent;
    out = outdeg_added g e absent;
    into = indeg_added g e absent;
  };
}
