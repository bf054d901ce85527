use Rattle.bolt_base.proofs.AfterLemmas.{unnamed_pairs_stay, unnamed_attrs_stay, no_vertex_lost}
use Rattle.bolt_base.proofs.edit_laws.edits_change_what_they_name.Goals as goal

pub returns : goal.returns
returns c = record {
  pairs = unnamed_pairs_stay;
  attrs = unnamed_attrs_stay;
  vertices = no_vertex_lost;
}
