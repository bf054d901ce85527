use Rattle.bolt_base.proofs.AfterLemmas.{bad-append}
use Rattle.bolt_base.proofs.BadLemmas.{after-append}
use Rattle.bolt_base.proofs.edit_laws.edits_append.Goals as goal

pub returns : goal.returns
returns c = record {
  after = after-append;
  bad = bad-append;
}
