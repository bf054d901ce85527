use Rattle.std.proofs.Common.{◌∙◌}
use Rattle.expr_text.proofs.NameLists.{list_any-names}
use Rattle.expr_text.proofs.names.is_among.Goals as goal

pub returns : goal.returns
returns c = c.is_among_params.ensures ∙ list_any-names c.args.word.now c.args.params.now
