use Rattle.std.proofs.Common.{◌∙◌}
use Rattle.expr_text.proofs.NameLists.{position-names}
use Rattle.expr_text.proofs.scope.param_named.Goals as goal

pub returns : goal.returns
returns c = c.param_at.ensures ∙ position-names c.args.word.now c.args.params.now
