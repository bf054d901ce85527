use Rattle.std.proofs.Common.{pos}
use Rattle.bolt_base.specs.Padded.{zeros_padded, take-replicate}
use Rattle.bolt_base.proofs.lanes.Lanes.zeros.Goals as goal

pub invariant_of-result : goal.invariant_of-result
invariant_of-result c = zeros_padded c.args.width c.requires.some c.requires.narrow

pub returns : goal.returns
returns c = take-replicate c.args.width 8 (pos 0) c.requires.narrow
