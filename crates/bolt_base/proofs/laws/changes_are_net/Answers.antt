use Rattle.std.proofs.Common.{sym}
use Rattle.bolt_base.proofs.EdgeMap.{edges_at-shared}
use Rattle.bolt_base.proofs.SelfChange.{no_change}
use Rattle.bolt_base.proofs.laws.changes_are_net.Goals as goal

pub returns : goal.returns
returns c = record { shared = λ g h. sym (edges_at-shared g h); itself = no_change }
