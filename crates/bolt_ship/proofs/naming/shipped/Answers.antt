use Rattle.std.proofs.Common.{refl}
use Rattle.bolt_ship.proofs.naming.shipped.Goals as goal

pub returns-in-rank : goal.returns-in-rank
returns-in-rank c = record { text = rw c.in-rank.is refl }

pub returns-in-dist : goal.returns-in-dist
returns-in-dist c = record { text = rw c.in-dist.is refl }
