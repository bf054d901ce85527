use Rattle.std.proofs.Common.{rules}
use Rattle.board.proofs.Keeping.{rule_forks, rule_merges}
use Rattle.board.proofs.publisher.seat_desks.Goals as goal

pub tell-requires : goal.tell-requires
tell-requires g c = rule_forks _ _

pub learn-requires : goal.learn-requires
learn-requires g c = record { own = search rules; rule = rule_merges _ _ _ _ }
