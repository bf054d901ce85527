use Rattle.board.proofs.Keeping.{rule_looks}
use Rattle.board.proofs.desk.look.Goals as goal

pub enter_as-requires : goal.enter_as-requires
enter_as-requires c x = rule_looks _ _ x
