use Rattle.board.proofs.Keeping.{knows_none}
use Rattle.board.proofs.publisher.open.Goals as goal

pub new-requires-clause-rule : goal.new-requires-clause-rule
new-requires-clause-rule g c = (c.in_ok-first.ensures.right, knows_none _)
