use Rattle.board.proofs.Keeping.{rule_admits}
use Rattle.board.proofs.publisher.fresh.Goals as goal

pub reader-requires : goal.reader-requires
reader-requires g c = rule_admits
