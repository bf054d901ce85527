use Rattle.std.proofs.Common.{◌∙◌, ap, sym, subst, ℕ}
use Rattle.board.specs.Queries.{HasLane, means}
use Rattle.board.proofs.desk.glance_at.Goals as goal

pub meaning-requires : goal.meaning-requires
meaning-requires c = record {
  lane = subst (λ (n : ℕ). HasLane c.args.query.now n) (sym c.requires.right.width)
      c.requires.lane;
}

pub returns-clause-body : goal.returns-clause-body
returns-clause-body c =
    c.meaning.ensures ∙ ap (means c.args.query.now) c.requires.right.answer
