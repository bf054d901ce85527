use Rattle.board.proofs.PlacesAre.{values_are_wide}
use Rattle.board.proofs.places.Places.width.Goals as goal

pub returns-clause-wide : goal.returns-clause-wide
returns-clause-wide c =
    values_are_wide c.self.inside c.args.self.now c.self.view_is c.self.invariant
