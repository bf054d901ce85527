use Rattle.board.proofs.PlacesAre.{count_is}
use Rattle.board.proofs.places.Places.len.Goals as goal

pub returns : goal.returns
returns c = count_is c.self.inside c.args.self.now c.self.view_is c.self.invariant
