use Rattle.std.proofs.Common.{◌∙◌, ◌+◌, ◌*◌, pos, arith, rules, FitsSigned, w64}
use Rattle.std.proofs.lemmas.Int.{to_z-of_z}
use Rattle.std.proofs.lemmas.List.{get_or_default}
use Rattle.board.proofs.PlacesAre.{number_inside, number_is}
use Rattle.board.proofs.places.Places.number.Goals as goal

pub index-requires : goal.index-requires
index-requires c = omega (
  arith,
  number_inside c.self.inside c.args.self.now c.self.view_is c.self.invariant c.args.vertex
      c.requires.vertex c.args.lane c.requires.lane,
  c.self.inside.words.ok.0,
)

pub returns : goal.returns
returns c =
    let fits : FitsSigned w64 c.index.result.now = search rules in
    to_z-of_z w64 c.index.result.now fits ∙ c.index.ensures
    ∙ get_or_default c.self.inside.words.items (c.args.vertex * c.self.inside.width + c.args.lane)
    c.index.result.now (pos 0)
    (number_inside c.self.inside c.args.self.now c.self.view_is c.self.invariant c.args.vertex
    c.requires.vertex c.args.lane c.requires.lane)
    ∙ number_is c.self.inside c.args.self.now c.self.view_is c.self.invariant c.args.vertex
    c.requires.vertex c.args.lane c.requires.lane
