use Rattle.std.proofs.Common.{◌∙◌, FitsSigned, w64, arith, rules}
use Rattle.std.proofs.lemmas.Int.{to_z-of_z}
use Rattle.round_engine.proofs.EngineLemmas.{count, value_is}
use Rattle.round_engine.proofs.engine.Engine.kept_value.Goals as goal

pub val-requires-clause-vertex : goal.val-requires-clause-vertex
val-requires-clause-vertex c =
    let there = c.requires.vertex in
    let same = count c.self.inside c.args.self.now c.self.view_is c.self.invariant in
    omega arith

pub returns : goal.returns
returns c =
    let fits : FitsSigned w64 c.val.result = search rules in
    to_z-of_z w64 c.val.result fits ∙ c.val.ensures
    ∙ value_is c.self.inside c.args.self.now c.self.view_is c.self.invariant c.args.i c.args.v
    c.args.lane c.requires.iteration c.requires.vertex
