use Rattle.std.proofs.Common.{◌∙◌, FitsSigned, w64, arith, rules}
use Rattle.std.proofs.lemmas.Int.{to_z-of_z}
use Rattle.round_engine.proofs.EngineLemmas.{count, agg_is}
use Rattle.round_engine.proofs.engine.Engine.kept_agg.Goals as goal

pub agg-requires-clause-vertex : goal.agg-requires-clause-vertex
agg-requires-clause-vertex c =
    let there = c.requires.vertex in
    let same = count c.self.inside c.args.self.now c.self.view_is c.self.invariant in
    omega arith

pub returns : goal.returns
returns c =
    let fits : FitsSigned w64 c.agg.result = search rules in
    to_z-of_z w64 c.agg.result fits ∙ c.agg.ensures
    ∙ agg_is c.self.inside c.args.self.now c.self.view_is c.self.invariant c.args.i c.args.v
    c.args.lane c.requires.iteration c.requires.vertex
