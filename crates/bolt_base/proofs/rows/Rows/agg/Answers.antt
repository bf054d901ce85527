use Rattle.std.proofs.Common.{ap, sym, ◌∙◌, ◌<◌, ◌*◌, ◌+◌, length, arith, pos, get_or, rules}
use Rattle.std.proofs.Common.{FitsSigned, w64}
use Rattle.std.proofs.lemmas.Int.{to_z-of_z}
use Rattle.std.proofs.lemmas.List.{get_or_default}
use Rattle.bolt_base.proofs.RowLemmas.{agg_is, lanes_is, vertices_is, count_is, place_inside}
use Rattle.bolt_base.proofs.rows.Rows.agg.Goals as goal

pub returns : goal.returns
returns c =
    let row = c.index-row.result.now in
    let fits : FitsSigned w64 c.index.result.now = search rules in
    let iteration : c.args.i < length c.self.inside.rows.items = omega
    (arith, count_is c.self.inside c.args.self.now c.self.view_is, c.requires.iteration) in
    let vertex : c.args.v < c.self.inside.vertices = omega
    (arith, vertices_is c.self.inside c.args.self.now c.self.view_is, c.requires.vertex) in
    let lane : c.args.lane < c.self.inside.lanes = omega
    (arith, lanes_is c.self.inside c.args.self.now c.self.view_is, c.requires.lane) in
    let place = place_inside c.self.inside.lanes c.self.inside.vertices c.args.v c.args.lane vertex
    lane in
    let long = (c.self.invariant.flat c.args.i row iteration).aggs in
    to_z-of_z w64 c.index.result.now fits ∙ c.index.ensures
    ∙ get_or_default row.aggs.items (c.args.v * c.self.inside.lanes + c.args.lane)
    c.index.result.now (pos 0) (omega
    (arith, place, long, ap (λ r. length r.aggs.items) c.index-row.ensures))
    ∙ ap (λ r. get_or r.aggs.items (c.args.v * c.self.inside.lanes + c.args.lane) (pos 0))
    c.index-row.ensures
    ∙ sym (agg_is c.self.inside c.args.self.now c.self.view_is c.args.i c.args.v c.args.lane row
    c.requires.iteration c.requires.vertex c.requires.lane)
