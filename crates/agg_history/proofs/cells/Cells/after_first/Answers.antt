use Rattle.std.proofs.Common.{ap, ◌∙◌, ◌≡◌, ◌<◌, ◌+◌, ◌*◌, length, arith, take, drop, length-take}
use Rattle.std.proofs.Common.{length-drop}
use Rattle.agg_history.specs.Entries.{chunks}
use Rattle.agg_history.proofs.Chunks.{after_first, after_first_end}
use Rattle.agg_history.proofs.CellLemmas.{lanes_is, count_is, all_is}
use Rattle.agg_history.proofs.cells.Cells.after_first.Goals as goal

pub piece-requires : goal.piece-requires
piece-requires c =
    let inside : c.args.count < c.self.inside.len = omega (
      arith,
      count_is c.self.inside c.args.self.now c.self.view_is c.self.invariant,
      c.requires,
    ) in
    let end = after_first_end c.self.inside.lanes c.self.inside.len c.args.count
    (length c.self.inside.words.items) c.self.invariant.long inside in
    omega (arith, end.0, ap length c.deref.ensures.value)

pub invariant_of-result : goal.invariant_of-result
invariant_of-result c =
    let inside : c.args.count < c.self.inside.len = omega (
      arith,
      count_is c.self.inside c.args.self.now c.self.view_is c.self.invariant,
      c.requires,
    ) in
    let end = after_first_end c.self.inside.lanes c.self.inside.len c.args.count
    (length c.self.inside.words.items) c.self.invariant.long inside in
    let w = 2 * c.self.inside.lanes in
    let made = ap length
    (c.in_ok-words.ensures.items ∙ c.piece.ensures
    ∙ ap (λ ws. take (c.args.count * w) (drop w ws)) c.deref.ensures.value) in
    record {
      narrow = c.self.invariant.narrow;
      long = omega (
        arith,
        made,
        end.0,
        end.1,
        length-take (c.args.count * w) (drop w c.self.inside.words.items),
        length-drop w c.self.inside.words.items,
      );
    }

pub returns : goal.returns
returns c =
    let inside : c.args.count < c.self.inside.len = omega (
      arith,
      count_is c.self.inside c.args.self.now c.self.view_is c.self.invariant,
      c.requires,
    ) in
    let end = after_first_end c.self.inside.lanes c.self.inside.len c.args.count
    (length c.self.inside.words.items) c.self.invariant.long inside in
    let w = 2 * c.self.inside.lanes in
    let all = ap (chunks c.self.inside.lanes c.args.count)
    (c.in_ok-words.ensures.items ∙ c.piece.ensures
    ∙ ap (λ ws. take (c.args.count * w) (drop w ws)) c.deref.ensures.value
    ∙ ap (λ m. take m (drop w c.self.inside.words.items)) end.1
    ∙ ap (λ m. take (c.args.count * (c.self.inside.lanes + c.self.inside.lanes))
    (drop m c.self.inside.words.items))
    (let e : w ≡ c.self.inside.lanes + c.self.inside.lanes = omega arith in e))
    ∙ after_first c.self.inside.lanes c.self.inside.len c.self.inside.words.items c.args.count
    inside c.self.invariant.long
    ∙ ap (λ es. take c.args.count (drop 1 es))
    (all_is c.self.inside c.args.self.now c.self.view_is c.self.invariant) in
    λ i. record {
      lanes = lanes_is c.self.inside c.args.self.now c.self.view_is c.self.invariant i;
      all = all i;
    }
