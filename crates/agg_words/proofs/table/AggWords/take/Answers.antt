use Rattle.std.proofs.Common.{rules, arith, ap}
use Rattle.agg_words.specs.declared.layout.Layout.{Layout}
use Rattle.agg_words.proofs.Adding.{take_allowed}
use Rattle.agg_words.proofs.table.AggWords.take.Goals as goal

pub swap-sum-requires : goal.swap-sum-requires
swap-sum-requires c =
    let key = ap (λ (k : Layout). k.words) c.self.invariant.same in
    let all = ap (λ (k : Layout). k.units) c.self.invariant.same in
    let words = ap (λ t. t.layout.words) c.self.view_is in
    let layout_units = ap (λ t. t.layout.units) c.self.view_is in
    let some_unit = c.self.invariant.some_unit in
    let room = c.self.invariant.size in
    let units = ap (λ s. s.view.units) c.seat.view_is in (
      search rules,
      omega arith,
      take_allowed _ _ _ c.seat.inside.seat.me _ (omega arith) (omega arith)
          (omega arith),
    )
