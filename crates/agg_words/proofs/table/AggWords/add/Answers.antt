use Rattle.std.proofs.Common.{rules, arith, ap}
use Rattle.agg_words.specs.declared.layout.Layout.{Layout}
use Rattle.agg_words.proofs.Adding.{add_allowed}
use Rattle.agg_words.proofs.table.AggWords.add.Goals as goal

pub fetch_add-requires : goal.fetch_add-requires
fetch_add-requires c =
    let key = ap (λ (k : Layout). k.words) c.self.invariant.same in
    let words = ap (λ t. t.layout.words) c.self.view_is in
    let room = c.self.invariant.size in
    let units = ap (λ s. s.view.units) c.seat.view_is in (
      search rules,
      omega arith,
      add_allowed _ _ _ c.seat.inside.seat.me _ _ (omega arith)
          (omega arith),
    )
