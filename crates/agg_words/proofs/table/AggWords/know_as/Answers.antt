use Rattle.std.proofs.Common.{rules, arith, ◌≡◌, ap, ◌∙◌, sym}
use Rattle.agg_words.proofs.Knowing.{look_allowed}
use Rattle.agg_words.proofs.table.AggWords.know_as.Goals as goal

pub load-requires : goal.load-requires
load-requires g c =
    let key = c.self.inside.table.shared.key in
    let room = c.self.invariant.size in
    let told : g.O.Operand.layout ≡ key = c.requires.told ∙ sym (ap (λ t. t.layout) c.self.view_is)
    ∙ c.self.invariant.same in
    (search rules, omega arith, rw told (look_allowed key _ _ c.seat.inside.seat.me _))
