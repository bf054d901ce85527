use Rattle.std.proofs.Common.{rules, arith, ◌≡◌, ◌+◌, ◌<◌, ◌/◌, ap, ◌∙◌, sym}
use Rattle.agg_words.specs.declared.layout.Layout.{Layout}
use Rattle.agg_words.specs.Rule.{first_mark_word}
use Rattle.agg_words.proofs.Marking.{in_mark_words}
use Rattle.agg_words.proofs.Meeting.{meet_allowed}
use Rattle.agg_words.proofs.table.AggWords.meet_as.Goals as goal

pub load-found-requires : goal.load-found-requires
load-found-requires g c =
    let key = c.self.inside.table.shared.key in
    let same : c.self.inside.layout ≡ key = c.self.invariant.same in
    let told : g.O.Operand.layout ≡ key = c.requires.told.1
    ∙ sym (ap (λ t. t.layout) c.self.view_is) ∙ same in
    let place : c.place_of-word.result
    ≡ first_mark_word key + c.args.bit / 64 = c.place_of-word.ensures
    ∙ ap (λ k. first_mark_word k + c.args.bit / 64) same in
    let bits = ap (λ t. t.layout.bits) c.self.view_is in
    let key_bits = ap (λ (k : Layout). k.bits) same in
    let units = ap (λ s. s.view.units) c.seat.view_is in
    let here : c.args.bit < key.bits = omega arith in
    let in_word = in_mark_words c.args.bit key.bits here in (
      search rules,
      let e = c.place_of-word.ensures in let room = c.self.invariant.size in omega arith,
      rw (place, c.requires.told.0, told)
          (meet_allowed key _ _ c.seat.inside.seat.me c.args.bit (omega arith) here),
    )
