use Rattle.std.proofs.Common.{rules, arith, ◌≡◌, ◌+◌, ◌<◌, ◌/◌, ◌%◌, ap, ◌∙◌, sym}
use Rattle.std.specs.Int.{w64}
use Rattle.std.proofs.lemmas.Nat.Bits.{bit_at_set_same, bit_at_set_other}
use Rattle.agg_words.specs.declared.layout.Layout.{Layout}
use Rattle.agg_words.specs.Rule.{first_mark_word}
use Rattle.agg_words.proofs.Marking.{mark_allowed, in_mark_words}
use Rattle.agg_words.proofs.table.AggWords.mark_as.Goals as goal

pub fetch_or-found-requires : goal.fetch_or-found-requires
fetch_or-found-requires g c =
    let key = c.self.inside.table.shared.key in
    let same : c.self.inside.layout ≡ key = c.self.invariant.same in
    let told : g.O.Operand.layout ≡ key = c.requires.told.1
    ∙ sym (ap (λ t. t.layout) c.self.view_is) ∙ same in
    let place : c.place_of-word.result
    ≡ first_mark_word key + c.args.bit / 64 = c.place_of-word.ensures
    ∙ ap (λ k. first_mark_word k + c.args.bit / 64) same in
    let bits = ap (λ t. t.layout.bits) c.self.view_is in
    let key_bits = ap (λ (k : Layout). k.bits) same in
    let units = ap (λ s. s.view.units) c.seat.view_is in
    let here : c.args.bit < key.bits = omega arith in
    let in_word = in_mark_words c.args.bit key.bits here in
    let low : c.args.bit % 64 < 64 = omega arith in (
      search rules,
      let e = c.place_of-word.ensures in let room = c.self.invariant.size in omega arith,
      rw (place, c.requires.told.0, told)
          (mark_allowed key _ _ c.seat.inside.seat.me c.args.bit _ (omega arith) here
          (λ x. bit_at_set_same w64 x (c.args.bit % 64) low)
          (λ x i apart. bit_at_set_other w64 x (c.args.bit % 64) low i apart)),
    )
