use Rattle.std.proofs.Common.{rules, arith, ◌≡◌, ◌<◌, ◌+◌, ap, ◌∙◌}
use Rattle.agg_words.specs.declared.layout.Layout.{Layout}
use Rattle.agg_words.specs.Rule.{first_mark_word, mark_words}
use Rattle.agg_words.proofs.Wiping.{wipe_allowed}
use Rattle.agg_words.proofs.table.AggWords.wipe_as.Goals as goal

pub swap-requires : goal.swap-requires
swap-requires g c =
    let key = c.self.inside.table.shared.key in
    let same : c.self.inside.layout ≡ key = c.self.invariant.same in
    let place : c.place_of-word.result
    ≡ first_mark_word key + c.args.mark_word = c.place_of-word.ensures
    ∙ ap (λ k. first_mark_word k + c.args.mark_word) same in
    let bits = ap (λ t. t.layout.bits) c.self.view_is in
    let layout_units = ap (λ t. t.layout.units) c.self.view_is in
    let key_bits = ap (λ (k : Layout). k.bits) same in
    let key_units = ap (λ (k : Layout). k.units) same in
    let units = ap (λ s. s.view.units) c.seat.view_is in
    let some_unit = c.self.invariant.some_unit in
    let w = c.requires.word in
    let here : c.args.mark_word < mark_words key.bits = omega arith in (
      search rules,
      let e = c.place_of-word.ensures in let room = c.self.invariant.size in omega arith,
      rw (place, c.requires.told) (wipe_allowed key _ _ c.seat.inside.seat.me c.args.mark_word
          (omega arith) (omega arith) here),
    )
