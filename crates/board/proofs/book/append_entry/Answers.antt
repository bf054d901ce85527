use Rattle.std.proofs.Common.{sym, ◌∙◌, ap}
use Rattle.board.proofs.Adding.{exchange_adds}
use Rattle.board.proofs.book.append_entry.Goals as goal

pub compare_exchange-found-requires : goal.compare_exchange-found-requires
compare_exchange-found-requires g c =
    let h = c.requires.head in
    let s = c.again-seen.ensures in
    let book = ap (λ t. t.book) s ∙ sym (ap (λ w. w.book) h) in
    let offer = c.plain-offer.ensures in
    let pen = c.no_pen-pen.ensures in (
      ap (λ w. w.tracked) h,
      book,
      pen.0 ∙ book,
      offer.0,
      rw (ap (λ w. w.key) h, pen.1, offer.1, offer.3 ∙ c.requires.state, ap (λ t. t.log) s)
          (exchange_adds c.args.all.now.log _ c.args.count (sym c.requires.room.0)),
    )
