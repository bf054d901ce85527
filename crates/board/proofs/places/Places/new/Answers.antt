use Rattle.std.proofs.Common.{◌≡◌, ◌∙◌, ap, arith, length, refl, take}
use Rattle.std.specs.List.{flat_map}
use Rattle.std.proofs.lemmas.List.{take_all}
use Rattle.run_model.specs.Rows.{Lists}
use Rattle.board.specs.Halls.{values_in}
use Rattle.board.proofs.PlacesAre.{start_is_laid}
use Rattle.board.proofs.places.Places.new.Goals as goal

pub returns : goal.returns
returns c =
    let start = c.args.start.now in
    let past = c.loop-value-test.false in
    let all : take c.loop-value.value-index start ≡ start =
    take_all c.loop-value.value-index start
    (omega (arith, past, ap length c.as_slice-value-items.ensures)) in
    let laid = c.loop-value.invariant ∙ ap (λ (l : Lists). flat_map (λ xs. xs) l) all in
    let values =
    ap (λ n. values_in c.args.width n c.resize.new.self.items) c.len.ensures
    ∙ start_is_laid c.args.width c.args.room _ start c.loop-value.words.items
    c.resize.new.self.items _ c.requires.wide c.requires.fits refl laid
    c.in_ok-resize.ensures.items in
    λ i. record { values = values i; room = c.args.room; width = c.args.width }
