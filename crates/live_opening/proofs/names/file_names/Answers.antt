use Rattle.std.proofs.Common.{◌∙◌, map, refl, ap}
use Rattle.std.proofs.lemmas.List.{take_all}
use Rattle.cli_words.specs.Words.{texts}
use Rattle.live_opening.specs.Files.{names_behind}
use Rattle.live_opening.proofs.NameSteps.{names-more}
use Rattle.live_opening.proofs.names.file_names.Goals as goal

pub loop-place-init : goal.loop-place-init
loop-place-init c = ap (map (λ n. n.now)) c.new-names.ensures

pub loop-place-preserved : goal.loop-place-preserved
loop-place-preserved c =
    names-more c.args.option.now (texts c.args.words.now) c.args.places.now
    c.loop-place.place-index _ c.loop-place.names c.push.new.self c.name_behind.result
    c.loop-place-test.true refl c.in_ok-push.ensures.ok c.name_behind.ensures
    c.loop-place.invariant

pub returns : goal.returns
returns c = record {
  names = c.loop-place.invariant
      ∙ ap (names_behind c.args.option.now (texts c.args.words.now))
      (take_all c.loop-place.place-index c.args.places.now c.loop-place-test.false);
}
