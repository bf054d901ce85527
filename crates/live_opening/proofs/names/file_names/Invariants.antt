use Rattle.std.proofs.Common.{◌≡◌, map, take}
use Rattle.cli_words.specs.Words.{texts}
use Rattle.live_opening.specs.Files.{names_behind}
use Rattle.live_opening.proofs.names.file_names.Given as goal

abbrev pub invariant-loop-place : goal.invariant-loop-place
invariant-loop-place l = map (λ n. n.now) l.names
    ≡ names_behind l.option (texts l.words) (take l.place-index l.places)
