use Rattle.std.proofs.Common.{◌≡◌, List, ℕ, length, map}
use Rattle.std.specs.Prelude.{codes}
use Rattle.cli_words.specs.Words.{texts}
use Rattle.live_opening.specs.Files.{ask_names, stream_names}
use Rattle.live_opening.proofs.TextSteps.{names-count, names-of, Reads-texts}
use Rattle.live_opening.proofs.texts.read_texts.Goals as goal

pub returns-clause-reads : goal.returns-clause-reads
returns-clause-reads g c =
    let words : List (List ℕ) = texts c.args.words.now in
    let command = c.args.command.now in
    let streams = c.as_slice-3.result.now in
    let asks = c.as_slice-4.result.now in
    let named : map (λ n. n.now) streams ≡ stream_names words command =
    names-of (codes "--stream=") words c.as_slice.result.now command.streams
    c.in_ok-streams.streams streams c.as_slice-3.ensures c.as_slice.ensures
    c.in_ok-streams.ensures.names in
    let asked : map (λ n. n.now) asks ≡ ask_names words command =
    names-of (codes "--ask=") words c.as_slice-2.result.now command.asks
    c.in_ok-asks.asks asks c.as_slice-4.ensures c.as_slice-2.ensures
    c.in_ok-asks.ensures.names in
    Reads-texts words command (map (λ n. n.now) streams) (map (λ n. n.now) asks) named asked
    (g.S.Shelf.told c.args.shelf.now) (length streams) (length asks)
    (g.S.Shelf.told c.read_live_texts.new.shelf) (g.S.Shelf.opened c.args.shelf.now)
    (g.S.Shelf.opened c.read_live_texts.new.shelf) c.read_live_texts.result
    (names-count (codes "--stream=") words command.streams streams named)
    (names-count (codes "--ask=") words command.asks asks asked) c.read_live_texts.ensures.reads
