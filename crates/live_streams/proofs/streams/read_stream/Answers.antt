use Rattle.graph_text.specs.StreamText.{batches}
use Rattle.live_streams.proofs.EndSteps.{Reads-whole, file_says}
use Rattle.live_streams.proofs.streams.read_stream.Goals as goal

pub returns-clause-batches : goal.returns-clause-batches
returns-clause-batches g c =
    file_says c.args.name.now (g.S.Shelf.told c.args.shelf.now) (g.S.Shelf.told c.open.new.shelf)
    (g.S.Shelf.told c.load_batches.new.shelf) (g.S.Shelf.opened c.args.shelf.now)
    (g.S.Shelf.opened c.open.new.shelf) (g.S.Shelf.opened c.load_batches.new.shelf)
    c.in_ok-slot.slot
    c.load_batches.result (g.met.S.Shelf.tells_slots c.args.shelf.now) c.in_ok-slot.ensures.slot
    c.in_ok-slot.ensures.told c.load_batches.result batches c.load_batches.ensures.batches

pub returns-clause-reads : goal.returns-clause-reads
returns-clause-reads g c =
    Reads-whole c.args.name.now (g.S.Shelf.told c.args.shelf.now) (g.S.Shelf.told c.open.new.shelf)
    (g.S.Shelf.told c.load_batches.new.shelf) (g.S.Shelf.opened c.args.shelf.now)
    (g.S.Shelf.opened c.open.new.shelf) (g.S.Shelf.opened c.load_batches.new.shelf)
    c.in_ok-slot.slot
    c.load_batches.result (g.met.S.Shelf.tells_slots c.args.shelf.now) c.in_ok-slot.ensures.slot
    c.in_ok-slot.ensures.told c.in_ok-slot.ensures.opened c.load_batches.ensures.reads
