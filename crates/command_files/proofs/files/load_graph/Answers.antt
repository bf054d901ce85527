use Rattle.command_files.proofs.GraphSteps.{Reads-graph, graph_of-file}
use Rattle.command_files.proofs.files.load_graph.Goals as goal

pub returns-clause-graph : goal.returns-clause-graph
returns-clause-graph g c =
    graph_of-file c.args.limits.now c.args.name.now (g.S.Shelf.told c.args.shelf.now)
    (g.S.Shelf.told c.open.new.shelf) (g.S.Shelf.opened c.args.shelf.now) c.in_ok-slot.slot _
    (g.met.S.Shelf.tells_slots c.args.shelf.now) c.in_ok-slot.ensures.slot c.in_ok-slot.ensures.told
    c.load_slot.ensures.graph

pub returns-clause-reads : goal.returns-clause-reads
returns-clause-reads g c =
    Reads-graph c.args.limits.now c.args.name.now (g.S.Shelf.told c.args.shelf.now)
    (g.S.Shelf.told c.open.new.shelf) (g.S.Shelf.told c.load_slot.new.shelf)
    (g.S.Shelf.opened c.args.shelf.now) (g.S.Shelf.opened c.open.new.shelf)
    (g.S.Shelf.opened c.load_slot.new.shelf) c.in_ok-slot.slot _
    (g.met.S.Shelf.tells_slots c.args.shelf.now) c.in_ok-slot.ensures.slot c.in_ok-slot.ensures.told
    c.in_ok-slot.ensures.opened c.load_slot.ensures.took c.load_slot.ensures.opened
    c.load_slot.ensures.short c.load_slot.ensures.end c.load_slot.ensures.early
    c.load_slot.ensures.too_long
