use Rattle.adjacency.proofs.fresh.fresh_edits.Goals as goal

pub returns-in-Ok-fresh_rows-clause-ok : goal.returns-in-Ok-fresh_rows-clause-ok
returns-in-Ok-fresh_rows-clause-ok g c = c.in-Ok-fresh_rows.ensures c.args.limits c.args.attrs.now
    c.args.edits.now c.in-Ok.ensures.ok
