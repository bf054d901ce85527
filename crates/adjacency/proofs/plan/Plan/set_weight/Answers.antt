use Rattle.std.proofs.Common.{sym, ◌∙◌, length}
use Rattle.adjacency.proofs.RowsLemmas.{get_weights}
use Rattle.adjacency.proofs.PlainLemmas.{outdeg_row, indeg_row}
use Rattle.adjacency.proofs.plan.Plan.set_weight.Goals as goal

pub put-requires-clause-spot : goal.put-requires-clause-spot
put-requires-clause-spot g c =
    let p = c.args.self.now in
    record {
      degree = c.requires.ends.out_degree ∙ outdeg_row p.attrs.now p.out.rows c.args.src;
      weight = c.requires.ends.weight ∙ get_weights p.out.rows c.args.src c.args.dst;
    }

pub put-requires-2-clause-spot : goal.put-requires-2-clause-spot
put-requires-2-clause-spot g c =
    let p = c.args.self.now in
    record {
      degree = c.requires.ends.in_degree
          ∙ indeg_row p.attrs.now (length p.attrs.now) p.out.rows p.into.rows
          c.requires.mirrored c.args.dst;
      weight = c.requires.ends.weight ∙ get_weights p.out.rows c.args.src c.args.dst
          ∙ sym (c.requires.mirrored.turned c.args.src c.args.dst);
    }
