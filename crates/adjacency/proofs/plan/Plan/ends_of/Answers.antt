use Rattle.std.proofs.Common.{sym, ◌∙◌, length}
use Rattle.adjacency.proofs.RowsLemmas.{get_weights}
use Rattle.adjacency.proofs.PlainLemmas.{outdeg_row, indeg_row}
use Rattle.adjacency.proofs.plan.Plan.ends_of.Goals as goal

pub returns : goal.returns
returns g c =
    let p = c.args.self.now in
    record {
      out_degree = c.spot-spot.ensures.degree
          ∙ sym (outdeg_row p.attrs.now p.out.rows c.args.src);
      in_degree = c.degree.ensures
          ∙ sym (indeg_row p.attrs.now (length p.attrs.now) p.out.rows p.into.rows c.requires
          c.args.dst);
      weight = c.spot-spot.ensures.weight ∙ sym (get_weights p.out.rows c.args.src c.args.dst);
    }
