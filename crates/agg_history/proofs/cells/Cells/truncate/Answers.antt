use Rattle.std.proofs.Common.{ap, ◌∙◌, ◌*◌, length, arith, length-take}
use Rattle.agg_history.specs.Entries.{chunks}
use Rattle.agg_history.proofs.CellLemmas.{lanes_is, front_inside, front_place, front_is}
use Rattle.agg_history.proofs.cells.Cells.truncate.Goals as goal

pub invariant_of-self : goal.invariant_of-self
invariant_of-self c = record {
  narrow = c.self.invariant.narrow;
  long = omega (
    arith,
    ap length c.truncate.ensures.items,
    length-take (c.args.count * (2 * c.self.inside.lanes)) c.self.inside.words.items,
    front_inside c.self.inside c.args.self.now c.self.view_is c.self.invariant c.args.count
        c.requires,
    front_place c.self.inside c.args.self.now c.self.view_is c.self.invariant c.args.count
        c.requires,
  );
}

pub returns : goal.returns
returns c =
    let all = ap (chunks c.self.inside.lanes c.args.count) c.truncate.ensures.items
    ∙ front_is c.self.inside c.args.self.now c.self.view_is c.self.invariant c.args.count
    c.requires in
    λ i. record {
      lanes = lanes_is c.self.inside c.args.self.now c.self.view_is c.self.invariant i;
      all = all i;
    }
