use Rattle.std.proofs.Common.{◌<◌, ap, length, arith}
use Rattle.agg_history.specs.Entries.{Entries}
use Rattle.agg_history.specs.Pruned.{vertices_of}
use Rattle.agg_history.proofs.HistoryIs.{cut_is, vertices_is, track_is, length_short}
use Rattle.agg_history.proofs.history.History.old_length.Goals as goal

pub returns-then-v-self-clause-short : goal.returns-then-v-self-clause-short
returns-then-v-self-clause-short c =
    let below : c.args.v < vertices_of c.args.self.now = omega
    (arith, vertices_is c.self.inside c.args.self.now c.self.view_is c.self.invariant) in
    omega (
      arith,
      c.from.ensures,
      c.len.ensures,
      ap (λ (e : Entries). length e.all) c.index-track.ensures,
      ap length (track_is c.self.inside c.args.self.now c.self.view_is c.self.invariant c.args.v
          below c.index-track.result.now),
      length_short c.self.inside c.args.self.now c.self.view_is c.self.invariant c.args.v below,
      cut_is c.self.inside c.args.self.now c.self.view_is c.self.invariant,
      c.self.invariant.short,
    )
