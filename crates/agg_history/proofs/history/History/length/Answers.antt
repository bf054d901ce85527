use Rattle.std.proofs.Common.{ap, ◌∙◌, length}
use Rattle.agg_history.specs.Entries.{Entries}
use Rattle.agg_history.proofs.HistoryIs.{track_is, length_is}
use Rattle.agg_history.proofs.history.History.length.Goals as goal

pub returns : goal.returns
returns c =
    c.len.ensures ∙ ap (λ (e : Entries). length e.all) c.index-track.ensures
    ∙ ap length (track_is c.self.inside c.args.self.now c.self.view_is c.self.invariant c.args.v
    c.requires c.index-track.result.now)
    ∙ length_is c.self.inside c.args.self.now c.self.view_is c.self.invariant c.args.v c.requires
