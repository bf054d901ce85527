use Rattle.std.proofs.Common.{rules, ◌≡◌}
use Rattle.round_engine.specs.Preparing.{prepared_state}
use Rattle.engine_runs.specs.Making.{IsRound}
use Rattle.engine_runs.proofs.Rounds.{round_is}
use Rattle.engine_runs.proofs.making.make_batch.Goals as goal

pub returns-in-Ok-clause-made : goal.returns-in-Ok-clause-made
returns-in-Ok-clause-made g c =
    let s = c.args.engine.now in
    let t = c.prepare_batch.new.engine in
    let edits = c.args.batch.now.edits in
    let is_t : t ≡ prepared_state s edits = search rules in
    let is_e : c.in-Ok.prepared.edits ≡ edits = search rules in
    let done : IsRound t c.commit.new.self.now c.commit.result = record {
      net_added = c.commit.ensures.added;
      net_removed = c.commit.ensures.removed;
      all_edges = c.commit.ensures.edges;
      all_kept = c.commit.ensures.kept;
      all_read = c.commit.ensures.visits;
      all_changes = c.commit.ensures.changes;
    } in
    round_is s t edits c.in-Ok.prepared.edits c.commit.new.self.now c.commit.result is_t is_e
    c.commit.ensures.now done
