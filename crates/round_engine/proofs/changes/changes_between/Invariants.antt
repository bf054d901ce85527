use Rattle.std.proofs.Common.{◌≡◌}
use Rattle.run_model.specs.Logs.{differs}
use Rattle.refine_rows.specs.Picked.{vertices_where}
use Rattle.round_engine.specs.Parts.{changes_in}
use Rattle.round_engine.proofs.changes.changes_between.Given as goal

abbrev pub invariant-loop-v : goal.invariant-loop-v
invariant-loop-v l = l.changes ≡ changes_in l.new (vertices_where l.v (differs l.old l.new))
