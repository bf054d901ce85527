-- How many batches a run has taken.
use Rattle.std.specs.Prelude.{ℕ, ◌+◌}
use Rattle.report_text.specs.Runs.{Run}

abbrev pub taken : Run → ℕ
taken r = r.accepted + r.refused
