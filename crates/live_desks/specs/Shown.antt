-- What the log of a board shows, and what it says was accepted.
use Rattle.std.specs.Prelude.{ℕ, List, map}
use Rattle.bolt_base.specs.declared.edge.Edit.{Edit}
use Rattle.run_model.specs.Logs.{Round, shown}
use Rattle.run_model.specs.Rows.{Lists, answer}
use Rattle.board.specs.declared.kinds.Origin.{Origin}

-- the answer after the first n rounds of a log
abbrev pub answer_at : Origin → List Round → ℕ → Lists
answer_at o log n = shown (answer o.program o.graph) log n

-- the edits of each round
abbrev pub edits_of : List Round → List (List Edit)
edits_of log = map (λ r. r.edits) log
