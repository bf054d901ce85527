-- No count of visits overflows.
use Rattle.std.specs.Prelude.{ℕ, ◌^◌, ◌<◌, ◌≤◌}
use Rattle.bolt_base.specs.Graph.{Graph, IsGood}
use Rattle.vertex_expr.specs.declared.program.ProgramEntries.{ProgramEntries}
use Rattle.range_check.specs.Breaks.{IsAccepted}
use Rattle.run_model.specs.Visits.{visits, opening_visits}

-- the visits of a batch, from a good graph to another, wherever it is cut
abbrev pub BatchVisitsFit : Type 0
BatchVisitsFit = (p : ProgramEntries) (g h : Graph) (cut : ℕ)
    → IsAccepted p → IsGood p.limits g → IsGood p.limits h → cut ≤ p.rounds
    → visits p g h cut < 2 ^ 64

-- and those of an opening on a good graph
abbrev pub OpeningVisitsFit : Type 0
OpeningVisitsFit = (p : ProgramEntries) (g : Graph) → IsAccepted p → IsGood p.limits g
    → opening_visits p g < 2 ^ 64
