-- What an engine needs to judge a batch, and what it finds.
use Rattle.std.proofs.Common.{◌≡◌, ℕ, ◌<◌, ◌≤◌, ◌^◌, List, length, Option, Some, None, refl, sym}
use Rattle.std.proofs.Common.{subst}
use Rattle.std.proofs.Common.{arith}
use Rattle.std.specs.Prelude.{MatchOption}
use Rattle.bolt_base.proofs.BadLemmas.{bad_first}
use Rattle.bolt_base.proofs.GoodLemmas.{good_after, good_without}
use Rattle.bolt_base.specs.Edits.{after, bad}
use Rattle.bolt_base.specs.Graph.{Graph, IsGood, within}
use Rattle.bolt_base.specs.Laws.{IsFirstBad, NoneIsBad}
use Rattle.bolt_base.specs.declared.edge.Edit.{Edit}
use Rattle.bolt_base.specs.declared.limits.LineCause.{LineCause}
use Rattle.bolt_base.specs.declared.limits.Limits.{Limits}
use Rattle.range_check.specs.Breaks.{IsAccepted}
use Rattle.round_engine.specs.Preparing.{batch_visits, first_bad, most_visits, visits_unless}
use Rattle.round_engine.specs.State.{EngineState}
use Rattle.visit_bounds.proofs.Fitting.{batch_visits_fit}

-- the count of a batch's visits doesn't overflow
pub most_fit : (s : EngineState) (edits : List Edit) → IsAccepted s.program
    → IsGood (within s.program.limits s.opened) s.now → s.choice.cut ≤ s.program.rounds
    → most_visits s edits < 2 ^ 64
most_fit s edits safe good low = each (first_bad s edits) refl
  where
    limits : Limits
    limits = s.program.limits

    each : (o : Option (ℕ × LineCause)) → first_bad s edits ≡ o
        → visits_unless o (batch_visits s edits) < 2 ^ 64
    each None fine =
        batch_visits_fit s.program s.now (after s.now edits) s.choice.cut safe
        (good_without limits s.opened s.now good)
        (good_without limits s.opened (after s.now edits)
        (good_after (within limits s.opened) s.now edits good fine)) low
    each (Some at) refused = omega arith

-- the first bad edit is one of the edits
pub bad_inside : (l : Limits) (g : Graph) (edits : List Edit) (k : ℕ) (cause : LineCause)
    → bad l g edits ≡ Some (k, cause) → k < length edits
bad_inside l g edits k cause is =
    let first : IsFirstBad l g edits k cause =
    subst (λ (o : Option (ℕ × LineCause)). MatchOption o (NoneIsBad l g edits)
    (λ p. IsFirstBad l g edits p.0 p.1)) is (bad_first l g edits) in
    first.inside
