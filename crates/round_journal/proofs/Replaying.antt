-- A journal that replays still does after a decision.
use Rattle.std.proofs.Common.{◌≡◌, ◌≢◌, ℕ, zero, suc, ◌⊎◌, List, [], ◌∷◌, ◌++◌}
use Rattle.std.proofs.Common.{take, set, lt_of_not-le, sym, refl, ap, ◌∙◌, subst}
use Rattle.std.proofs.Common.{⊎_elim, inl, inr, arith, Some}
use Rattle.std.specs.Prelude.{slice_get}
use mathlib.Core.Logic.{dite}
use native.Mathlib.Decide.{dec_le}
use Rattle.std.proofs.lemmas.List.{take-set-le}
use Rattle.bolt_base.specs.Graph.{Graph}
use Rattle.bolt_base.specs.declared.answer.Choice.{Choice}
use Rattle.bolt_base.specs.declared.edge.Edit.{Edit}
use Rattle.vertex_expr.specs.declared.program.ProgramEntries.{ProgramEntries}
use Rattle.graph_text.specs.declared.batch_text.BatchText.{BatchText}
use Rattle.round_journal.specs.declared.entry.Entered.{Entered}
use Rattle.round_journal.specs.declared.outcome.Outcome.{Outcome}
use Rattle.round_journal.specs.declared.outcome.Outcome.TheVariants.{Memory}
use Rattle.round_journal.specs.Replays.{Replays, outcome_after, accepted_edits, edits_if_accepted}
use Rattle.round_journal.proofs.Shapes.{IsOpenFrom, with_outcome, get_replaced, accepted_come_first}

edits_come_first : (es : List Entered) (d : ℕ) → IsOpenFrom es d
    → accepted_edits (take d es) ≡ accepted_edits es
edits_come_first [] zero late = refl
edits_come_first [] (suc d) late = refl
edits_come_first (x ∷ xs) zero late =
    edits_come_first xs zero (λ k e at _. late (suc k) e at (omega arith))
    ∙ ap (λ o. edits_if_accepted o x.batch.edits ++ accepted_edits xs)
    (sym (late zero x refl (omega arith)))
edits_come_first (x ∷ xs) (suc d) late =
    ap (λ (l : List Edit). edits_if_accepted x.outcome x.batch.edits ++ l)
    (edits_come_first xs d (λ k e at h. late (suc k) e at (omega arith)))

-- undecided entries change no outcome
outcome_of_decided : (p : ProgramEntries) (g : Graph) (c : Choice) (es : List Entered) (d : ℕ)
    (batch : BatchText) → IsOpenFrom es d
    → outcome_after p g c (take d es) batch ≡ outcome_after p g c es batch
outcome_of_decided p g c es d batch late =
    rw (accepted_come_first es d late, edits_come_first es d late) refl

pub replays_with_outcome : (p : ProgramEntries) (g : Graph) (c : Choice) (es : List Entered) (d : ℕ)
    (o : Outcome) (x : Entered) → slice_get es d ≡ Some x → IsOpenFrom es d
    → (o ≡ Memory) ⊎ (o ≡ outcome_after p g c es x.batch) → Replays p g c es
    → Replays p g c (set es d (with_outcome x o))
replays_with_outcome p g c es d o x here late due old k y q at is =
    let new = with_outcome x o in
    let goal = (q ≡ Memory) ⊎ (q ≡ outcome_after p g c (take k (set es d new)) y.batch) in
    ⊎_elim
    (λ (a : (k ≡ d) × (new ≡ y)).
    let same : o ≡ q = cc (ap (λ (z : Entered). z.outcome) a.1, is) in
    let before : take k (set es d new) ≡ take d es =
    ap (λ (j : ℕ). take j (set es d new)) a.0 ∙ take-set-le d es d new (omega arith) in
    let batch : y.batch ≡ x.batch = ap (λ (z : Entered). z.batch) (sym a.1) in
    ⊎_elim (λ (m : o ≡ Memory). inl (sym same ∙ m))
    (λ (m : o ≡ outcome_after p g c es x.batch).
    inr (sym same ∙ m ∙ sym (outcome_of_decided p g c es d x.batch late)
    ∙ ap (λ (b : BatchText). outcome_after p g c (take d es) b) (sym batch)
    ∙ ap (λ (l : List Entered). outcome_after p g c l y.batch) (sym before))) due)
    (λ (b : (k ≢ d) × (slice_get es k ≡ Some y)). dite (dec_le k d)
    (λ le. subst (λ (l : List Entered). (q ≡ Memory) ⊎ (q ≡ outcome_after p g c l y.batch))
    (sym (take-set-le k es d new le)) (old k y q b.1 is))
    (λ gt. absurd (let none = late k y b.1 (let z = lt_of_not-le gt in omega arith) in
    cc (none, is))))
    (get_replaced es d k new y at)
