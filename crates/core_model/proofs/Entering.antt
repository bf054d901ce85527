-- Entries of a journal: one more, and one that is decided.
use Rattle.std.proofs.Common.{◌≡◌, ◌≢◌, ℕ, zero, suc, ◌⊎◌, List, [], ◌∷◌, ◌++◌}
use Rattle.std.proofs.Common.{set, refl, sym, ap, ◌∙◌, subst, arith, inl, inr, Some}
use Rattle.std.proofs.Common.{None, append_assoc}
use Rattle.std.specs.Prelude.{slice_get}
use Rattle.std.proofs.lemmas.Grind.{flat_map-append}
use Rattle.std.proofs.lemmas.List.{append-nil, take-append-le}
use Rattle.std.proofs.lemmas.List.Elements.{All-push, All-set}
use Rattle.std.proofs.lemmas.Option.{slice_get_within}
use Rattle.bolt_base.specs.declared.edge.Edit.{Edit}
use Rattle.round_journal.specs.Replays.{Replays, accepted_edits, edits_if_accepted, outcome_after}
use Rattle.round_journal.specs.declared.entry.Entered.{Entered}
use Rattle.round_journal.specs.declared.outcome.Outcome.{Outcome}
use Rattle.round_journal.specs.declared.outcome.Outcome.TheVariants.{Memory}
use Rattle.round_journal.proofs.Shapes.{IsOpenFrom, with_outcome}
use Rattle.core_model.specs.Rules.{NoneWanted}
use Rattle.core_model.specs.State.{Given}

-- ---- one more
pub got_before : (es : List Entered) (e x : Entered) (k : ℕ) → slice_get es k ≡ Some x
    → slice_get (es ++ e ∷ []) k ≡ Some x
got_before [] e x k here = cc
got_before (y ∷ ys) e x zero here = here
got_before (y ∷ ys) e x (suc k) here = got_before ys e x k here

-- what is there behind one more entry was there, or is that entry
was_or_new : (es : List Entered) (e x : Entered) (k : ℕ) → slice_get (es ++ e ∷ []) k ≡ Some x
    → (slice_get es k ≡ Some x) ⊎ (e ≡ x)
was_or_new [] e x zero here = inr (cc)
was_or_new [] e x (suc k) here = cc
was_or_new (y ∷ ys) e x zero here = inl here
was_or_new (y ∷ ys) e x (suc k) here = was_or_new ys e x k here

pub replays_one_more : (c : Given) (es : List Entered) (e : Entered) → e.outcome ≡ None
    → Replays c.program c.opened c.choice es → Replays c.program c.opened c.choice (es ++ e ∷ [])
replays_one_more c es e none old k x o here is =
    elim (was_or_new es e x k here) [
      | inl there ↦
          let low = slice_get_within es k x there in
          subst (λ (l : List Entered). (o ≡ Memory)
          ⊎ (o ≡ outcome_after c.program c.opened c.choice l x.batch))
          (sym (take-append-le k es (e ∷ []) (omega arith))) (old k x o there is)
      | inr new ↦ absurd (let z : x.outcome ≡ None
          = ap (λ (y : Entered). y.outcome) (sym new) ∙ none in cc (z, is))
    ]

pub edits_one_more : (es : List Entered) (e : Entered) → e.outcome ≡ None
    → accepted_edits (es ++ e ∷ []) ≡ accepted_edits es
edits_one_more es e none =
    flat_map-append (λ (x : Entered). edits_if_accepted x.outcome x.batch.edits) es (e ∷ [])
    ∙ ap (λ o. accepted_edits es ++ (edits_if_accepted o e.batch.edits ++ [])) none
    ∙ append-nil (accepted_edits es)

pub none_wanted_one_more : (es : List Entered) (e : Entered) → e.outcome ≡ None → NoneWanted es
    → NoneWanted (es ++ e ∷ [])
none_wanted_one_more es e none old =
    All-push (λ (x : Entered). x.outcome ≢ Some Memory) es e old
    (λ wanted. let z = sym none ∙ wanted in cc)

-- ---- one decided
-- undecided entries have no edits
no_edits : (es : List Entered) → IsOpenFrom es 0 → accepted_edits es ≡ []
no_edits [] late = refl
no_edits (x ∷ xs) late =
    ap (λ o. edits_if_accepted o x.batch.edits ++ accepted_edits xs)
    (late 0 x refl (omega arith))
    ∙ no_edits xs (λ k e at _. late (suc k) e at (omega arith))

pub decided_edits : (es : List Entered) (d : ℕ) (o : Outcome) (x : Entered) → IsOpenFrom es d
    → slice_get es d ≡ Some x
    → accepted_edits (set es d (with_outcome x o))
    ≡ accepted_edits es ++ edits_if_accepted (Some o) x.batch.edits
decided_edits [] d o x late here = cc
decided_edits (y ∷ ys) zero o x late here =
    let is : y ≡ x = cc in
    let none = no_edits ys (λ k e at _. late (suc k) e at (omega arith)) in
    let first = late 0 y refl (omega arith) in
    ap (λ (l : List Edit). edits_if_accepted (Some o) x.batch.edits ++ l) none
    ∙ append-nil (edits_if_accepted (Some o) x.batch.edits)
    ∙ sym ((λ j. (edits_if_accepted (first j) y.batch.edits ++ none j)
    ++ edits_if_accepted (Some o) x.batch.edits))
decided_edits (y ∷ ys) (suc d) o x late here =
    let later = decided_edits ys d o x (λ k e at h. late (suc k) e at (omega arith)) here in
    ap (λ (l : List Edit). edits_if_accepted y.outcome y.batch.edits ++ l) later
    ∙ sym (append_assoc (edits_if_accepted y.outcome y.batch.edits) (accepted_edits ys)
    (edits_if_accepted (Some o) x.batch.edits))

pub none_wanted_decided : (es : List Entered) (d : ℕ) (o : Outcome) (x : Entered)
    → o ≢ Memory → NoneWanted es → NoneWanted (set es d (with_outcome x o))
none_wanted_decided es d o x ne old =
    All-set (λ (e : Entered). e.outcome ≢ Some Memory) es d (with_outcome x o)
    (λ wanted. ne (cc wanted)) old
