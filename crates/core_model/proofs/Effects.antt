-- What steps answer, and what they leave alone.
use Rattle.std.proofs.Common.{◌≡◌, ◌≢◌, ℕ, ◌+◌, ◌≤◌, List, [], ◌∷◌, length}
use Rattle.std.proofs.Common.{eqb, ltb, get_or, Option, Some, None, refl, sym, ap, ◌∙◌, arith}
use Rattle.std.proofs.Common.{inl, inr, ◌⊎◌, length-append}
use Rattle.std.specs.Prelude.{slice_get}
use Rattle.std.proofs.lemmas.Bool.{cases_eq, cases_lt, cond_both}
use Rattle.std.proofs.lemmas.Grind.{get_or-set_at}
use Rattle.std.proofs.lemmas.List.{get_or-set_other, get_or_past, length-set}
use Rattle.bolt_base.specs.Edits.{after}
use Rattle.bolt_base.specs.Residue.{Amount}
use Rattle.bolt_base.specs.declared.edge.Edit.{Edit}
use Rattle.run_model.specs.Logs.{Round}
use Rattle.round_journal.specs.Book.{accepted_count, pending, with_entry}
use Rattle.round_journal.specs.declared.entry.Entered.{Entered}
use Rattle.round_journal.specs.declared.outcome.Outcome.{Outcome}
use Rattle.round_journal.specs.declared.outcome.Outcome.TheVariants.{Memory}
use Rattle.board.specs.declared.query.Query.{Query}
use Rattle.core_model.specs.Iterations.{settled}
use Rattle.core_model.specs.Laws.{IsAnswered}
use Rattle.core_model.specs.Machine.{accepted, add, add_first, add_in, batch_of, decide, decide_in}
use Rattle.core_model.specs.Machine.{ended, may_settle, next_entry, outcome_now, publish}
use Rattle.core_model.specs.Machine.{refused_on}
use Rattle.core_model.specs.Machine.{seen_by, settle, settle_in, step, submit, take_next, with_work}
use Rattle.core_model.specs.Rules.{IsRuled, list_of}
use Rattle.core_model.specs.State.{Given, Work, Progress, State}
use Rattle.core_model.specs.declared.step.Step.{Step}
use Rattle.core_model.specs.declared.step.Step.TheVariants.{Submit, Take, Add, Settle, Decide}
use Rattle.core_model.specs.declared.step.Step.TheVariants.{Publish, Ask, Learn}
use Rattle.core_model.specs.declared.step.Effect.{Effect}
use Rattle.core_model.specs.declared.step.Effect.TheVariants.{Ticket, Full, Done, Decided}
use Rattle.core_model.specs.declared.step.Effect.TheVariants.{Nothing}
use Rattle.core_model.proofs.Deciding.{never_wanted}

-- ---- what every step does
-- a refused one changes nothing, no decision is that memory was wanting, and each desk has seen
-- what it had, or what is published
record IsFair (s : State) (r : State × Effect) : Type 0 where
  full : r.1 ≡ Full → r.0 ≡ s
  nothing : r.1 ≡ Nothing → r.0 ≡ s
  wanted : r.1 ≢ Decided Memory
  desks : (desk : ℕ) → (get_or r.0.seen desk 0 ≡ get_or s.seen desk 0)
      ⊎ (get_or r.0.seen desk 0 ≡ s.published)

refused_is_fair : (s : State) → IsFair s (s, Nothing)
refused_is_fair s = record {
  full = λ e. refl;
  nothing = λ e. refl;
  wanted = λ e. cc;
  desks = λ d. inl refl;
}

full_is_fair : (s : State) → IsFair s (s, Full)
full_is_fair s = record {
  full = λ e. refl;
  nothing = λ e. refl;
  wanted = λ e. cc;
  desks = λ d. inl refl;
}

done_is_fair : (s t : State) → t.seen ≡ s.seen → IsFair s (t, Done)
done_is_fair s t same = record {
  full = λ e. absurd (cc);
  nothing = λ e. absurd (cc);
  wanted = λ e. cc;
  desks = λ d. inl (ap (λ seen. get_or seen d 0) same);
}

submit_is_fair : (s : State) (origin : ℕ) (edits : List Edit) → IsFair s (submit s origin edits)
submit_is_fair s origin edits =
    cond_both (eqb (pending s.journal) 64) (s, Full) (
      record s { journal = with_entry s.journal origin (batch_of edits) },
      Ticket (length s.journal.entries + 1),
    )
    (IsFair s) (λ t. full_is_fair s)
    (λ t. record {
      full = λ e. absurd (cc);
      nothing = λ e. absurd (cc);
      wanted = λ e. cc;
      desks = λ d. inl refl;
    })

module _ (c : Given) (s : State) where
  take_is_fair : (q : Option Progress) (a : Option Round) (n : Option Entered)
      → IsFair s (take_next c s q a n)
  take_is_fair None None (Some e) = done_is_fair s _ refl
  take_is_fair None None None = refused_is_fair s
  take_is_fair None (Some r) n = refused_is_fair s
  take_is_fair (Some r) a n = refused_is_fair s

  add_first_is_fair : (r : Progress) (w : Work) (k : ℕ) (x : Option (List Amount))
      → IsFair s (add_first s r w k x)
  add_first_is_fair r w k None = refused_is_fair s
  add_first_is_fair r w k (Some []) = refused_is_fair s
  add_first_is_fair r w k (Some (a ∷ rest)) = done_is_fair s _ refl

  add_in_is_fair : (r : Progress) (x : Option Work) (k : ℕ) → IsFair s (add_in s r x k)
  add_in_is_fair r None k = refused_is_fair s
  add_in_is_fair r (Some w) k = add_first_is_fair r w k (slice_get w.left k)

  add_is_fair : (q : Option Progress) (k : ℕ) → IsFair s (add s q k)
  add_is_fair None k = refused_is_fair s
  add_is_fair (Some r) k = add_in_is_fair r r.work k

  settle_in_is_fair : (r : Progress) (x : Option Work) → IsFair s (settle_in c s r x)
  settle_in_is_fair r None = refused_is_fair s
  settle_in_is_fair r (Some w) =
      cond_both (may_settle c w) (with_work s r (settled c s.graph s.stored w), Done) (s, Nothing)
      (IsFair s) (λ t. done_is_fair s _ refl) (λ t. refused_is_fair s)

  settle_is_fair : (q : Option Progress) → IsFair s (settle c s q)
  settle_is_fair None = refused_is_fair s
  settle_is_fair (Some r) = settle_in_is_fair r r.work

  pub same_outcome : (a b : Outcome) → Decided a ≡ Decided b → a ≡ b
  same_outcome a b e = cc

  decided_is_fair : (e : Entered) (t : State) → t.seen ≡ s.seen
      → IsFair s (t, Decided (outcome_now c s e.batch))
  decided_is_fair e t same = record {
    full = λ e. absurd (cc);
    nothing = λ e. absurd (cc);
    wanted = λ is. never_wanted c.program c.choice (accepted_count s.journal.entries + 1) s.graph
        (after s.graph e.batch.edits) (refused_on c s.graph e.batch)
        (same_outcome (outcome_now c s e.batch) Memory is);
    desks = λ d. inl (ap (λ seen. get_or seen d 0) same);
  }

  decide_in_is_fair : (e : Entered) (x : Option Work) → IsFair s (decide_in c s e x)
  decide_in_is_fair e None = decided_is_fair e (ended c s e) refl
  decide_in_is_fair e (Some w) =
      cond_both (ltb c.program.rounds w.iteration)
      (accepted c s e w, Decided (outcome_now c s e.batch)) (s, Nothing)
      (IsFair s) (λ t. decided_is_fair e (accepted c s e w) refl) (λ t. refused_is_fair s)

  decide_is_fair : (q : Option Progress) → IsFair s (decide c s q)
  decide_is_fair None = refused_is_fair s
  decide_is_fair (Some r) = decide_in_is_fair r.entry r.work

  publish_is_fair : (a : Option Round) → IsFair s (publish s a)
  publish_is_fair None = refused_is_fair s
  publish_is_fair (Some r) = done_is_fair s _ refl

  seen_now : (desk d : ℕ) → (get_or (seen_by s desk).seen d 0 ≡ get_or s.seen d 0)
      ⊎ (get_or (seen_by s desk).seen d 0 ≡ s.published)
  seen_now desk d = elim (cases_eq d desk) [
    | inr apart ↦ inl (get_or-set_other s.seen desk d s.published 0 apart)
    | inl same ↦ elim (cases_lt d (length s.seen)) [
      | inl there ↦ inr (get_or-set_at s.seen desk d s.published 0 same (omega arith))
      | inr past ↦
          let long = length-set s.seen desk s.published in
          inl (get_or_past (seen_by s desk).seen d 0 (omega arith)
          ∙ sym (get_or_past s.seen d 0 past))
    ]
  ]

  step_is_fair : (k : Step) → IsFair s (step c s k)
  step_is_fair (Submit origin edits) = submit_is_fair s origin edits
  step_is_fair Take = take_is_fair s.progress s.awaiting (next_entry s.journal)
  step_is_fair (Add piece) = add_is_fair s.progress piece
  step_is_fair Settle = settle_is_fair s.progress
  step_is_fair Decide = decide_is_fair s.progress
  step_is_fair Publish = publish_is_fair s.awaiting
  step_is_fair (Ask desk query) = record {
    full = λ e. absurd (cc);
    nothing = λ e. absurd (cc);
    wanted = λ e. cc;
    desks = seen_now desk;
  }
  step_is_fair (Learn desk) = record {
    full = λ e. absurd (cc);
    nothing = λ e. absurd (cc);
    wanted = λ e. cc;
    desks = seen_now desk;
  }

  pub refused_change_nothing : (k : Step) → ((step c s k).1 ≡ Full → (step c s k).0 ≡ s)
      × ((step c s k).1 ≡ Nothing → (step c s k).0 ≡ s)
  refused_change_nothing k = ((step_is_fair k).full, (step_is_fair k).nothing)

  pub none_is_wanted : (k : Step) → (step c s k).1 ≢ Decided Memory
  none_is_wanted k = (step_is_fair k).wanted

-- ---- desks
module _ (c : Given) (s : State) (ruled : IsRuled c s) where
  seen_is_published : (desk : ℕ) → get_or s.seen desk 0 ≤ s.published
  seen_is_published desk = elim (cases_lt desk (length s.seen)) [
    | inl there ↦ ruled.published.known desk 0 there
    | inr past ↦ let none = get_or_past s.seen desk 0 past in omega arith
  ]

  pub asks_are_answered : (desk : ℕ) (query : Query) → IsAnswered c s desk query
  asks_are_answered desk query =
      let number = ruled.published.number in
      let count = ruled.published.count in
      let long = length-append s.log (list_of s.awaiting) in
      record {
        effect = refl;
        right = ruled.published.right s.published (omega arith);
        seen = seen_is_published desk;
        within = omega arith;
      }

  pub seen_never_fall : (k : Step) (desk : ℕ)
      → get_or s.seen desk 0 ≤ get_or (step c s k).0.seen desk 0
  seen_never_fall k desk = elim ((step_is_fair c s k).desks desk) [
    | inl same ↦ omega arith
    | inr now ↦ let most = seen_is_published desk in omega arith
  ]
