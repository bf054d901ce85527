-- What the parts of a service do is what steps do.
use Rattle.std.proofs.Common.{◌≡◌, ℕ, ◌+◌, ◌-◌, ◌<◌, ◌≤◌, Bool, true, false, cond, eqb, List, []}
use Rattle.std.proofs.Common.{◌∷◌, ◌++◌, length, ltb, Option, Some, None, refl, sym, ap, ◌∙◌}
use Rattle.std.proofs.Common.{inl, inr, get_or, subst, arith, length-append}
use Rattle.std.specs.Prelude.{slice_get}
use Rattle.std.proofs.lemmas.Bool.{cases_Bool}
use Rattle.std.proofs.lemmas.Grind.{flat_map-append}
use Rattle.std.proofs.lemmas.List.{append-nil, get_or-replicate, take_all}
use Rattle.std.proofs.lemmas.List.Sums.{fold-append}
use Rattle.std.proofs.lemmas.Option.{slice_get_within}
use Rattle.bolt_base.specs.Edits.{after, edited}
use Rattle.bolt_base.specs.Graph.{Graph, room, vertices}
use Rattle.bolt_base.specs.declared.edge.Edit.{Edit}
use Rattle.bolt_base.proofs.AfterLemmas.{no_vertex_lost}
use Rattle.graph_text.specs.declared.batch_text.BatchText.{BatchText}
use Rattle.run_model.specs.Logs.{Round, log_edits, shown, with_changes}
use Rattle.run_model.specs.Rows.{Lists, answer}
use Rattle.run_model.proofs.LogLemmas.{changes_make_new}
use Rattle.run_model.proofs.RowLemmas.{values_whole}
use Rattle.round_journal.specs.Book.{IsRound, accepted_count, entry_of, pending, refusal}
use Rattle.round_journal.specs.Book.{with_entry}
use Rattle.round_journal.specs.Replays.{outcome_after}
use Rattle.round_journal.specs.declared.entry.Entered.{Entered}
use Rattle.round_journal.specs.declared.journal.EnterError.{EnterError}
use Rattle.round_journal.specs.declared.journal.EnterError.TheVariants.{Full as IsFull, Closed}
use Rattle.round_journal.specs.declared.outcome.Outcome.{Outcome}
use Rattle.board.specs.Log.{GoesOn, origin, shows}
use Rattle.board.specs.Queries.{means}
use Rattle.board.specs.declared.query.Query.{Query}
use Rattle.core_model.specs.Machine.{accepted, batch_of, decide, decide_in, outcome_now}
use Rattle.core_model.specs.Machine.{publish, step, submit, with_outcome}
use Rattle.core_model.specs.Rules.{IsIterating, IsRuled, list_of}
use Rattle.core_model.specs.State.{Given, Work, Progress, State}
use Rattle.core_model.specs.Ties.{IsAsking, IsDeciding, IsEntering, IsPublishing, WordsAreSums}
use Rattle.core_model.specs.declared.step.Step.TheVariants.{Decide}
use Rattle.core_model.specs.declared.step.Effect.{Effect}
use Rattle.core_model.specs.declared.step.Effect.TheVariants.{Ticket, Full, Decided, Nothing}
use Rattle.core_model.proofs.Deciding.{next_here, next_round, outcome_due}
use Rattle.core_model.proofs.Effects.{same_outcome}
use Rattle.core_model.proofs.Progressing.{work_is}
use Rattle.core_model.proofs.Publishing.{next_is}
use Rattle.core_model.proofs.Working.{words_are_sums}

-- ---- Submit
-- what the tests of an entry say
module _ (c : Given) (s : State) (from : ℕ) (edits : List Edit) where
  abbrev batch : BatchText
  batch = batch_of edits

  -- by whether the origin is closed, and whether as many entries are pending as may be
  refused_by : Bool → Bool → Option EnterError
  refused_by closed full = cond closed (Some (Closed batch)) (cond full (Some (IsFull batch 64 64))
      None)

  full_if : (full : Bool) (e : EnterError) → refused_by false full ≡ Some e
      → (e ≡ IsFull batch 64 64) × (full ≡ true)
  unfolding refused_by
  full_if true e is = (cc, refl)
  full_if false e is = cc

  free_if : (full : Bool) → refused_by false full ≡ None → full ≡ false
  unfolding refused_by
  free_if true is = cc
  free_if false is = refl

  abbrev is_full : Bool
  is_full = eqb (pending s.journal) 64

  pub submits_enter : IsRuled c s → from < 16 → IsEntering c s from edits
  unfolding refused_by
  submits_enter ruled small =
      let open' = ap (λ (l : List Bool). get_or l from true) ruled.entries.origins
      ∙ get_or-replicate 16 from false true small in
      let by_full : refusal s.journal from batch ≡ refused_by false is_full =
      ap (λ b. refused_by b is_full) open' in
      let after_test : (b : Bool) → is_full ≡ b → submit s from edits
      ≡ cond b (s, Full) (
        record s { journal = with_entry s.journal from batch },
        Ticket (length s.journal.entries + 1),
      ) =
      λ b t. ap (λ t. cond t (s, Full) (
        record s { journal = with_entry s.journal from batch },
        Ticket (length s.journal.entries + 1),
      )) t in
      record {
        full = λ e is.
            let both = full_if is_full e (sym by_full ∙ is) in
            (both.0, ap (λ (r : State × Effect). r.1) (after_test true both.1));
        free = λ is.
            let test = after_test false (free_if is_full (sym by_full ∙ is)) in (
              ap (λ (r : State × Effect). r.1) test,
              ap (λ (r : State × Effect). r.0.journal) test,
            );
      }

-- ---- Decide
module _ (c : Given) (s : State) (ruled : IsRuled c s) (o : Outcome) (e : Entered)
    (at : slice_get s.journal.entries s.journal.decided ≡ Some e) where
  module _ (r : Progress) (is : s.progress ≡ Some r) where
    own_entry : r.entry ≡ e
    own_entry = let own = next_here c s ruled r is in cc

    deciding : outcome_now c s r.entry.batch ≡ o
        → (step c s Decide).0.journal ≡ with_outcome s.journal r.entry
        (outcome_now c s r.entry.batch)
        → IsDeciding c s o e
    deciding same journal =
        let low = slice_get_within s.journal.entries s.journal.decided e at in
        record {
          there = omega arith;
          round = subst (λ (x : Outcome). IsRound (accepted_count s.journal.entries + 1) (Some x))
              same (next_round c s ruled r is);
          due = sym same ∙ outcome_due c s ruled r is
              ∙ ap (λ (x : Entered). outcome_after c.program c.opened c.choice s.journal.entries
              x.batch) own_entry;
          journal = journal ∙ (λ j. with_outcome s.journal (own_entry j) (same j));
        }

    abbrev now : Outcome
    now = outcome_now c s r.entry.batch

    abbrev chosen : Work → Bool → State × Effect
    chosen w b = cond b (accepted c s r.entry w, Decided now) (s, Nothing)

    by_work : (y : Option Work) → step c s Decide ≡ decide_in c s r.entry y
        → (step c s Decide).1 ≡ Decided o → IsDeciding c s o e
    by_work None goes effect =
        deciding (same_outcome c s now o (sym (ap (λ (x : State × Effect). x.1) goes) ∙ effect))
        (ap (λ (x : State × Effect). x.0.journal) goes)
    by_work (Some w) goes effect =
        elim (cases_Bool (ltb c.program.rounds w.iteration)) [
          | inl done ↦
              let whole : step c s Decide ≡ (accepted c s r.entry w, Decided now) =
              goes ∙ ap (chosen w) done in
              deciding (same_outcome c s now o
              (sym (ap (λ (x : State × Effect). x.1) whole) ∙ effect))
              (ap (λ (x : State × Effect). x.0.journal) whole)
          | inr more ↦
              let whole : step c s Decide ≡ (s, Nothing) = goes ∙ ap (chosen w) more in
              absurd (let none : Nothing ≡ Decided o =
              sym (ap (λ (x : State × Effect). x.1) whole) ∙ effect in cc)
        ]

  by_progress : (q : Option Progress) → s.progress ≡ q → (step c s Decide).1 ≡ Decided o
      → IsDeciding c s o e
  by_progress None is effect = absurd (let none : Nothing ≡ Decided o =
      sym (ap (λ (q : Option Progress). (decide c s q).1) is) ∙ effect in cc)
  by_progress (Some r) is effect =
      by_work r is r.work (ap (λ (q : Option Progress). decide c s q) is) effect

pub decides_decide : (c : Given) (s : State) → IsRuled c s → (o : Outcome) (e : Entered)
    → (step c s Decide).1 ≡ Decided o → entry_of s.journal (s.journal.decided + 1) ≡ Some e
    → IsDeciding c s o e
decides_decide c s ruled o e effect at =
    by_progress c s ruled o e
    (ap (λ k. slice_get s.journal.entries k)
    (let t : s.journal.decided ≡ s.journal.decided + 1 - 1 = omega arith in t) ∙ at)
    s.progress refl effect

-- ---- Settle
pub each_word_is_a_sum : WordsAreSums
each_word_is_a_sum c s ruled r w is at sum within none k =
    let old : IsIterating c s.graph r.entry.batch w = work_is c s ruled r is (Some w) at in
    words_are_sums c s.graph w old.adding within none sum k

-- ---- Publish
module _ (c : Given) (s : State) (ruled : IsRuled c s) where
  abbrev before : Graph
  before = after c.opened (log_edits s.log)

  shown_is : shows (origin c.program c.opened) s.log ≡ answer c.program before
  shown_is =
      ruled.published.right (length s.log) (omega arith)
      ∙ ap (λ (l : List Round). answer c.program (after c.opened (log_edits l)))
      (take_all (length s.log) s.log (let all : length s.log ≤ length s.log = omega arith in all))

  module _ (r : Round) (is : s.awaiting ≡ Some r) where
    abbrev behind : Graph
    behind = after before r.edits

    answer_grows : length (answer c.program before) ≤ length (answer c.program behind)
    answer_grows =
        let a = (values_whole c.program before c.program.rounds).each_vertex in
        let b = (values_whole c.program behind c.program.rounds).each_vertex in
        let more = no_vertex_lost before r.edits in
        omega arith

    goes_on : GoesOn (origin c.program c.opened) s.log r
    goes_on =
        (λ j. with_changes (shown_is j) (next_is c s ruled r is j))
        ∙ changes_make_new (answer c.program before) (answer c.program behind) answer_grows

    behind_is : behind ≡ s.graph
    behind_is =
        sym (fold-append edited c.opened (log_edits s.log) r.edits)
        ∙ ap (λ (l : List Edit). after c.opened (log_edits s.log ++ l)) (sym (append-nil r.edits))
        ∙ ap (after c.opened)
        (sym (flat_map-append (λ (x : Round). x.edits) s.log (r ∷ [])))
        ∙ ap (λ (a : Option Round). after c.opened (log_edits (s.log ++ list_of a))) (sym is)
        ∙ ap (after c.opened) ruled.published.edits
        ∙ sym ruled.current.graph

    has_room : length (with_changes (shows (origin c.program c.opened) s.log) r.changes)
        ≤ room c.program.limits (vertices c.opened)
    has_room =
        let a = ap (λ (l : Lists). length l) goes_on in
        let b = (values_whole c.program behind c.program.rounds).each_vertex in
        let d = ap vertices behind_is in
        let few = ruled.current.good.few_vertices in
        omega arith

    pub publishes : IsPublishing c s r
    publishes =
        let number = ruled.published.number in
        let long = length-append s.log (r ∷ []) in
        record {
          right = goes_on;
          room = has_room;
          log = ap (λ (a : Option Round). (publish s a).0.log) is;
          prefix = ap (λ (a : Option Round). (publish s a).0.published) is ∙ omega arith;
        }

  -- ---- Ask
  pub asks : (query : Query) → IsAsking c s query
  asks query =
      let number = ruled.published.number in
      record {
        prefix = number;
        body = ap (λ n. means query (shown (answer c.program c.opened) s.log n)) number;
      }
