-- Decide keeps the rules.
use Rattle.std.proofs.Common.{◌≡◌, ◌≢◌, ℕ, ◌+◌, ◌-◌, ◌<◌, true, List, [], ◌∷◌, ◌++◌}
use Rattle.std.proofs.Common.{length, take, ltb, Option, Some, None, refl, sym, ap, ◌∙◌}
use Rattle.std.proofs.Common.{inr, subst, arith, length-append}
use Rattle.std.specs.Prelude.{slice_get, is_some}
use Rattle.std.proofs.lemmas.Bool.{cond_both, ltb-true}
use Rattle.std.proofs.lemmas.Grind.{flat_map-append}
use Rattle.std.proofs.lemmas.List.{append-nil}
use Rattle.std.proofs.lemmas.List.FromFn.{take-map-range_with_len}
use Rattle.std.proofs.lemmas.List.Sums.{fold-append}
use Rattle.bolt_base.specs.Edits.{after, edited}
use Rattle.bolt_base.specs.Graph.{Graph, IsGood, vertices, within}
use Rattle.bolt_base.specs.Keep.{Row}
use Rattle.bolt_base.specs.declared.answer.Choice.{Choice}
use Rattle.bolt_base.specs.declared.edge.Edit.{Edit}
use Rattle.vertex_expr.specs.declared.program.ProgramEntries.{ProgramEntries}
use Rattle.run_model.specs.Logs.{Round, answer_changes, log_edits}
use Rattle.run_model.specs.Refined.{row_values}
use Rattle.run_model.specs.Rows.{answer, entries, rows_to}
use Rattle.graph_text.specs.declared.bad_line.BadLine.{BadLine}
use Rattle.round_journal.specs.Book.{Book, IsRound, accepted_count, one_if_accepted}
use Rattle.round_journal.specs.Replays.{accepted_edits, edits_if_accepted, judged}
use Rattle.round_journal.specs.Replays.{outcome_after, outcome_on}
use Rattle.round_journal.specs.Replays.{accepted as an_accepted}
use Rattle.round_journal.specs.declared.entry.Entered.{Entered}
use Rattle.round_journal.specs.declared.outcome.Outcome.{Outcome}
use Rattle.round_journal.specs.declared.outcome.Outcome.TheVariants.{Memory}
use Rattle.round_journal.proofs.Replaying.{replays_with_outcome}
use Rattle.round_journal.proofs.Shapes.{IsOpenFrom, decided_is_counted, shape_takes_outcome}
use Rattle.core_model.specs.Machine.{accepted, answer_in, decide, decide_in, ended, outcome_now}
use Rattle.core_model.specs.Machine.{refused_on, stored_in, stored_of, with_outcome}
use Rattle.core_model.specs.Rules.{AreEntries, IsIterating, IsNext}
use Rattle.core_model.specs.Rules.{IsRuled, MayRun, list_of}
use Rattle.core_model.specs.State.{Given, Work, Progress, State}
use Rattle.core_model.specs.declared.step.Effect.{Effect}
use Rattle.core_model.specs.declared.step.Effect.TheVariants.{Decided, Nothing}
use Rattle.core_model.proofs.Entering.{decided_edits, none_wanted_decided}
use Rattle.core_model.proofs.GoodRounds.{good_round}
use Rattle.core_model.proofs.Progressing.{nothing_awaits, progress_is, work_is}
use Rattle.core_model.proofs.RowSteps.{values_of_rows}

-- ---- outcomes
module _ (p : ProgramEntries) (choice : Choice) (n : ℕ) (g h : Graph) where
  abbrev of : Option BadLine → Outcome
  of x = judged x (an_accepted p choice n g h)

  pub its_round : (x : Option BadLine) → IsRound n (Some (of x))
  its_round None = refl
  its_round (Some bad) = tt

  pub never_wanted : (x : Option BadLine) → of x ≢ Memory
  never_wanted None is = cc
  never_wanted (Some bad) is = cc

  pub refused_counts : (x : Option BadLine) → is_some x ≡ true → one_if_accepted (Some (of x)) ≡ 0
  refused_counts None some = absurd (cc)
  refused_counts (Some bad) some = refl

  pub refused_edits : (x : Option BadLine) (edits : List Edit) → is_some x ≡ true
      → edits_if_accepted (Some (of x)) edits ≡ []
  refused_edits None edits some = absurd (cc)
  refused_edits (Some bad) edits some = refl

  pub accepted_counts : (x : Option BadLine) → x ≡ None → one_if_accepted (Some (of x)) ≡ 1
  accepted_counts x none = ap (λ (y : Option BadLine). one_if_accepted (Some (of y))) none

  pub accepted_has_edits : (x : Option BadLine) (edits : List Edit) → x ≡ None
      → edits_if_accepted (Some (of x)) edits ≡ edits
  accepted_has_edits x edits none = ap
      (λ (y : Option BadLine). edits_if_accepted (Some (of y)) edits)
      none

-- ---- the journal
module _ (c : Given) (s : State) (ruled : IsRuled c s) (r : Progress) (is : s.progress ≡ Some r)
  where
    abbrev e : Entered
    e = r.entry

    abbrev j : Book
    j = s.journal

    abbrev o : Outcome
    o = outcome_now c s e.batch

    abbrev x : Option BadLine
    x = refused_on c s.graph e.batch

    abbrev n : ℕ
    n = accepted_count j.entries + 1

    pub next_here : slice_get j.entries j.decided ≡ Some e
    next_here = (progress_is c s ruled r is).entry

    late : IsOpenFrom j.entries j.decided
    late k y at low = (ruled.entries.shape.decided_first k y at).1 low

    undecided : e.outcome ≡ None
    undecided = late j.decided e next_here (omega arith)

    pub next_round : IsRound n (Some o)
    next_round = its_round c.program c.choice n s.graph (after s.graph e.batch.edits) x

    not_wanted : o ≢ Memory
    not_wanted = never_wanted c.program c.choice n s.graph (after s.graph e.batch.edits) x

    pub outcome_due : o ≡ outcome_after c.program c.opened c.choice j.entries e.batch
    outcome_due =
        ap (λ (g : Graph). outcome_on c.program (vertices c.opened) c.choice n g e.batch)
        ruled.current.graph

    entries_keep : AreEntries c (with_outcome j e o)
    entries_keep =
        let old = ruled.entries in
        record {
          shape = shape_takes_outcome j.entries j.decided o e old.shape next_here next_round;
          replays = replays_with_outcome c.program c.opened c.choice j.entries j.decided o e
              next_here late
              (inr outcome_due) old.replays;
          none_wanted = none_wanted_decided j.entries j.decided o e not_wanted old.none_wanted;
          origins = old.origins;
        }

    abbrev decided : List Entered
    decided = (with_outcome j e o).entries

    counted : accepted_count decided ≡ accepted_count j.entries + one_if_accepted (Some o)
    counted = decided_is_counted j.entries j.decided o e next_here undecided

    edits_are : accepted_edits decided ≡ accepted_edits j.entries
        ++ edits_if_accepted (Some o) e.batch.edits
    edits_are = decided_edits j.entries j.decided o e late next_here

    -- ---- refused
    module _ (bad : is_some x ≡ true) where
      same_count : accepted_count decided ≡ accepted_count j.entries
      same_count =
          let none = refused_counts c.program c.choice n s.graph (after s.graph e.batch.edits) x bad
          in
          let all = counted in
          omega arith

      same_edits : accepted_edits decided ≡ accepted_edits j.entries
      same_edits = edits_are
          ∙ ap (λ (l : List Edit). accepted_edits j.entries ++ l)
          (refused_edits c.program c.choice n s.graph (after s.graph e.batch.edits) x e.batch.edits
          bad)
          ∙ append-nil (accepted_edits j.entries)

      refused_keeps : IsRuled c (ended c s e)
      refused_keeps =
          let cur = ruled.current in
          let out = ruled.published in
          record {
            entries = entries_keep;
            current = record {
              good = cur.good;
              graph = cur.graph ∙ ap (after c.opened) (sym same_edits);
              stored = cur.stored;
              answer = cur.answer;
            };
            published = record {
              right = out.right;
              number = out.number;
              known = out.known;
              next = out.next;
              count = out.count ∙ sym same_count;
              edits = out.edits ∙ sym same_edits;
            };
            progress = tt;
            alone = tt;
          }

    -- ---- accepted
    module _ (may : MayRun c) (w : Work) (going : IsIterating c s.graph e.batch w)
        (done : c.program.rounds < w.iteration) where
      abbrev p : ProgramEntries
      p = c.program

      abbrev h : Graph
      h = w.graph

      abbrev next : Round
      next = record {
        edits = e.batch.edits;
        changes = answer_changes s.answer (answer_in c w);
      }

      all_rows_are : w.rows ≡ rows_to p h p.rounds
      all_rows_are =
          let most = going.within in
          going.rows ∙ ap (rows_to p h) (let t : w.iteration - 1 ≡ p.rounds = omega arith in t)

      answer_is : answer_in c w ≡ answer p h
      answer_is = ap (λ (l : List Row). row_values (vertices h) l p.rounds) all_rows_are
          ∙ values_of_rows p h p.rounds

      stored_is : stored_in c (vertices h) (take (c.choice.cut + 1) w.rows) ≡ stored_of c h
      stored_is =
          let within = may.within in
          ap (λ (l : List Row). stored_in c (vertices h) l)
          (ap (λ (l : List Row). take (c.choice.cut + 1) l) all_rows_are
          ∙ take-map-range_with_len (entries p h) 0 (p.rounds + 1) (c.choice.cut + 1) (omega arith))

      one_more : accepted_count decided ≡ accepted_count j.entries + 1
      one_more =
          let one = accepted_counts p c.choice n s.graph (after s.graph e.batch.edits) x
          going.fine in
          let all = counted in
          omega arith

      more_edits : accepted_edits decided ≡ accepted_edits j.entries ++ e.batch.edits
      more_edits = edits_are
          ∙ ap (λ (l : List Edit). accepted_edits j.entries ++ l)
          (accepted_has_edits p c.choice n s.graph (after s.graph e.batch.edits) x e.batch.edits
          going.fine)

      graph_is : h ≡ after c.opened (accepted_edits decided)
      graph_is = going.graph
          ∙ ap (λ (g : Graph). after g e.batch.edits) ruled.current.graph
          ∙ sym (fold-append edited c.opened (accepted_edits j.entries) e.batch.edits)
          ∙ ap (after c.opened) (sym more_edits)

      -- all accepted rounds were published
      published_count : length s.log ≡ accepted_count j.entries
      published_count = ap length (sym (append-nil s.log))
          ∙ ap (λ (a : Option Round). length (s.log ++ list_of a))
          (sym (nothing_awaits c s ruled r is))
          ∙ ruled.published.count

      published_edits : log_edits s.log ≡ accepted_edits j.entries
      published_edits = ap log_edits (sym (append-nil s.log))
          ∙ ap (λ (a : Option Round). log_edits (s.log ++ list_of a))
          (sym (nothing_awaits c s ruled r is))
          ∙ ruled.published.edits

      before_is : after c.opened (log_edits s.log) ≡ s.graph
      before_is = ap (after c.opened) published_edits ∙ sym ruled.current.graph

      next_is : IsNext c s.log next
      next_is =
          let old : s.answer ≡ answer p (after c.opened (log_edits s.log)) =
          ruled.current.answer ∙ ap (answer p) (sym before_is) in
          let new : answer_in c w ≡ answer p
          (after (after c.opened (log_edits s.log)) e.batch.edits)
          = answer_is ∙ ap (answer p) (going.graph
          ∙ ap (λ (g : Graph). after g e.batch.edits) (sym before_is)) in
          λ k. answer_changes (old k) (new k)

      accepted_keeps : IsRuled c (accepted c s e w)
      accepted_keeps =
          let out = ruled.published in
          record {
            entries = entries_keep;
            current = record {
              good = subst (IsGood (within p.limits (vertices c.opened))) (sym going.graph)
                  (good_round c s.graph e.batch ruled.current.good going.fine);
              graph = graph_is;
              stored = stored_is;
              answer = answer_is;
            };
            published = record {
              right = out.right;
              number = out.number;
              known = out.known;
              next = next_is;
              count = (let l = length-append s.log (next ∷ []) in let a = published_count in
                  let b = one_more in omega arith);
              edits = flat_map-append (λ (y : Round). y.edits) s.log (next ∷ [])
                  ∙ (λ k. published_edits k ++ append-nil e.batch.edits k) ∙ sym more_edits;
            };
            progress = tt;
            alone = tt;
          }

    decide_in_keeps : (may : MayRun c) (y : Option Work) → r.work ≡ y
        → IsRuled c (decide_in c s e y).0
    decide_in_keeps may None at = refused_keeps (work_is c s ruled r is None at)
    decide_in_keeps may (Some w) at =
        cond_both (ltb c.program.rounds w.iteration) (accepted c s e w, Decided o) (s, Nothing)
        (λ (y : State × Effect). IsRuled c y.0)
        (λ done. accepted_keeps may w (work_is c s ruled r is (Some w) at)
        (ltb-true c.program.rounds w.iteration done))
        (λ not. ruled)

pub decide_keeps : (c : Given) → MayRun c → (s : State) → IsRuled c s → (q : Option Progress)
    → s.progress ≡ q → IsRuled c (decide c s q).0
decide_keeps c may s ruled None is = ruled
decide_keeps c may s ruled (Some r) is = decide_in_keeps c s ruled r is may r.work refl
