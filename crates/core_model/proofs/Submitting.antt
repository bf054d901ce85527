-- Submit and Take keep the rules.
use Rattle.std.proofs.Common.{◌≡◌, ℕ, ◌+◌, ◌<◌, List, [], ◌∷◌, ◌++◌, length, eqb, Option, Some}
use Rattle.std.proofs.Common.{None, inl, inr, refl, sym, ap, ◌∙◌, subst, arith}
use Rattle.std.specs.Prelude.{is_some}
use Rattle.std.proofs.lemmas.Bool.{cases_eq, cond_both, eqb-false}
use Rattle.bolt_base.specs.Edits.{after}
use Rattle.bolt_base.specs.Graph.{Graph, IsGood, vertices, within}
use Rattle.bolt_base.specs.declared.edge.Edit.{Edit}
use Rattle.bolt_base.proofs.AfterLemmas.{no_vertex_lost}
use Rattle.graph_text.specs.declared.bad_line.BadLine.{BadLine}
use Rattle.run_model.specs.Logs.{Round}
use Rattle.run_model.specs.Rows.{entries}
use Rattle.round_journal.specs.Book.{Book, pending, with_entry}
use Rattle.round_journal.specs.declared.entry.Entered.{Entered}
use Rattle.round_journal.proofs.Shapes.{shape_takes_entry, undecided_counts_nothing}
use Rattle.core_model.specs.Iterations.{first_work}
use Rattle.core_model.specs.Machine.{batch_of, next_entry, refused_on, submit, take_next, taken}
use Rattle.core_model.specs.Machine.{work_if}
use Rattle.core_model.specs.Rules.{IfProgress, IsAlone, IsRuled, IsWork, MayRun}
use Rattle.core_model.specs.State.{Given, Progress, State}
use Rattle.core_model.specs.declared.step.Effect.{Effect}
use Rattle.core_model.specs.declared.step.Effect.TheVariants.{Ticket, Full}
use Rattle.core_model.proofs.Beginnings.{begins_adding}
use Rattle.core_model.proofs.Entering.{edits_one_more, got_before, none_wanted_one_more}
use Rattle.core_model.proofs.Entering.{replays_one_more}
use Rattle.core_model.proofs.GoodRounds.{good_itself, good_round}

-- ---- Submit
progress_stays : (c : Given) (g : Graph) (j : Book) (e : Entered) (q : Option Progress)
    → IfProgress c g j q
    → IfProgress c g (record j { entries = j.entries ++ e ∷ [] }) q
progress_stays c g j e None old = tt
progress_stays c g j e (Some r) old = record {
  entry = got_before j.entries e r.entry j.decided old.entry;
  work = old.work;
}

module _ (c : Given) (s : State) (ruled : IsRuled c s) (origin : ℕ) (edits : List Edit) where
  abbrev new : Entered
  new = record { origin = origin; batch = batch_of edits; outcome = None }

  abbrev es : List Entered
  es = s.journal.entries

  entered : length es < s.journal.decided + 64
      → IsRuled c (record s { journal = with_entry s.journal origin (batch_of edits) })
  entered few =
      let old = ruled.entries in
      let cur = ruled.current in
      let out = ruled.published in
      record {
        entries = record {
          shape = shape_takes_entry es s.journal.decided new old.shape few refl;
          replays = replays_one_more c es new refl old.replays;
          none_wanted = none_wanted_one_more es new refl old.none_wanted;
          origins = old.origins;
        };
        current = record {
          good = cur.good;
          graph = cur.graph ∙ ap (after c.opened) (sym (edits_one_more es new refl));
          stored = cur.stored;
          answer = cur.answer;
        };
        published = record {
          right = out.right;
          number = out.number;
          known = out.known;
          next = out.next;
          count = out.count ∙ sym (undecided_counts_nothing es new refl);
          edits = out.edits ∙ sym (edits_one_more es new refl);
        };
        progress = progress_stays c s.graph s.journal new s.progress ruled.progress;
        alone = ruled.alone;
      }

  pub submit_keeps : IsRuled c (submit s origin edits).0
  submit_keeps = cond_both (eqb (pending s.journal) 64) (s, Full) (
    record s { journal = with_entry s.journal origin (batch_of edits) },
    Ticket (length es + 1),
  )
      (λ (r : State × Effect). IsRuled c r.0) (λ full. ruled)
      (λ free.
      let apart = eqb-false (pending s.journal) 64 free in
      let few = ruled.entries.shape.few in
      entered (elim (cases_eq (pending s.journal) 64) [
        | inl same ↦ absurd (apart same)
        | inr other ↦ omega arith
      ]))

-- ---- Take
begun_work : (c : Given) → MayRun c → (g : Graph)
    → IsGood (within c.program.limits (vertices c.opened)) g → (e : Entered)
    → (x : Option BadLine) → refused_on c g e.batch ≡ x
    → IsWork c g e.batch (work_if x (first_work c g (after g e.batch.edits)))
begun_work c may g good e None fine =
    let h = after g e.batch.edits in
    record {
      fine = fine;
      graph = refl;
      some = omega arith;
      within = omega arith;
      rows = refl;
      adding = begins_adding c may g h (good_itself c g good)
          (good_itself c h (good_round c g e.batch good fine)) (no_vertex_lost g e.batch.edits) 1
          (entries c.program h 0 ∷ []);
    }
begun_work c may g good e (Some bad) refused = ap is_some refused

pub take_keeps : (c : Given) → MayRun c → (s : State) → IsRuled c s
    → (q : Option Progress) (a : Option Round) (n : Option Entered) → s.awaiting ≡ a
    → next_entry s.journal ≡ n → IsRuled c (take_next c s q a n).0
take_keeps c may s ruled None None (Some e) free next = record {
  entries = ruled.entries;
  current = ruled.current;
  published = ruled.published;
  progress = record {
    entry = next;
    work = begun_work c may s.graph ruled.current.good e (refused_on c s.graph e.batch) refl;
  };
  alone = subst (λ (a : Option Round). IsAlone (Some (taken c s.graph e)) a) (sym free) tt;
}
take_keeps c may s ruled None None None free next = ruled
take_keeps c may s ruled None (Some r) n free next = ruled
take_keeps c may s ruled (Some r) a n free next = ruled
