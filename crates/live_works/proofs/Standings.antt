-- The works after one more batch, and at the end.
use Rattle.std.proofs.Common.{◌≡◌, ◌≢◌, ℕ, zero, suc, ◌+◌, ◌<◌, ◌≤◌, true, false}
use Rattle.std.proofs.Common.{List, [], ◌∷◌, ◌++◌, length, map, set, get_or, refl, sym, ap, subst}
use Rattle.std.proofs.Common.{◌∙◌}
use Rattle.std.proofs.Common.{arith, length-append, Some, None, ⊎_elim}
use Rattle.std.specs.Prelude.{eqb, replicate, slice_index_or}
use Rattle.std.specs.List.{flat_map, range_with_len}
use Rattle.std.proofs.lemmas.List.{length-set}
use Rattle.std.proofs.lemmas.Bool.Decides.{eqb_tells}
use Rattle.std.proofs.lemmas.List.{append-nil, get_or-set_other, get_or-set_same, length-map}
use Rattle.std.proofs.lemmas.List.{map-append}
use Rattle.std.proofs.lemmas.List.Folds.{flat_map-map}
use Rattle.bolt_base.specs.Edits.{after}
use Rattle.bolt_base.specs.Graph.{room, vertices}
use Rattle.bolt_base.specs.declared.answer.Choice.{Choice}
use Rattle.bolt_base.specs.declared.edge.Edit.{Edit}
use Rattle.graph_text.specs.declared.batch_text.BatchText.{BatchText}
use Rattle.run_model.specs.Logs.{Round, log_edits}
use Rattle.round_engine.specs.State.{EngineState}
use Rattle.round_journal.specs.Replays.{outcome_on}
use Rattle.round_journal.specs.declared.outcome.Outcome.{Outcome}
use Rattle.round_journal.specs.declared.outcome.Outcome.TheVariants.{Accepted, Memory, Refused}
use Rattle.run_model.proofs.LogLemmas.{right_begins}
use Rattle.board.specs.Log.{IsRightLog, origin}
use Rattle.board.specs.Post.{Office}
use Rattle.board.specs.declared.kinds.Origin.{Origin}
use Rattle.engine_runs.specs.Making.{committed}
use Rattle.engine_runs.specs.State.{IsUnderWay}
use Rattle.live_course.specs.Made.{IsMade, IsWhole, accepted, batch_of, file_of, graph_after}
use Rattle.live_course.specs.Made.{if_accepted, outcome_after}
use Rattle.live_course.specs.declared.made.MadeEntry.{MadeEntry}
use Rattle.live_works.specs.Beside.{HasMade, IsBeside, IsHeld, becomes, published}
use Rattle.live_works.specs.Shop.{IsFit, IsPending, Shop, Standing, made_of, new_shop, shop}
use Rattle.live_course.proofs.MadeSteps.{accepted_snoc, made_snoc, turns_snoc}

-- the works after an entry
abbrev pub grown : Shop → EngineState → MadeEntry → Shop
grown s f e = shop s.files f (set s.next e.stream e.number) (s.made ++ e ∷ [])

-- it says that the next batch of its stream was made, and what became of it
pub record IsTurn (s : Shop) (e : MadeEntry) : Type 0 where
  pub known : e.stream < length s.files
  pub sized : length s.next ≡ length s.files
  pub number : e.number ≡ made_of s e.stream + 1
  pub inside : e.number ≤ length (file_of s.files e.stream)
  pub outcome : e.outcome ≡ becomes s.engine (batch_of s.files e)

module _ (o : Office) (s : Shop) (h : Standing o s) where
  graph_is : s.engine.now ≡ graph_after o.origin.graph (accepted s.files s.made)
  graph_is =
      h.beside.graph
      ∙ ap (after o.origin.graph)
      (sym (flat_map-map (λ (es : List Edit). es) (λ (r : Round). r.edits) o.log)
      ∙ ap (flat_map (λ (es : List Edit). es)) h.log)

  pub standing_graph : s.engine.now ≡ graph_after o.origin.graph (accepted s.files s.made)
  standing_graph = graph_is

  many_accepted : s.engine.number ≡ length (accepted s.files s.made)
  many_accepted =
      h.beside.number ∙ sym (length-map o.log (λ (r : Round). r.edits)) ∙ ap length h.log

  becomes_after : (b : BatchText) → becomes s.engine b
      ≡ outcome_after o.origin.program o.origin.graph s.engine.choice (accepted s.files s.made) b
  becomes_after b =
      λ i. outcome_on (h.beside.program i) (h.beside.opened i) s.engine.choice
      (many_accepted i + 1) (graph_is i) b

  -- one more entry, with what its round makes of the board and the engine
  stands_with_entry : (o' : Office) (f : EngineState) (e : MadeEntry) → IsTurn s e
      → o'.origin ≡ o.origin → o'.held ≡ None → IsBeside o' f → f.choice ≡ s.engine.choice
      → map (λ (r : Round). r.edits) o'.log
      ≡ map (λ (r : Round). r.edits) o.log ++ if_accepted e.outcome (batch_of s.files e).edits
      → Standing o' (grown s f e)
  stands_with_entry o' f e t origin free beside choice log =
      let sized = t.sized in
      let known = t.known in
      let items : IsMade o.origin.program o.origin.graph s.engine.choice s.files
      (s.made ++ e ∷ []) =
      made_snoc o.origin.program o.origin.graph s.engine.choice s.files s.made e h.items
      t.known (t.outcome ∙ becomes_after (batch_of s.files e)) in
      record {
        beside = beside;
        log = log
            ∙ ap (λ (l : List (List Edit)). l ++ if_accepted e.outcome (batch_of s.files e).edits)
            h.log
            ∙ sym (accepted_snoc s.files s.made e);
        free = free;
        items = subst (λ (x : Origin). IsMade x.program x.graph f.choice s.files (s.made ++ e ∷ []))
            (sym origin)
            (subst (λ (c : Choice). IsMade o.origin.program o.origin.graph c s.files
            (s.made ++ e ∷ []))
            (sym choice) items);
        turns = turns_snoc s.files s.next s.made e h.turns t.sized t.known t.number;
        within = λ stream lt.
            ⊎_elim
            (λ (u : (eqb e.stream stream ≡ true) × (e.stream ≡ stream)).
            let at : slice_index_or (set s.next e.stream e.number) stream 0 ≡ e.number =
            ap (λ (j : ℕ). get_or (set s.next e.stream e.number) j 0) (sym u.1)
            ∙ get_or-set_same s.next e.stream e.number 0 (omega (arith, sized, known)) in
            let most : e.number ≤ length (file_of s.files stream) =
            subst (λ (j : ℕ). e.number ≤ length (file_of s.files j)) u.1 t.inside in
            omega (arith, at, most))
            (λ (u : (eqb e.stream stream ≡ false) × (e.stream ≢ stream)).
            let at : slice_index_or (set s.next e.stream e.number) stream 0 ≡ made_of s stream =
            get_or-set_other s.next e.stream stream e.number 0 (λ q. u.1 (sym q)) in
            let most = h.within stream lt in
            omega (arith, at, most))
            (eqb_tells e.stream stream);
      }

  unaccepted : (new : Office) (f : EngineState) (e : MadeEntry) → IsTurn s e
      → if_accepted e.outcome (batch_of s.files e).edits ≡ [] → new ≡ o → f ≡ s.engine
      → Standing new (grown s f e)
  unaccepted new f e t none is_new is_f =
      subst (λ (x : Office). Standing x (grown s f e)) (sym is_new)
      (subst (λ (x : EngineState). Standing o (grown s x e)) (sym is_f)
      (stands_with_entry o s.engine e t refl h.free h.beside refl
      (sym (append-nil (map (λ (r : Round). r.edits) o.log))
      ∙ ap (λ (l : List (List Edit)). map (λ (r : Round). r.edits) o.log ++ l) (sym none))))

  held_accepted : (new : Office) (f : EngineState) (e : MadeEntry) → IsTurn s e
      → if_accepted e.outcome (batch_of s.files e).edits ≡ (batch_of s.files e).edits ∷ []
      → IsHeld o new f (batch_of s.files e).edits → f.choice ≡ s.engine.choice
      → (r : Round) × (new.held ≡ Some r) × Standing (published new r) (grown s f e)
  held_accepted new f e t one held choice = (
    held.round,
    ap (λ (x : Office). x.held) held.office,
    subst (λ (x : Office). Standing (published x held.round) (grown s f e)) (sym held.office)
        (stands_with_entry (published o held.round) f e t refl refl held.beside choice
        (map-append (λ (r : Round). r.edits) o.log (held.round ∷ [])
        ∙ ap (λ (es : List Edit). map (λ (r : Round). r.edits) o.log ++ es ∷ []) held.edited
        ∙ ap (λ (l : List (List Edit)). map (λ (r : Round). r.edits) o.log ++ l) (sym one))),
  )

  pub pending_with_entry : (new : Office) (f : EngineState) (e : MadeEntry) → IsTurn s e
      → HasMade e.outcome o new s.engine f (batch_of s.files e).edits
      → IsPending e.outcome new (grown s f e)
  pending_with_entry new f e t made = by_outcome e.outcome refl made
    where
      by_outcome : (x : Outcome) → e.outcome ≡ x
          → HasMade x o new s.engine f (batch_of s.files e).edits → IsPending x new (grown s f e)
      by_outcome (Accepted round added removed edges kept visits) is m =
          held_accepted new f e t
          (ap (λ (y : Outcome). if_accepted y (batch_of s.files e).edits) is) m.0
          (ap (λ (y : EngineState). y.choice) m.1)
      by_outcome (Refused line cause) is m =
          unaccepted new f e t (ap (λ (y : Outcome). if_accepted y (batch_of s.files e).edits) is)
          m.0 m.1
      by_outcome Memory is m =
          unaccepted new f e t (ap (λ (y : Outcome). if_accepted y (batch_of s.files e).edits) is)
          m.0 m.1

-- where no stream has a batch left, all of them were made
pub all_are_made : (o : Office) (s : Shop) → Standing o s
    → ((k : ℕ) → k < length s.files → length (file_of s.files k) ≤ made_of s k)
    → IsWhole s.files s.made
all_are_made o s h none stream lt =
    let least = none stream lt in
    let most = h.within stream lt in
    h.turns stream lt
    ∙ ap (range_with_len 1)
    (let same : made_of s stream ≡ length (file_of s.files stream) = omega arith in same)

-- the engine after a batch is under way, and what it committed is in the list
pub fit_with_entry : (o new : Office) (files : List (List BatchText)) (e f : EngineState)
    (next : List ℕ) (made : List MadeEntry) (entry : MadeEntry) (edits : List Edit)
    → IsFit files e next made → HasMade entry.outcome o new e f edits
    → IsFit files f (set next entry.stream entry.number) (made ++ entry ∷ [])
fit_with_entry o new files e f next made entry edits h was =
    fits entry.outcome was
  where
    fits_with : (f' : EngineState) → IsUnderWay f' → f'.number ≤ e.number + 1
        → IsFit files f' (set next entry.stream entry.number) (made ++ entry ∷ [])
    fits_with f' ready count =
        let few = h.few in
        let long = length-append made (entry ∷ []) in
        record {
          ready = ready;
          sound = h.sound;
          short = h.short;
          sized = length-set next entry.stream entry.number ∙ h.sized;
          few = omega arith;
        }

    fits : (x : Outcome) → HasMade x o new e f edits
        → IsFit files f (set next entry.stream entry.number) (made ++ entry ∷ [])
    fits (Accepted round added removed edges kept visits) m =
        subst (λ (y : EngineState). IsFit files y (set next entry.stream entry.number)
        (made ++ entry ∷ [])) (sym m.1)
        (fits_with (committed e edits)
        (record { chosen = h.ready.chosen; idle = h.ready.idle }) (omega arith))
    fits (Refused line cause) m =
        subst (λ (y : EngineState). IsFit files y (set next entry.stream entry.number)
        (made ++ entry ∷ [])) (sym m.1) (fits_with e h.ready (omega arith))
    fits Memory m =
        subst (λ (y : EngineState). IsFit files y (set next entry.stream entry.number)
        (made ++ entry ∷ [])) (sym m.1) (fits_with e h.ready (omega arith))

none_at_zeros : (n k : ℕ) → slice_index_or (replicate n zero) k zero ≡ zero
none_at_zeros zero k = refl
none_at_zeros (suc n) zero = refl
none_at_zeros (suc n) (suc k) = none_at_zeros n k

-- the works before the first batch stand beside a board that was just opened
pub new_works_stand : (o : Office) (e : EngineState) (files : List (List BatchText))
    → o.origin ≡ origin e.program e.now → o.room ≡ room e.program.limits e.opened → o.log ≡ []
    → o.held ≡ None → e.number ≡ 0 → e.opened ≡ vertices e.now
    → Standing o (new_shop files e (replicate (length files) 0))
new_works_stand o e files is roomy none free new opened =
    let p = ap (λ (x : Origin). x.program) is in
    let g = ap (λ (x : Origin). x.graph) is in
    let size : vertices e.now ≡ vertices o.origin.graph = ap vertices (sym g) in
    record {
      beside = record {
        program = sym p;
        opened = opened ∙ size;
        graph = sym g ∙ ap (λ (l : List Round). after o.origin.graph (log_edits l)) (sym none);
        number = new ∙ ap length (sym none);
        roomy = roomy ∙ (λ i. room (sym p i).limits ((opened ∙ size) i));
        right = subst (λ (l : List Round). IsRightLog o.origin l) (sym none)
            (right_begins o.origin.program o.origin.graph);
      };
      log = ap (map (λ (r : Round). r.edits)) none;
      free = free;
      items = record { known = λ k x at. cc; replays = λ k x at. cc };
      turns = λ stream lt. ap (range_with_len 1) (sym (none_at_zeros (length files) stream));
      within = λ stream lt.
          let z = none_at_zeros (length files) stream in
          let le : made_of (new_shop files e (replicate (length files) 0)) stream
          ≤ length (file_of files stream) = omega (arith, z) in
          le;
    }
