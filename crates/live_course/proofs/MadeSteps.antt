-- One entry more.
use Rattle.std.proofs.Common.{◌≡◌, ◌≢◌, ◌∙◌, ℕ, zero, suc, ◌+◌, ◌<◌, ◌⊎◌, List, [], ◌∷◌, ◌++◌}
use Rattle.std.proofs.Common.{length, take, set, get_or, cond, Bool, true, false, refl, sym, ap}
use Rattle.std.proofs.Common.{subst, arith, inl, inr, ⊎_elim}
use Rattle.std.specs.Prelude.{◌==◌, Option, Some, None, slice_get}
use Rattle.std.specs.List.{All, range_with_len}
use Rattle.std.proofs.lemmas.Bool.Decides.{nat_tests}
use Rattle.std.proofs.lemmas.Grind.{flat_map-append}
use Rattle.std.proofs.lemmas.List.{append-nil, get_or-set_other, get_or-set_same, take-append-le}
use Rattle.std.proofs.lemmas.Option.{slice_get-get_or, slice_get_within}
use Rattle.std.proofs.Math.Seq.{take-append_seam}
use Rattle.bolt_base.specs.Graph.{Graph}
use Rattle.bolt_base.specs.declared.answer.Choice.{Choice}
use Rattle.vertex_expr.specs.declared.program.ProgramEntries.{ProgramEntries}
use Rattle.graph_text.specs.declared.bad_line.BadLine.{BadLine}
use Rattle.graph_text.specs.declared.batch_text.BatchText.{BatchText}
use Rattle.live_text.specs.Lines.{IsDecided}
use Rattle.round_journal.specs.Replays.{judged}
use Rattle.round_journal.specs.declared.outcome.Outcome.TheVariants.{Accepted}
use Rattle.live_course.specs.declared.made.MadeEntry.{MadeEntry}
use Rattle.live_course.specs.Made.{HasTurns, IsMade, accepted, batch_of, if_accepted, number_in}
use Rattle.live_course.specs.Made.{numbers_in, outcome_after}

-- an item of a list with one more behind it
get_behind : {X : Type 0} (xs : List X) (e x : X) (k : ℕ) → slice_get (xs ++ e ∷ []) k ≡ Some x
    → (slice_get xs k ≡ Some x) ⊎ ((k ≡ length xs) × (e ≡ x))
get_behind [] e x zero h = inr (refl, cc)
get_behind [] e x (suc k) h = cc
get_behind (y ∷ ys) e x zero h = inl h
get_behind (y ∷ ys) e x (suc k) h =
    ⊎_elim (λ a. inl a) (λ (b : (k ≡ length ys) × (e ≡ x)). inr (ap suc b.0, b.1))
    (get_behind ys e x k h)

-- what is accepted with it
pub accepted_snoc : (files : List (List BatchText)) (made : List MadeEntry) (e : MadeEntry)
    → accepted files (made ++ e ∷ [])
    ≡ accepted files made ++ if_accepted e.outcome (batch_of files e).edits
accepted_snoc files made e =
    flat_map-append (λ x. if_accepted x.outcome (batch_of files x).edits) made (e ∷ [])
    ∙ ap (λ l. accepted files made ++ l)
    (append-nil (if_accepted e.outcome (batch_of files e).edits))

-- the list stays one of what was made
pub made_snoc : (p : ProgramEntries) (g : Graph) (c : Choice) (files : List (List BatchText))
    (made : List MadeEntry) (e : MadeEntry) → IsMade p g c files made → e.stream < length files
    → e.outcome ≡ outcome_after p g c (accepted files made) (batch_of files e)
    → IsMade p g c files (made ++ e ∷ [])
made_snoc p g c files made e h here is = record {
  known = λ k x at. ⊎_elim (λ old. h.known k x old)
      (λ (b : (k ≡ length made) × (e ≡ x)).
      subst (λ (y : MadeEntry). y.stream < length files) b.1 here)
      (get_behind made e x k at);
  replays = λ k x at. ⊎_elim
      (λ (old : slice_get made k ≡ Some x).
      let below : k < length made = slice_get_within made k x old in
      subst (λ (l : List MadeEntry).
      x.outcome ≡ outcome_after p g c (accepted files l) (batch_of files x))
      (sym (take-append-le k made (e ∷ []) (omega (arith, below)))) (h.replays k x old))
      (λ (b : (k ≡ length made) × (e ≡ x)).
      let all : take k (made ++ e ∷ []) ≡ made =
      ap (λ (j : ℕ). take j (made ++ e ∷ [])) b.0 ∙ take-append_seam made (e ∷ []) in
      subst (λ (l : List MadeEntry).
      x.outcome ≡ outcome_after p g c (accepted files l) (batch_of files x)) (sym all)
      (subst (λ (y : MadeEntry).
      y.outcome ≡ outcome_after p g c (accepted files made) (batch_of files y)) b.1 is))
      (get_behind made e x k at);
}

-- one number more
range_more : (a n m : ℕ) → m ≡ a + n
    → range_with_len a (suc n) ≡ range_with_len a n ++ m ∷ []
range_more a zero m is = ap (λ (k : ℕ). k ∷ []) (omega (arith, is))
range_more a (suc n) m is =
    ap (λ (l : List ℕ). a ∷ l) (range_more (a + 1) n m (omega (arith, is)))

-- the entries of each stream are one more of its batches, or as before
pub turns_snoc : (files : List (List BatchText)) (next : List ℕ) (made : List MadeEntry)
    (e : MadeEntry) → HasTurns files next made → length next ≡ length files
    → e.stream < length files → e.number ≡ get_or next e.stream 0 + 1
    → HasTurns files (set next e.stream e.number) (made ++ e ∷ [])
turns_snoc files next made e turns sized known number s below = pick (e.stream == s) refl
  where
    both : numbers_in s (made ++ e ∷ []) ≡ numbers_in s made ++ number_in s e
    both =
        flat_map-append (number_in s) made (e ∷ [])
        ∙ ap (λ l. numbers_in s made ++ l) (append-nil (number_in s e))

    pick : (b : Bool) → (e.stream == s) ≡ b → numbers_in s (made ++ e ∷ [])
        ≡ range_with_len 1 (get_or (set next e.stream e.number) s 0)
    pick true is =
        let same : e.stream ≡ s = grind (arith, nat_tests) in
        let n : ℕ = get_or next s 0 in
        let now : get_or (set next e.stream e.number) s 0 ≡ suc n =
        ap (λ (j : ℕ). get_or (set next e.stream e.number) j 0) (sym same)
        ∙ get_or-set_same next e.stream e.number 0 (omega (arith, sized, known)) ∙ number
        ∙ ap (λ (j : ℕ). get_or next j 0 + 1) same ∙ omega arith in
        let it : e.number ≡ 1 + n =
        number ∙ ap (λ (j : ℕ). get_or next j 0 + 1) same ∙ omega arith in
        both
        ∙ ap (λ (b : Bool). numbers_in s made ++ cond b (e.number ∷ []) []) is
        ∙ ap (λ l. l ++ e.number ∷ []) (turns s below) ∙ sym (range_more 1 n e.number it)
        ∙ ap (range_with_len 1) (sym now)
    pick false is =
        let other : s ≢ e.stream = λ (eq : s ≡ e.stream). grind (arith, nat_tests) in
        both
        ∙ ap (λ (b : Bool). numbers_in s made ++ cond b (e.number ∷ []) []) is
        ∙ append-nil (numbers_in s made) ∙ turns s below
        ∙ ap (range_with_len 1) (sym (get_or-set_other next e.stream s e.number 0 other))

-- what became of each is written
judged_is_decided : (bad : Option BadLine) (round added removed edges kept visits : ℕ)
    → IsDecided (judged bad (Accepted round added removed edges kept visits))
judged_is_decided None round added removed edges kept visits = tt
judged_is_decided (Some bad) round added removed edges kept visits = tt

pub made_decided : (p : ProgramEntries) (g : Graph) (c : Choice) (files : List (List BatchText))
    (made : List MadeEntry) → IsMade p g c files made → All (λ e. IsDecided e.outcome) made
made_decided p g c files made h k d below =
    subst IsDecided (sym (h.replays k (get_or made k d) (slice_get-get_or made k d below)))
    (judged_is_decided _ _ _ _ _ _ _)
