-- A right log with one round more.
use Rattle.std.proofs.Common.{◌≡◌, ℕ, ◌≤◌, List, [], ◌∷◌, ◌++◌, length, fold}
use Rattle.std.proofs.Common.{sym, ap, ◌∙◌, subst, arith, inl, inr, length-append}
use Rattle.std.proofs.lemmas.Bool.{cases_lt}
use Rattle.std.proofs.lemmas.List.{append-nil, take_all, take-append-le}
use Rattle.std.proofs.lemmas.List.Concat.{flat_map-append}
use Rattle.std.proofs.lemmas.List.Sums.{fold-append, fold_push}
use Rattle.bolt_base.specs.Edits.{after, edited}
use Rattle.run_model.specs.Logs.{Round, with_changes, log_edits}
use Rattle.run_model.specs.Rows.{Lists, answer}
use Rattle.board.specs.declared.kinds.Origin.{Origin}
use Rattle.board.specs.Log.{shows, GoesOn, IsRightLog, HasRoom, HasRoomFor}

abbrev show_round : Lists → Round → Lists
show_round values x = with_changes values x.changes

pub shows_whole_log : (o : Origin) (log : List Round)
    → shows o log ≡ fold show_round (answer o.program o.graph) log
shows_whole_log o log =
    ap (fold show_round (answer o.program o.graph))
    (take_all (length log) log (let same : length log ≤ length log = omega arith in same))

module _ (o : Origin) (log : List Round) (r : Round) where
  abbrev more : List Round
  more = log ++ r ∷ []

  abbrev start : Lists
  start = answer o.program o.graph

  round_is_shown : fold show_round start more ≡ with_changes (shows o log) r.changes
  round_is_shown =
      fold_push show_round start log r
      ∙ ap (λ values. with_changes values r.changes) (sym (shows_whole_log o log))

  pub shows_round_more : shows o more ≡ with_changes (shows o log) r.changes
  shows_round_more = shows_whole_log o more ∙ round_is_shown

  edits_come_after : after o.graph (log_edits more) ≡ after (after o.graph (log_edits log)) r.edits
  edits_come_after =
      ap (after o.graph)
      (flat_map-append (λ (x : Round). x.edits) log (r ∷ [])
      ∙ ap (λ es. log_edits log ++ es) (append-nil r.edits))
      ∙ fold-append edited o.graph (log_edits log) r.edits

  pub right_log_goes_on : IsRightLog o log → GoesOn o log r → IsRightLog o more
  right_log_goes_on right next k le =
      let long = length-append log (r ∷ []) in
      elim (cases_lt (length log) k) [
        | inl past ↦
            let all = take_all k more (omega arith) in
            ap (fold show_round start) all ∙ round_is_shown ∙ next
            ∙ ap (answer o.program) (sym edits_come_after)
            ∙ ap (λ xs. answer o.program (after o.graph (log_edits xs))) (sym all)
        | inr within ↦
            let part = take-append-le k log (r ∷ []) within in
            ap (fold show_round start) part ∙ right k within
            ∙ ap (λ xs. answer o.program (after o.graph (log_edits xs))) (sym part)
      ]

  pub room_goes_on : (room : ℕ) → HasRoom o room log → HasRoomFor o room log r
      → HasRoom o room more
  room_goes_on room old next k le =
      let long = length-append log (r ∷ []) in
      elim (cases_lt (length log) k) [
        | inl past ↦
            let all = take_all k more (omega arith) in
            subst (λ (xs : Lists). length xs ≤ room)
            (sym (ap (fold show_round start) all ∙ round_is_shown)) next
        | inr within ↦
            let part = take-append-le k log (r ∷ []) within in
            subst (λ (xs : List Round). length (fold show_round start xs) ≤ room)
            (sym part) (old k within)
      ]
