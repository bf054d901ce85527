-- How many entries were accepted and refused.
use Rattle.std.proofs.Common.{◌≡◌, ◌∙◌, ℕ, ◌+◌, ◌<◌, ◌≤◌, List, [], ◌∷◌, ◌++◌, length, take, get_or}
use Rattle.std.proofs.Common.{refl, ap, arith, length-append}
use Rattle.std.proofs.lemmas.List.{take_more, take-append-drop}
use Rattle.std.specs.Prelude.{drop}
use Rattle.bolt_base.specs.declared.edge.Edit.{Edit}
use Rattle.graph_text.specs.declared.batch_text.BatchText.{BatchText}
use Rattle.round_journal.specs.declared.outcome.Outcome.{Outcome}
use Rattle.round_journal.specs.declared.outcome.Outcome.TheVariants.{Accepted, Refused, Memory}
use Rattle.live_course.specs.declared.made.MadeEntry.{MadeEntry}
use Rattle.live_course.specs.Made.{accepted, accepted_count, batch_of, if_accepted, one_if_accepted}
use Rattle.live_course.specs.Made.{one_if_refused, refused_count}

accepted_append : (xs ys : List MadeEntry)
    → accepted_count (xs ++ ys) ≡ accepted_count xs + accepted_count ys
accepted_append [] ys = omega arith
accepted_append (x ∷ xs) ys = omega (arith, accepted_append xs ys)

refused_append : (xs ys : List MadeEntry)
    → refused_count (xs ++ ys) ≡ refused_count xs + refused_count ys
refused_append [] ys = omega arith
refused_append (x ∷ xs) ys = omega (arith, refused_append xs ys)

-- one entry more
pub accepted_more : (made : List MadeEntry) (k : ℕ) (d : MadeEntry) → k < length made
    → accepted_count (take (k + 1) made)
    ≡ accepted_count (take k made) + one_if_accepted (get_or made k d).outcome
accepted_more made k d below =
    ap accepted_count (take_more made k d below)
    ∙ accepted_append (take k made) (get_or made k d ∷ []) ∙ omega arith

pub refused_more : (made : List MadeEntry) (k : ℕ) (d : MadeEntry) → k < length made
    → refused_count (take (k + 1) made)
    ≡ refused_count (take k made) + one_if_refused (get_or made k d).outcome
refused_more made k d below =
    ap refused_count (take_more made k d below)
    ∙ refused_append (take k made) (get_or made k d ∷ []) ∙ omega arith

accepted_one : (o : Outcome) → one_if_accepted o ≤ 1
accepted_one (Accepted round added removed edges kept visits) = omega arith
accepted_one (Refused line cause) = omega arith
accepted_one Memory = omega arith

refused_one : (o : Outcome) → one_if_refused o ≤ 1
refused_one (Accepted round added removed edges kept visits) = omega arith
refused_one (Refused line cause) = omega arith
refused_one Memory = omega arith

accepted_all : (made : List MadeEntry) → accepted_count made ≤ length made
accepted_all [] = omega arith
accepted_all (e ∷ es) = omega (arith, accepted_one e.outcome, accepted_all es)

refused_all : (made : List MadeEntry) → refused_count made ≤ length made
refused_all [] = omega arith
refused_all (e ∷ es) = omega (arith, refused_one e.outcome, refused_all es)

-- no more than there are entries
pub accepted_few : (made : List MadeEntry) (k : ℕ)
    → accepted_count (take k made) ≤ length made
accepted_few made k =
    omega (
      arith,
      accepted_append (take k made) (drop k made),
      ap accepted_count (take-append-drop k made),
      accepted_all made,
    )

pub refused_few : (made : List MadeEntry) (k : ℕ) → refused_count (take k made) ≤ length made
refused_few made k =
    omega (
      arith,
      refused_append (take k made) (drop k made),
      ap refused_count (take-append-drop k made),
      refused_all made,
    )

-- each accepted one has its edits
accepted_edits : (o : Outcome) (es : List Edit) → length (if_accepted o es) ≡ one_if_accepted o
accepted_edits (Accepted round added removed edges kept visits) es = refl
accepted_edits (Refused line cause) es = refl
accepted_edits Memory es = refl

pub accepted_length : (files : List (List BatchText)) (made : List MadeEntry)
    → length (accepted files made) ≡ accepted_count made
accepted_length files [] = refl
accepted_length files (e ∷ es) =
    length-append (if_accepted e.outcome (batch_of files e).edits) (accepted files es)
    ∙ omega (arith, accepted_edits e.outcome (batch_of files e).edits, accepted_length files es)
