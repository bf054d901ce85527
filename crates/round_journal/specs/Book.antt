-- What contracts see of a journal, and the shape that it keeps.
use Rattle.std.specs.Prelude.{◌≡◌, ℕ, ◌+◌, ◌-◌, ◌<◌, ◌≤◌, ◌==◌, Bool, true, List, [], ◌∷◌}
use Rattle.std.specs.Prelude.{◌++◌}
use Rattle.std.specs.Prelude.{length, slice_get, slice_index_or, take, Option, Some, None, is_some}
use Rattle.std.specs.Prelude.{if◌then◌else◌}
use Rattle.graph_text.specs.declared.batch_text.BatchText.{BatchText}
use Rattle.round_journal.specs.declared.entry.Entered.{Entered}
use Rattle.round_journal.specs.declared.outcome.Outcome.{Outcome}
use Rattle.round_journal.specs.declared.outcome.Outcome.TheVariants.{Accepted}
use Rattle.round_journal.specs.declared.journal.EnterError.{EnterError}
use Rattle.round_journal.specs.declared.journal.EnterError.TheVariants.{Full, Closed}
use Rattle.round_journal.specs.declared.journal.TheConstants.{MOST_PENDING}

-- the entries in order, how many of them are decided, and which origins are closed
pub record Book : Type 0 where
  pub entries : List Entered
  pub decided : ℕ
  pub closed : List Bool

-- ---- accepted entries
-- 1 for an accepted one
abbrev pub one_if_accepted : Option Outcome → ℕ
one_if_accepted (Some (Accepted round added removed edges kept visits)) = 1
one_if_accepted _ = 0

abbrev pub accepted_count : List Entered → ℕ
accepted_count [] = 0
accepted_count (e ∷ es) = one_if_accepted e.outcome + accepted_count es

-- an accepted outcome has this round
abbrev pub IsRound : ℕ → Option Outcome → Type 0
IsRound n (Some (Accepted round added removed edges kept visits)) = round ≡ n
IsRound n _ = Unit {0}

-- ---- the shape
-- the decided entries come first, few are undecided, and the accepted ones are the rounds 1, 2, 3
-- and so on
pub record IsShaped (es : List Entered) (decided : ℕ) : Type 0 where
  pub within : decided ≤ length es
  pub few : length es ≤ decided + MOST_PENDING
  pub decided_first : (k : ℕ) (e : Entered) → slice_get es k ≡ Some e
      → (k < decided → is_some e.outcome ≡ true) × (decided ≤ k → e.outcome ≡ None)
  pub rounds : (k : ℕ) (e : Entered) → slice_get es k ≡ Some e
      → IsRound (accepted_count (take k es) + 1) e.outcome

-- ---- what calls do
abbrev pub pending : Book → ℕ
pending b = length b.entries - b.decided

abbrev pub is_closed : Book → ℕ → Bool
is_closed b origin = slice_index_or b.closed origin true

-- the batch behind the entries, undecided
abbrev pub with_entry : Book → ℕ → BatchText → Book
with_entry b origin batch =
    record b {
      entries = b.entries ++ record { origin = origin; batch = batch; outcome = None } ∷
          [];
    }

-- why a batch isn't entered, want of memory aside
abbrev pub refusal : Book → ℕ → BatchText → Option EnterError
refusal b origin batch =
    if is_closed b origin then Some (Closed batch)
    else if pending b == MOST_PENDING then Some (Full batch MOST_PENDING MOST_PENDING)
    else None

-- the entry of a ticket
abbrev pub entry_of : Book → ℕ → Option Entered
entry_of b ticket = slice_get b.entries (ticket - 1)
