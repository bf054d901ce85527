-- What the journal, the additions of workers and the board do to a state of the core.
use Rattle.std.specs.Prelude.{◌≡◌, ℕ, ◌+◌, ◌<◌, ◌≤◌, true, List, [], ◌∷◌, ◌++◌, length}
use Rattle.std.specs.Prelude.{slice_set, Some, None}
use Rattle.bolt_base.specs.Graph.{Graph, room, vertices}
use Rattle.bolt_base.specs.Residue.{sum_at}
use Rattle.bolt_base.specs.declared.edge.Edit.{Edit}
use Rattle.run_model.specs.Logs.{Round}
use Rattle.run_model.specs.Program.{is_sum}
use Rattle.round_journal.specs.Book.{IsRound, accepted_count, entry_of, refusal, with_entry}
use Rattle.round_journal.specs.Replays.{outcome_after}
use Rattle.round_journal.specs.declared.entry.Entered.{Entered}
use Rattle.round_journal.specs.declared.journal.EnterError.{EnterError}
use Rattle.round_journal.specs.declared.journal.EnterError.TheVariants.{Full as IsFull}
use Rattle.round_journal.specs.declared.journal.TheConstants.{MOST_ORIGINS, MOST_PENDING}
use Rattle.round_journal.specs.declared.outcome.Outcome.{Outcome}
use Rattle.board.specs.Log.{GoesOn, HasRoomFor, origin, shows}
use Rattle.board.specs.Queries.{means}
use Rattle.board.specs.declared.query.Query.{Query}
use Rattle.core_model.specs.Iterations.{additions, all_left, in_pieces, word_in}
use Rattle.core_model.specs.Machine.{batch_of, reply, step}
use Rattle.core_model.specs.Rules.{MayRun, IsRuled}
use Rattle.core_model.specs.State.{Given, Work, Progress, State}
use Rattle.core_model.specs.declared.step.Step.TheVariants.{Submit, Decide, Publish}
use Rattle.core_model.specs.declared.step.Effect.TheVariants.{Ticket, Full, Decided}

-- ---- Submit is an entry of a journal
-- where the journal refuses the batch, it is full, and so is the effect; where it doesn't, the
-- effect is the ticket, and the journal is the one with the entry
pub record IsEntering (c : Given) (s : State) (from : ℕ) (edits : List Edit) : Type 0 where
  pub full : (e : EnterError) → refusal s.journal from (batch_of edits) ≡ Some e
      → (e ≡ IsFull (batch_of edits) MOST_PENDING MOST_PENDING)
      × ((step c s (Submit from edits)).1 ≡ Full)
  pub free : refusal s.journal from (batch_of edits) ≡ None
      → ((step c s (Submit from edits)).1 ≡ Ticket (length s.journal.entries + 1))
      × ((step c s (Submit from edits)).0.journal ≡ with_entry s.journal from (batch_of edits))

abbrev pub SubmitsEnter : Type 0
SubmitsEnter = (c : Given) (s : State) → IsRuled c s → (from : ℕ) (edits : List Edit)
    → from < MOST_ORIGINS → IsEntering c s from edits

-- ---- Decide is a decision of the journal
-- the lowest undecided ticket exists, the outcome is the next round or none, and it is what becomes
-- of the batch after the entries before it; the journal is the one with the decision
pub record IsDeciding (c : Given) (s : State) (o : Outcome) (e : Entered) : Type 0 where
  pub there : s.journal.decided + 1 ≤ length s.journal.entries
  pub round : IsRound (accepted_count s.journal.entries + 1) (Some o)
  pub due : o ≡ outcome_after c.program c.opened c.choice s.journal.entries e.batch
  pub journal : (step c s Decide).0.journal ≡ record s.journal {
    decided = s.journal.decided + 1;
    entries = slice_set s.journal.entries s.journal.decided (record e { outcome = Some o });
  }

abbrev pub DecidesDecide : Type 0
DecidesDecide = (c : Given) (s : State) → IsRuled c s → (o : Outcome) (e : Entered)
    → (step c s Decide).1 ≡ Decided o → entry_of s.journal (s.journal.decided + 1) ≡ Some e
    → IsDeciding c s o e

-- ---- Add is an addition of a worker, and Settle takes the words
-- the pieces of an iteration, one after another, are its additions
abbrev pub PiecesAreAdditions : Type 0
PiecesAreAdditions = (c : Given) → MayRun c → (g h : Graph) (i : ℕ)
    → is_sum c.program.combine ≡ true → i ≤ c.program.rounds
    → all_left (in_pieces c g h i) ≡ additions c g h i

-- when all additions were made, each word is the sum of those for it
abbrev pub WordsAreSums : Type 0
WordsAreSums = (c : Given) (s : State) → IsRuled c s → (r : Progress) (w : Work)
    → s.progress ≡ Some r → r.work ≡ Some w
    → is_sum c.program.combine ≡ true → w.iteration ≤ c.program.rounds → all_left w.left ≡ []
    → (k : ℕ) → word_in w.words k ≡ sum_at k (additions c s.graph w.graph w.iteration)

-- ---- Publish is a publication of the board
-- the round may be held: it goes on from what is shown, and there is room for it; the log grows by
-- it, and its length is what is published
pub record IsPublishing (c : Given) (s : State) (r : Round) : Type 0 where
  pub right : GoesOn (origin c.program c.opened) s.log r
  pub room : HasRoomFor (origin c.program c.opened) (room c.program.limits (vertices c.opened))
      s.log r
  pub log : (step c s Publish).0.log ≡ s.log ++ r ∷ []
  pub prefix : (step c s Publish).0.published ≡ length (s.log ++ r ∷ [])

abbrev pub PublishesPublish : Type 0
PublishesPublish = (c : Given) (s : State) → IsRuled c s → (r : Round) → s.awaiting ≡ Some r
    → IsPublishing c s r

-- ---- Ask is an answer of a desk that has seen the published log
pub record IsAsking (c : Given) (s : State) (query : Query) : Type 0 where
  pub prefix : (reply c s query).prefix ≡ length s.log
  pub body : (reply c s query).body ≡ means query (shows (origin c.program c.opened) s.log)

abbrev pub AsksAsk : Type 0
AsksAsk = (c : Given) (s : State) → IsRuled c s → (query : Query) → IsAsking c s query
