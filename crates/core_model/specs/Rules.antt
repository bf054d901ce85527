-- What every state of the core keeps.
use Rattle.std.specs.Prelude.{◌≡◌, ◌≢◌, ℕ, ◌+◌, ◌-◌, ◌*◌, ◌%◌, ◌^◌, ◌<◌, ◌≤◌, true, false}
use Rattle.std.specs.Prelude.{List, [], ◌∷◌, ◌++◌, length, replicate, slice_get, Option, Some}
use Rattle.std.specs.Prelude.{None, is_some}
use Rattle.std.specs.List.{All}
use Rattle.bolt_base.specs.Edits.{after}
use Rattle.bolt_base.specs.Graph.{Graph, IsGood, vertices, within}
use Rattle.bolt_base.specs.Keep.{Entry}
use Rattle.bolt_base.specs.Residue.{sum_at}
use Rattle.range_check.specs.Breaks.{IsAccepted}
use Rattle.run_model.specs.Logs.{Round, log_edits, IsRight, answer_changes}
use Rattle.run_model.specs.Program.{lanes, is_sum}
use Rattle.run_model.specs.Rows.{Lists, answer, rows_to}
use Rattle.graph_text.specs.declared.batch_text.BatchText.{BatchText}
use Rattle.round_journal.specs.Book.{Book, IsShaped, accepted_count}
use Rattle.round_journal.specs.Replays.{Replays, accepted_edits}
use Rattle.round_journal.specs.declared.entry.Entered.{Entered}
use Rattle.round_journal.specs.declared.journal.TheConstants.{MOST_ORIGINS}
use Rattle.round_journal.specs.declared.outcome.Outcome.TheVariants.{Memory}
use Rattle.core_model.specs.Iterations.{additions, all_left, word_in}
use Rattle.core_model.specs.Machine.{refused_on, stored_of}
use Rattle.core_model.specs.State.{Given, Work, Progress, State}

-- an accepted program, a good graph, and a choice that the program allows
pub record MayRun (c : Given) : Type 0 where
  pub safe : IsAccepted c.program
  pub good : IsGood c.program.limits c.opened
  pub some : 1 ≤ c.choice.cut
  pub within : c.choice.cut ≤ c.program.rounds
  pub workers : 1 ≤ c.choice.workers

-- ---- a round in progress
-- each word and the additions that are left for it come to the additions of the iteration
pub record IsAdding (c : Given) (g : Graph) (w : Work) : Type 0 where
  pub long : length w.words ≡ vertices w.graph * lanes c.program
  pub small : All (λ x. x < 2 ^ 64) w.words
  pub there : All (λ a. a.word < length w.words) (all_left w.left)
  pub sums : is_sum c.program.combine ≡ true → w.iteration ≤ c.program.rounds → (k : ℕ)
      → (word_in w.words k + sum_at k (all_left w.left)) % 2 ^ 64
      ≡ sum_at k (additions c g w.graph w.iteration)

-- the iterations lead to the graph after the batch, and those that are done have its rows
pub record IsIterating (c : Given) (g : Graph) (batch : BatchText) (w : Work) : Type 0 where
  pub fine : refused_on c g batch ≡ None
  pub graph : w.graph ≡ after g batch.edits
  pub some : 1 ≤ w.iteration
  pub within : w.iteration ≤ c.program.rounds + 1
  pub rows : w.rows ≡ rows_to c.program w.graph (w.iteration - 1)
  pub adding : IsAdding c g w

-- a refused batch has no iterations
abbrev pub IsWork : Given → Graph → BatchText → Option Work → Type 0
IsWork c g batch None = is_some (refused_on c g batch) ≡ true
IsWork c g batch (Some w) = IsIterating c g batch w

-- its entry is the lowest undecided one
pub record IsProgress (c : Given) (g : Graph) (j : Book) (r : Progress) : Type 0 where
  pub entry : slice_get j.entries j.decided ≡ Some r.entry
  pub work : IsWork c g r.entry.batch r.work

abbrev pub IfProgress : Given → Graph → Book → Option Progress → Type 0
IfProgress c g j None = Unit {0}
IfProgress c g j (Some r) = IsProgress c g j r

-- ---- an accepted round that awaits publication
abbrev pub list_of : Option Round → List Round
list_of None = []
list_of (Some r) = r ∷ []

-- its changes lead from the published answer to the next one
abbrev pub IsNext : Given → List Round → Round → Type 0
IsNext c log r =
    let before = after c.opened (log_edits log) in
    r.changes ≡ answer_changes (answer c.program before) (answer c.program (after before r.edits))

abbrev pub IfAwaiting : Given → List Round → Option Round → Type 0
IfAwaiting c log None = Unit {0}
IfAwaiting c log (Some r) = IsNext c log r

-- no round is in progress while another one awaits publication
abbrev pub IsAlone : Option Progress → Option Round → Type 0
IsAlone (Some r) (Some next) = ⊥
IsAlone r next = Unit {0}

-- ---- the whole
-- no outcome is that memory was wanting
abbrev pub NoneWanted : List Entered → Type 0
NoneWanted es = All (λ e. e.outcome ≢ Some Memory) es

-- what holds of the entries: they have the shape of a journal, their outcomes replay, and none is
-- that memory was wanting
pub record AreEntries (c : Given) (j : Book) : Type 0 where
  pub shape : IsShaped j.entries j.decided
  pub replays : Replays c.program c.opened c.choice j.entries
  pub none_wanted : NoneWanted j.entries
  pub origins : j.closed ≡ replicate MOST_ORIGINS false

-- what holds of the graph, its stored entries and its answer: they are those after the accepted
-- entries
pub record IsCurrent (c : Given) (es : List Entered) (g : Graph) (kept : List (List Entry))
    (values : Lists) : Type 0 where
  pub good : IsGood (within c.program.limits (vertices c.opened)) g
  pub graph : g ≡ after c.opened (accepted_edits es)
  pub stored : kept ≡ stored_of c g
  pub answer : values ≡ answer c.program g

-- what holds of the published rounds, their number, and what desks have seen of them: each
-- beginning of the rounds shows its answer, and with the one that awaits publication they are the
-- accepted entries
pub record IsPublished (c : Given) (es : List Entered) (log : List Round) (published : ℕ)
    (seen : List ℕ) (awaiting : Option Round) : Type 0 where
  pub right : IsRight c.program c.opened log
  pub number : published ≡ length log
  pub known : All (λ n. n ≤ published) seen
  pub next : IfAwaiting c log awaiting
  pub count : length (log ++ list_of awaiting) ≡ accepted_count es
  pub edits : log_edits (log ++ list_of awaiting) ≡ accepted_edits es

-- all of it
pub record IsRuled (c : Given) (s : State) : Type 0 where
  pub entries : AreEntries c s.journal
  pub current : IsCurrent c s.journal.entries s.graph s.stored s.answer
  pub published : IsPublished c s.journal.entries s.log s.published s.seen s.awaiting
  pub progress : IfProgress c s.graph s.journal s.progress
  pub alone : IsAlone s.progress s.awaiting
