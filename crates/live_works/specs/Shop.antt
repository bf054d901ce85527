-- The engine, the batches that it made, and the board that they are published on.
use Rattle.std.specs.Prelude.{◌≡◌, ℕ, ◌≤◌, ◌<◌, List, [], map, length, Some, None, refl}
use Rattle.std.specs.Prelude.{slice_index_or}
use Rattle.std.specs.Coded.{Coded, code_by, coded×, coded_ℕ, coded_list}
use Rattle.graph_text.specs.declared.batch_text.BatchText.{BatchText}
use Rattle.run_model.specs.Logs.{Round}
use Rattle.round_engine.specs.State.{EngineState, coded_engine}
use Rattle.round_journal.specs.declared.outcome.Outcome.{Outcome}
use Rattle.round_journal.specs.declared.outcome.Outcome.TheVariants.{Accepted}
use Rattle.board.specs.Post.{Office}
use Rattle.engine_runs.specs.State.{IsUnderWay}
use Rattle.live_course.specs.Made.{AreSound, HasTurns, IsMade, accepted, file_of}
use Rattle.live_course.specs.declared.made.MadeEntry.{MadeEntry}
use Rattle.live_works.specs.Beside.{IsBeside, published}
use Rattle.graph_text.specs.contracts.batch_text.BatchText as batch_kind
use Rattle.live_course.specs.contracts.made.MadeEntry as entry_kind

-- the batches of each stream, the engine, how many batches of each stream were made, and which
-- batches were made, in order
pub record Shop : Type 0 where
  pub files : List (List BatchText)
  pub engine : EngineState
  pub next : List ℕ
  pub made : List MadeEntry

abbrev pub shop : List (List BatchText) → EngineState → List ℕ → List MadeEntry → Shop
shop files e next made = record { files = files; engine = e; next = next; made = made }

-- how the logic stores it
abbrev pub coded_shop : Coded Shop
coded_shop =
    code_by (List (List BatchText) × (EngineState × (List ℕ × List MadeEntry)))
    (coded× (coded_list (coded_list batch_kind.the_row.coded)) (coded× coded_engine
    (coded× (coded_list coded_ℕ) (coded_list entry_kind.the_row.coded))))
    (λ s. (s.files, (s.engine, (s.next, s.made))))
    (λ q. record { files = q.0; engine = q.1.0; next = q.1.1.0; made = q.1.1.1 }) (λ _. refl)

-- nothing was made yet
abbrev pub new_shop : List (List BatchText) → EngineState → List ℕ → Shop
new_shop files e none = shop files e none []

-- how many batches of a stream were made
abbrev pub made_of : Shop → ℕ → ℕ
made_of s stream = slice_index_or s.next stream 0

-- the stream has a batch that wasn't made
abbrev pub HasNext : Shop → ℕ → Type 0
HasNext s stream = made_of s stream < length (file_of s.files stream)

-- no batch of an engine is out, each batch can be judged, each of few streams has its number, and
-- each committed batch is in the list
pub record IsFit (files : List (List BatchText)) (e : EngineState) (next : List ℕ)
    (made : List MadeEntry) : Type 0 where
  pub ready : IsUnderWay e
  pub sound : AreSound files
  pub short : length files ≤ 16
  pub sized : length next ≡ length files
  pub few : e.number ≤ length made

-- the rounds of the board are the accepted batches, nothing is held, and what was made is what
-- becomes of the first batches of each stream, in order
pub record Standing (o : Office) (s : Shop) : Type 0 where
  pub beside : IsBeside o s.engine
  pub log : map (λ r. r.edits) o.log ≡ accepted s.files s.made
  pub free : o.held ≡ None
  pub items : IsMade o.origin.program o.origin.graph s.engine.choice s.files s.made
  pub turns : HasTurns s.files s.next s.made
  pub within : (stream : ℕ) → stream < length s.files
      → made_of s stream ≤ length (file_of s.files stream)

-- once the round that is held is published, if one is
abbrev pub IsPending : Outcome → Office → Shop → Type 0
IsPending (Accepted round added removed edges kept visits) o s =
    (r : Round) × (o.held ≡ Some r) × Standing (published o r) s
IsPending _ o s = Standing o s
