-- How far a text was read for its questions.
use Rattle.std.specs.Prelude.{◌≡◌, ℕ, ◌<◌, ◌≤◌, List, length, Option, Result, Ok, Err, IfSome, ⊤}
use Rattle.std.specs.Result.{result_err}
use Rattle.bolt_io.specs.declared.whole.TheConstants.{MOST_BYTES}
use Rattle.bolt_io.specs.Told.{Told, left}
use Rattle.text_lines.specs.Reading.{ReadsSlot}
use Rattle.text_lines.specs.declared.feed.FeedError.{FeedError}
use Rattle.text_lines.specs.declared.feed.FeedError.TheVariants.{Shelf, Turns, Memory}
use Rattle.live_text.specs.declared.question.Question.{Question}

-- how many bytes of a slot were taken: all; some, after which more were wanted; or as many as are
-- taken at most, where it has so many or more
abbrev pub ReadsAsFar : ℕ → ℕ → Result (List Question) FeedError → Told → Type 0
ReadsAsFar slot taken (Ok questions) t = (taken ≡ length (left t slot)) × (taken < MOST_BYTES)
ReadsAsFar slot taken (Err (Shelf fault)) t = taken < MOST_BYTES
ReadsAsFar slot taken (Err (Turns n)) t = MOST_BYTES ≤ length (left t slot)
ReadsAsFar slot taken (Err Memory) t = ⊤

-- that many bytes were taken of a slot for its questions, and nothing else changed on the shelf
pub record ReadsQuestions {A : Type 0} (told : A → Option Told) (opened faults : A → ℕ)
    (old new : A) (slot : ℕ) (result : Result (List Question) FeedError) : Type 0 where
  pub taken : ℕ
  pub reads : ReadsSlot told opened faults old new slot 0 taken (result_err result)
  pub as_far : IfSome (told old) (ReadsAsFar slot taken result)
