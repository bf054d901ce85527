-- What a call that reads the lines of a slot says of the shelf, of how much it took, and of why it
-- stopped.
use Rattle.std.specs.Prelude.{◌≡◌, ℕ, ◌+◌, ◌-◌, ◌<◌, ◌≤◌, length, Option, Some, None, IfSome, ⊤}
use Rattle.bolt_io.specs.Faults.{Rose}
use Rattle.bolt_io.specs.Told.{Told}
use Rattle.bolt_io.specs.declared.whole.TheConstants.{MOST_BYTES}
use Rattle.text_lines.specs.Feed.{Feed, NeedsMore, Advances}
use Rattle.text_lines.specs.declared.feed.FeedError.{FeedError}
use Rattle.text_lines.specs.declared.feed.FeedError.TheVariants.{Shelf, Turns, Memory}
use Rattle.text_lines.specs.declared.line_feed.TheConstants.{BLOCK_BYTES}

-- the count of faults rose where the shelf is to blame, and else stayed
abbrev pub Blames : ℕ → ℕ → Option FeedError → Type 0
Blames old new None = new ≡ old
Blames old new (Some (Shelf fault)) = Rose old new
Blames old new (Some (Turns taken)) = new ≡ old
Blames old new (Some Memory) = new ≡ old

-- a fact of the number of bytes that were taken, where another read was needed
abbrev pub IfTurns : (ℕ → Type 0) → FeedError → Type 0
IfTurns P (Shelf fault) = ⊤
IfTurns P (Turns taken) = P taken
IfTurns P Memory = ⊤

-- a fact of an error that came where more bytes were wanted: the shelf failed, or as many were
-- taken as are at most
abbrev pub IfMoreWanted : Type 0 → FeedError → Type 0
IfMoreWanted P (Shelf fault) = P
IfMoreWanted P (Turns taken) = P
IfMoreWanted P Memory = ⊤

-- Bytes of a slot were taken from a shelf, `before` of them in all up to the call and `after` up to
-- its end, and nothing else
-- changed. `told`, `opened` and `faults` are what the shelf tells, the number of its slots and its
-- count; `error` is why the
-- reading stopped, if it did
pub record ReadsSlot {A : Type 0} (told : A → Option Told) (opened faults : A → ℕ) (old new : A)
    (slot before after : ℕ)
    (error : Option FeedError) : Type 0 where
  pub takes : Advances (told old) (told new) slot (after - before)
  pub later : before ≤ after
  pub most : after ≤ MOST_BYTES
  pub slots : opened new ≡ opened old
  pub blames : Blames (faults old) (faults new) error
  pub no_fewer_faults : faults old ≤ faults new
  pub turns : IfSome error (IfTurns (λ n. (n ≡ MOST_BYTES) × (after ≡ MOST_BYTES)))

-- as many bytes were taken as are at most, and no line ends in those not yet answered, so another
-- read is needed
pub record IsSpent (feed : Feed) : Type 0 where
  pub all : feed.taken ≡ MOST_BYTES
  pub none : NeedsMore feed

-- where a feed stands at an error: `Turns` comes exactly where it is spent, `Shelf` where it may
-- and has to take more
abbrev pub StopsAt : Feed → FeedError → Type 0
StopsAt feed (Shelf fault) = (feed.taken < MOST_BYTES) × NeedsMore feed
StopsAt feed (Turns taken) = (taken ≡ MOST_BYTES) × IsSpent feed
StopsAt feed Memory = ¬ IsSpent feed

-- a feed has read lines of its slot: the slot stays its own, each line that it answered had a byte,
-- and it holds no more than
-- one block that isn't answered
pub record FeedReads {A : Type 0} (told : A → Option Told) (opened faults : A → ℕ) (old new : A)
    (before after : Feed)
    (error : Option FeedError) : Type 0 where
  pub reads : ReadsSlot told opened faults old new before.slot before.taken after.taken error
  pub slot : after.slot ≡ before.slot
  pub no_fewer_lines : before.lines ≤ after.lines
  pub counted : after.lines + length after.pending ≤ after.taken
  pub held : length after.pending ≤ BLOCK_BYTES
  pub stops : IfSome error (StopsAt after)
