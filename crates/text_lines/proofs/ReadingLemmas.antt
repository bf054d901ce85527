-- What calls that read a slot say, one after another.
use Rattle.std.proofs.Common.{◌≡◌, ℕ, ◌-◌, ◌<◌, ◌≤◌, length, drop, refl, sym, ◌∙◌, subst}
use Rattle.std.proofs.Common.{arith, length-drop, Option, Some, None}
use Rattle.std.specs.Prelude.{IfSome}
use Rattle.bolt_io.specs.declared.whole.TheConstants.{MOST_BYTES}
use Rattle.bolt_io.specs.Told.{Told}
use Rattle.text_lines.specs.declared.feed.FeedError.{FeedError}
use Rattle.text_lines.specs.declared.feed.FeedError.TheVariants.{Shelf, Turns, Memory}
use Rattle.text_lines.specs.Feed.{Feed, answered, Advances, NeedsMore}
use Rattle.text_lines.specs.Reading.{Blames, IfTurns, IfMoreWanted, IsSpent, StopsAt, ReadsSlot}
use Rattle.text_lines.specs.Reading.{FeedReads}
use Rattle.text_lines.proofs.FeedLemmas.{Advances-none, Advances-on}

module _ {A : Type 0} (told : A → Option Told) (opened faults : A → ℕ) where
  abbrev pub Reads : A → A → ℕ → ℕ → ℕ → Option FeedError → Type 0
  Reads old new slot before after error =
      ReadsSlot told opened faults old new slot before after error

  -- what was read before a call, without an error
  pub record SoFar (a b : A) (slot x y : ℕ) : Type 0 where
    pub takes : Advances (told a) (told b) slot (y - x)
    pub later : x ≤ y
    pub slots : opened b ≡ opened a
    pub calm : faults b ≡ faults a

  -- before the first read
  pub so_far_none : (a : A) (slot x : ℕ) → SoFar a a slot x x
  so_far_none a slot x =
      record {
        takes = Advances-none (told a) slot (x - x) (omega arith);
        later = omega arith;
        slots = refl;
        calm = refl;
      }

  -- a call that took no byte
  pub reads_untouched : (a b : A) (slot x y : ℕ) (error : Option FeedError) → y ≡ x → x ≤ MOST_BYTES
      → told b ≡ told a → opened b ≡ opened a → Blames (faults a) (faults b) error
      → faults a ≤ faults b
      → IfSome error (IfTurns (λ _. ⊥)) → Reads a b slot x y error
  reads_untouched a b slot x y error count most same slots blames more no_turns = record {
    takes =
        subst (λ (o : Option Told). Advances (told a) o slot (y - x)) (sym same)
        (Advances-none (told a) slot (y - x) (omega arith));
    later = omega arith;
    most = omega arith;
    slots = slots;
    blames = blames;
    no_fewer_faults = more;
    turns = never error no_turns;
  }
    where
      never : (error : Option FeedError) → IfSome error (IfTurns (λ _. ⊥))
          → IfSome error (IfTurns (λ n. (n ≡ MOST_BYTES) × (y ≡ MOST_BYTES)))
      never None h = tt
      never (Some (Shelf fault)) h = tt
      never (Some (Turns n)) h = absurd h
      never (Some Memory) h = tt

  -- one call after another
  pub reads_on : (a b c : A) (slot x y z : ℕ) (error : Option FeedError)
      → IfSome (told a) (λ t. slot < length t.slots) → SoFar a b slot x y → (now : ℕ) → now ≡ slot
      → Reads b c now y z error → Reads a c slot x z error
  reads_on a b c slot x y z error below first now same next = record {
    takes =
        Advances-on (told a) (told b) (told c) slot x y z below first.takes first.later now same
        next.takes next.later;
    later = let m = first.later in let n = next.later in omega arith;
    most = next.most;
    slots = next.slots ∙ first.slots;
    blames = subst (λ (n : ℕ). Blames n (faults c) error) first.calm next.blames;
    no_fewer_faults = let m = first.calm in let n = next.no_fewer_faults in omega arith;
    turns = next.turns;
  }

  -- and without an error
  pub so_far_on : (a b c : A) (slot x y z : ℕ) → IfSome (told a) (λ t. slot < length t.slots)
      → SoFar a b slot x y → (now : ℕ) → now ≡ slot → Reads b c now y z None → SoFar a c slot x z
  so_far_on a b c slot x y z below first now same next =
      let all = reads_on a b c slot x y z None below first now same next in
      record { takes = all.takes; later = all.later; slots = all.slots; calm = all.blames }

  -- a call on a feed after others
  pub feed_reads_on : (a b c : A) (f g h : Feed) (error : Option FeedError)
      → IfSome (told a) (λ t. f.slot < length t.slots) → SoFar a b f.slot f.taken g.taken
      → g.slot ≡ f.slot → f.lines ≤ g.lines
      → FeedReads told opened faults b c g h error → FeedReads told opened faults a c f h error
  feed_reads_on a b c f g h error below first same more next = record {
    reads = reads_on a b c f.slot f.taken g.taken h.taken error below first g.slot same next.reads;
    slot = next.slot ∙ same;
    no_fewer_lines = let n = next.no_fewer_lines in omega arith;
    counted = next.counted;
    held = next.held;
    stops = next.stops;
  }

  -- a line more was answered
  pub feed_reads_answered : (a b : A) (f g : Feed) (whole : ℕ) → 0 < whole
      → whole ≤ length g.pending → FeedReads told opened faults a b f g None
      → FeedReads told opened faults a b f (answered whole g) None
  feed_reads_answered a b f g whole some within all =
      let size : length (drop whole g.pending) ≡ length g.pending - whole =
      length-drop whole g.pending in
      record {
        reads = all.reads;
        slot = all.slot;
        no_fewer_lines = let n = all.no_fewer_lines in omega arith;
        counted = let n = all.counted in omega arith;
        held = let n = all.held in omega arith;
        stops = tt;
      }

  -- memory was wanting after a line was found
  pub feed_reads_starved : (a b : A) (f g : Feed) → ¬ IsSpent g
      → FeedReads told opened faults a b f g None
      → FeedReads told opened faults a b f g (Some Memory)
  feed_reads_starved a b f g unspent all = record {
    reads = record {
      takes = all.reads.takes;
      later = all.reads.later;
      most = all.reads.most;
      slots = all.reads.slots;
      blames = all.reads.blames;
      no_fewer_faults = all.reads.no_fewer_faults;
      turns = tt;
    };
    slot = all.slot;
    no_fewer_lines = all.no_fewer_lines;
    counted = all.counted;
    held = all.held;
    stops = unspent;
  }

-- a read that failed: the feed may take more, and no line ends in what it has
pub stops_early : (feed : Feed) (error : FeedError) → IfTurns (λ _. ⊥) error
    → feed.taken < MOST_BYTES → NeedsMore feed → StopsAt feed error
stops_early feed (Shelf fault) no_turns few none = (few, none)
stops_early feed (Turns n) no_turns few none = absurd no_turns
stops_early feed Memory no_turns few none = λ spent. let all = spent.all in omega arith

-- where more bytes were wanted, no line ends in those not yet answered
pub if_more_wanted : (feed : Feed) (error : FeedError) (Q : Type 0) → StopsAt feed error
    → (NeedsMore feed → Q) → IfMoreWanted Q error
if_more_wanted feed (Shelf fault) Q stops k = k stops.1
if_more_wanted feed (Turns n) Q stops k = k stops.1.none
if_more_wanted feed Memory Q stops k = tt

-- where another read than the last that may be was needed
pub if_turns : (feed : Feed) (error : FeedError) (Q : Type 0) → StopsAt feed error
    → (IsSpent feed → Q) → IfTurns (λ _. Q) error
if_turns feed (Shelf fault) Q stops k = tt
if_turns feed (Turns n) Q stops k = k stops.1
if_turns feed Memory Q stops k = tt
