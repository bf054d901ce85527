-- The parts of a command, one after another.
use Rattle.std.specs.Prelude.{◌≡◌, ◌≢◌, ℕ, zero, suc, ◌+◌, ◌≤◌, List, [], ◌∷◌, ◌++◌, length}
use Rattle.std.specs.Prelude.{drop, Option, Some, None, Result, Ok, Err, IfSome, IfOk, IfErr}
use Rattle.std.specs.Option.{option_map}
use Rattle.std.proofs.Common.{refl, sym, ◌∙◌, ap, subst, arith, inl, inr}
use Rattle.std.proofs.lemmas.List.{drop_all, drop_at}
use Rattle.bolt_io.specs.Told.{Told}
use Rattle.bolt_io.specs.declared.files.Slot.{Slot}
use Rattle.bolt_io.specs.Written.{Wrote}
use Rattle.graph_text.specs.StreamText.{batches}
use Rattle.batch_steps.specs.declared.reply.Reply.{Reply}
use Rattle.batch_steps.specs.Steps.{Steps, rest_reply, IsMade, stream_slots}
use Rattle.batch_steps.specs.Files.{Content, Named}
use Rattle.batch_steps.specs.Course.{Opening, opening_of, reply_of, stream_of}
use Rattle.command_files.specs.declared.stop.Stop.{Stop}
use Rattle.command_files.specs.declared.stop.Stop.TheVariants.{ShelfFailed, SinkFailed, Memory}
use Rattle.command_files.specs.declared.stop.Stop.TheVariants.{TooLong}
use Rattle.command_files.specs.Files.{content, AreFirst}
use Rattle.command_files.specs.Reads.{with_slots, Follows, Reads}
use Rattle.command_files.specs.Replied.{Gives, Replied}
use Rattle.command_files.specs.Stops.{BlamesSink, ShelfCause, SinkCause, IsOfWriting}
use Rattle.command_files.proofs.FileSteps.{Reads-none, Reads-nothing}
use Rattle.command_files.proofs.ReadSteps.{Reads-then, Reads-err, told_all, told_map}
use Rattle.command_files.proofs.WriteSteps.{Leads-then, Leads-behind, Replied-behind}
use Rattle.command_files.proofs.WriteSteps.{Replied-unwritten, Replied-known, Replied-later}
use Rattle.batch_run.specs.declared.opened.Opened.{Opened}
use Rattle.batch_run.specs.declared.opened.Opened.TheVariants.{Refused, Runs}
use Rattle.batch_run.specs.Conducts.{World, world_of, Each, Begun, BegunAfter, Conducts}
use Rattle.batch_run.specs.Opened.{course, IsReady, IsRun, EndsWith}

-- a refusal's status has no stream
pub no_stream : (s status : ℕ) → s ≡ status → 2 ≤ status → stream_slots s ≡ 0
no_stream zero status same own = absurd (omega (arith, same, own))
no_stream (suc zero) status same own = absurd (omega (arith, same, own))
no_stream (suc (suc more)) status same own = refl

-- where no more slots were opened than files are read before the stream, its slot wasn't
BegunAfter-not : (op : Content → Result Opening Reply) (before : Content → List Named)
    (more : List Slot) (told : Option Told) (a b : Option (List ℕ)) (r : Result ℕ Stop)
    → IfSome told (λ t. length more ≤ length (before (content t)))
    → BegunAfter op before more told a b r
BegunAfter-not op before more None a b r few = tt
BegunAfter-not op before more (Some t) a b r few = each (op (content t))
  where
    each : (x : Result Opening Reply)
        → IfOk x (λ o. Each (Begun o (content t) a b r) (drop (length (before (content t))) more))
    each (Ok o) =
        subst (Each (Begun o (content t) a b r))
        (sym (drop_all (length (before (content t))) more few)) tt
    each (Err refusal) = tt

AreFirst-few : (ss : List Slot) (fs : List Named) → AreFirst ss fs → length ss ≤ length fs
AreFirst-few [] fs h = omega arith
AreFirst-few (s ∷ ss) [] h = absurd h
AreFirst-few (s ∷ ss) (f ∷ fs) h = omega (arith, AreFirst-few ss fs h.1)

-- the sink stays where a reading stops, and the shelf where a writing does
pub sink_unblamed : (e : Stop) (n : ℕ) → e ≢ SinkFailed → SinkCause n n e
sink_unblamed ShelfFailed n not = refl
sink_unblamed SinkFailed n not = absurd (not refl)
sink_unblamed Memory n not = refl
sink_unblamed TooLong n not = refl

pub shelf_unblamed : (e : Stop) (n : ℕ) → e ≢ ShelfFailed → ShelfCause n n e
shelf_unblamed ShelfFailed n not = absurd (not refl)
shelf_unblamed SinkFailed n not = refl
shelf_unblamed Memory n not = refl
shelf_unblamed TooLong n not = refl

module _ (op : Content → Result Opening Reply) (before : Content → List Named) (m : ℕ) (p : ℕ → ℕ)
    (told : Option Told) (i f : ℕ) (a b : Option (List ℕ)) (g h : ℕ) where
  no_slots : (more : List Slot) (o : Option Told) → i ≡ i + length more
      → IfSome o (λ t. length more ≤ length (before (content t)))
  no_slots more None count = tt
  no_slots more (Some t) count = omega (arith, count)

  -- a writing stopped before any file was opened
  pub Conducts-unopened : (e : Stop) → e ≢ ShelfFailed → e ≢ TooLong
      → Replied (λ c. reply_of (op c) c) told a b (Err e) → SinkCause g h e
      → Conducts op before m p (world_of told i f a g) (world_of told i f b h) (Err e)
  Conducts-unopened e not_shelf not_long reply sink =
      let reads : Reads (λ c. before c ++ stream_of (op c) c) IsMade m p told told i i
      (let r : Result ℕ Stop = Err e in r) =
      Reads-none (λ c. before c ++ stream_of (op c) c) IsMade m p told told i i e refl refl
      (λ wrong. not_long (cc)) in
      record {
        reply = reply;
        reads = reads;
        begun =
            BegunAfter-not op before reads.more told a b (Err e)
            (no_slots reads.more told reads.count);
        shelf_cause = shelf_unblamed e f not_shelf;
        sink_cause = sink;
      }

  -- its first file couldn't be opened
  pub Conducts-unread : (later : Option Told) (k n : ℕ) (e : Stop) → later ≡ told → k ≡ i
      → e ≢ TooLong → e ≢ SinkFailed → ShelfCause f n e
      → Conducts op before m p (world_of told i f a g) (world_of later k n a g) (Err e)
  Conducts-unread later k n e same count not_long not_sink shelf =
      let reads : Reads (λ c. before c ++ stream_of (op c) c) IsMade m p told later i k
      (let r : Result ℕ Stop = Err e in r) =
      Reads-none (λ c. before c ++ stream_of (op c) c) IsMade m p told later i k e same count
      (λ wrong. not_long (cc)) in
      record {
        reply = Replied-unwritten told a a (λ (c : Content). reply_of (op c) c) e refl;
        reads = reads;
        begun =
            BegunAfter-not op before reads.more told a a (Err e)
            (no_slots reads.more told (sym count ∙ reads.count));
        shelf_cause = shelf;
        sink_cause = sink_unblamed e g not_sink;
      }

  -- a command that reads no file was refused
  pub Conducts-refused : (refusal : Reply) (r : Result ℕ Stop)
      → IfSome told (λ t. op (content t) ≡ Err refusal) → IfSome told (λ t. before (content t) ≡ [])
      → Gives refusal a b r → IfOk r (λ s. s ≡ refusal.status) → 2 ≤ refusal.status
      → ((s : ℕ) → s ≡ refusal.status → p s ≡ 0) → IfErr r IsOfWriting → BlamesSink r g h
      → Conducts op before m p (world_of told i f a g) (world_of told i f b h) r
  Conducts-refused refusal (Ok s) is none gives same own slots writing sink =
      let reads : Reads (λ c. before c ++ stream_of (op c) c) IsMade m p told told i i
      (let r : Result ℕ Stop = Ok s in r) =
      Reads-nothing (λ c. before c ++ stream_of (op c) c) IsMade m p told told i i s refl refl
      (not_made s same) (slots s same) (no_files told is none) in
      record {
        reply =
            Replied-known told a b (λ (c : Content). reply_of (op c) c) refusal (Ok s)
            (told_map (λ t. op (content t) ≡ Err refusal)
            (λ t. reply_of (op (content t)) (content t) ≡ refusal) told
            (λ t same. ap (λ (x : Result Opening Reply). reply_of x (content t)) same) is)
            gives;
        reads = reads;
        begun =
            BegunAfter-not op before reads.more told a b (Ok s)
            (no_slots reads.more told reads.count);
        shelf_cause = refl;
        sink_cause = sink;
      }
    where
      not_made : (s : ℕ) → s ≡ refusal.status → ¬ IsMade s
      not_made s same (inl none) = omega (arith, same, own, none)
      not_made s same (inr one) = omega (arith, same, own, one)

      no_files : (o : Option Told) → IfSome o (λ t. op (content t) ≡ Err refusal)
          → IfSome o (λ t. before (content t) ≡ [])
          → IfSome o (λ t. before (content t) ++ stream_of (op (content t)) (content t) ≡ [])
      no_files None is none = tt
      no_files (Some t) is none =
          ap (λ (x : Result Opening Reply). before (content t) ++ stream_of x (content t)) is
          ∙ ap (λ (l : List Named). l ++ []) none
  Conducts-refused refusal (Err e) is none gives same own slots writing sink =
      Conducts-unopened e writing.0 writing.1
      (Replied-known told a b (λ (c : Content). reply_of (op c) c) refusal (Err e)
      (told_map (λ t. op (content t) ≡ Err refusal)
      (λ t. reply_of (op (content t)) (content t) ≡ refusal) told
      (λ t same. ap (λ (x : Result Opening Reply). reply_of x (content t)) same) is) gives) sink

-- a text, and then a run over a stream
module _ {S : Type 0} (steps : Steps S) (s : S) (text stream : List ℕ) (told : Option Told)
    (i f : ℕ) (a b : Option (List ℕ)) (g : ℕ) (new : World) (r : Result ℕ Stop)
    (wrote : Wrote a b text) where
  begun-behind : (more : List Slot) (t : Told)
      → Each (Begun (opening_of steps s [] stream) (content t) b new.written r) more
      → Each (Begun (opening_of steps s text stream) (content t) a new.written r) more
  begun-behind [] t h = tt
  begun-behind (slot ∷ more) t h = (
    record {
      opening = Leads-then a b new.written text wrote h.0.opening;
      kept_up = λ is. Leads-behind a b new.written text _ wrote (h.0.kept_up is);
    },
    begun-behind more t h.1,
  )

  pub Conducts-behind : Conducts (λ _. Ok (opening_of steps s [] stream)) (λ _. []) 1 stream_slots
      (world_of told i f b g) new r
      → Conducts (λ _. Ok (opening_of steps s text stream)) (λ _. []) 1 stream_slots
      (world_of told i f a g) new r
  Conducts-behind later = record {
    reply =
        Replied-behind told told a b new.written text
        (λ (c : Content). rest_reply steps s (batches (c stream))) r refl wrote later.reply;
    reads = later.reads;
    begun =
        told_map (λ t. Each (Begun (opening_of steps s [] stream) (content t) b new.written r)
        later.reads.more) (λ t. Each
        (Begun (opening_of steps s text stream) (content t) a new.written r) later.reads.more)
        told (λ t h. begun-behind later.reads.more t h) later.begun;
    shelf_cause = later.shelf_cause;
    sink_cause = later.sink_cause;
  }

-- files that are read before the stream, and then the rest of the command
module _ {T S : Type 0} (state : T → S) (taken : T → ℕ) (steps : Steps S) (stream : List ℕ)
    (op : Content → Result Opening Reply) (before : Content → List Named) (m : ℕ) (p : Opened T → ℕ)
    (q : ℕ → ℕ) (told : Option Told) (i f : ℕ) (a : Option (List ℕ)) (g : ℕ) where
  pub Conducts-then : (mid : Option Told) (j : ℕ) (opened : Opened T) (new : World)
      (r : Result ℕ Stop) → Reads before IsRun m p told mid i j
      (let x : Result (Opened T) Stop = Ok opened in x)
      → IfSome told (λ t. course state steps stream opened ≡ op (content t))
      → ((s : ℕ) → EndsWith opened s → q s ≡ p opened + stream_slots s)
      → Conducts (λ _. course state steps stream opened) (λ _. []) 1 stream_slots
      (world_of mid j f a g) new r → IsReady taken opened → IfOk r (EndsWith opened)
      → Conducts op before (m + 1) q (world_of told i f a g) new r
  unfolding Reads-then
  Conducts-then mid j opened new r first is sums later ready ends = record {
    reply =
        Replied-later told mid a new.written
        (λ (c : Content). reply_of (course state steps stream opened) c)
        (λ (c : Content). reply_of (op c) c) r (with_slots first.more) (λ t. refl) first.told
        (told_map (λ t. course state steps stream opened ≡ op (content t))
        (λ t. reply_of (op (content t)) (content t)
        ≡ reply_of (course state steps stream opened) (content t)) told
        (λ t same. ap (λ (x : Result Opening Reply). reply_of x (content t)) (sym same)) is)
        later.reply;
    reads =
        Reads-then before (λ c. before c ++ stream_of (op c) c) IsRun IsMade m 1 p stream_slots q
        told (λ c. stream_of (course state steps stream opened) c) mid new.told i j new.opened
        opened r first (made_of r opened ready ends) (sums_of r ends) later.reads
        (told_map (λ t. course state steps stream opened ≡ op (content t))
        (λ t. before (content t) ++ stream_of (op (content t)) (content t)
        ≡ before (content t) ++ stream_of (course state steps stream opened) (content t)) told
        (λ t same. ap (λ (x : Result Opening Reply). before (content t) ++ stream_of x (content t))
        (sym same)) is);
    begun = begun-then told mid first.more later.reads.more first.told first.follows is later.begun;
    shelf_cause = later.shelf_cause;
    sink_cause = later.sink_cause;
  }
    where
      made_of : (r : Result ℕ Stop) (o : Opened T) → IsReady taken o → IfOk r (EndsWith o)
          → IfOk r (λ s. IsMade s → IsRun o)
      made_of (Err e) o ready ends = tt
      made_of (Ok s) (Runs text run) ready ends = λ _. tt
      made_of (Ok s) (Refused refusal) ready ends = not_made
        where
          not_made : IsMade s → ⊥
          not_made (inl none) = omega (arith, ready, ends, none)
          not_made (inr one) = omega (arith, ready, ends, one)

      sums_of : (r : Result ℕ Stop) → IfOk r (EndsWith opened)
          → IfOk r (λ s. q s ≡ p opened + stream_slots s)
      sums_of (Ok s) ends = sums s ends
      sums_of (Err e) ends = tt

      begun-then : (o mid : Option Told) (ss ts : List Slot) → mid ≡ option_map (with_slots ss) o
          → IfSome o (λ t. Follows (content t) (before (content t)) IsRun ss
          (let x : Result (Opened T) Stop = Ok opened in x))
          → IfSome o (λ t. course state steps stream opened ≡ op (content t))
          → BegunAfter (λ _. course state steps stream opened) (λ _. []) ts mid a new.written r
          → BegunAfter op before (ss ++ ts) o a new.written r
      begun-then None mid ss ts moved first is begun = tt
      begun-then (Some t) mid ss ts moved first is begun =
          let here : IfOk (course state steps stream opened)
          (λ o. Each (Begun o (content t) a new.written r) ts) = subst
          (λ (o : Option Told). BegunAfter (λ _. course state steps stream opened) (λ _. []) ts
          o a new.written r) moved begun in
          let rest : drop (length (before (content t))) (ss ++ ts) ≡ ts =
          drop_at ss ts (length (before (content t))) first.all in
          subst (λ (x : Result Opening Reply). IfOk x
          (λ o. Each (Begun o (content t) a new.written r)
          (drop (length (before (content t))) (ss ++ ts)))) is
          (subst (λ (l : List Slot). IfOk (course state steps stream opened)
          (λ o. Each (Begun o (content t) a new.written r) l)) (sym rest) here)

  -- the reading of the first files stopped
  pub Conducts-stopped : (new : Option Told) (k n : ℕ) (e : Stop)
      → Reads before IsRun m p told new i k (let x : Result (Opened T) Stop = Err e in x)
      → e ≢ SinkFailed → ShelfCause f n e
      → Conducts op before (m + 1) q (world_of told i f a g) (world_of new k n a g) (Err e)
  Conducts-stopped new k n e first reading shelf =
      let reads : Reads (λ c. before c ++ stream_of (op c) c) IsMade (m + 1) q told new i k
      (let r : Result ℕ Stop = Err e in r) = Reads-err before
      (λ c. before c ++ stream_of (op c) c) IsRun IsMade m 1 p stream_slots q told
      (λ c. stream_of (op c) c) new i k e first
      (told_all (λ t. before (content t) ++ stream_of (op (content t)) (content t)
      ≡ before (content t) ++ stream_of (op (content t)) (content t)) told (λ t. refl)) in
      let same : length reads.more ≡ length first.more = omega (arith, reads.count, first.count) in
      record {
        reply = Replied-unwritten told a a (λ (c : Content). reply_of (op c) c) e refl;
        reads = reads;
        begun =
            BegunAfter-not op before reads.more told a a (Err e)
            (told_map (λ t. Follows (content t) (before (content t)) IsRun first.more
            (let x : Result (Opened T) Stop = Err e in x))
            (λ t. length reads.more ≤ length (before (content t))) told
            (λ t h. omega (arith, same, AreFirst-few first.more (before (content t)) h.first))
            first.follows);
        shelf_cause = shelf;
        sink_cause = sink_unblamed e g reading;
      }
