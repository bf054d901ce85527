-- A command that reads its files, and then replies at once.
use Rattle.std.specs.Prelude.{◌≡◌, ◌≢◌, ℕ, List, [], ◌∷◌, ◌++◌, length, drop, Option, Result}
use Rattle.std.specs.Prelude.{Ok, Err, IfSome, IfOk, IfErr}
use Rattle.std.proofs.Common.{refl, sym, ◌∙◌, ap, subst, arith}
use Rattle.std.proofs.lemmas.List.{append-nil, drop_all}
use Rattle.bolt_io.specs.Told.{Told}
use Rattle.bolt_io.specs.declared.files.Slot.{Slot}
use Rattle.batch_steps.specs.declared.reply.Reply.{Reply}
use Rattle.batch_steps.specs.Steps.{IsMade}
use Rattle.batch_steps.specs.Files.{Content, Named}
use Rattle.batch_steps.specs.Course.{Opening, reply_of, stream_of}
use Rattle.command_files.specs.declared.stop.Stop.{Stop}
use Rattle.command_files.specs.declared.stop.Stop.TheVariants.{SinkFailed}
use Rattle.command_files.specs.Files.{content, AreFirst}
use Rattle.command_files.specs.Reads.{Follows, Reads}
use Rattle.command_files.specs.Replied.{Gives}
use Rattle.command_files.specs.Stops.{BlamesShelf, BlamesSink, ShelfCause, IsOfWriting}
use Rattle.command_files.proofs.ReadSteps.{Follows-err, Reads-as, Reads-failed, told_map}
use Rattle.command_files.proofs.WriteSteps.{Replied-known, Replied-unwritten}
use Rattle.batch_run.specs.Conducts.{World, world_of, Each, Begun, Conducts}
use Rattle.batch_run.proofs.FinishSteps.{shelf_unblamed, sink_unblamed}

-- slots for the first of some files are no more than the files
drop_first : (ss : List Slot) (fs : List Named) → AreFirst ss fs → drop (length fs) ss ≡ []
drop_first [] fs h = drop_all (length fs) [] (omega arith)
drop_first (s ∷ ss) [] h = absurd h
drop_first (s ∷ ss) (f ∷ fs) h = drop_first ss fs h.1

module _ (op : Content → Result Opening Reply) (before : Content → List Named)
    (D : Reply → Type 0) (m : ℕ) (p : Reply → ℕ) (q : ℕ → ℕ) (told mid : Option Told)
    (i j f n : ℕ) (a b : Option (List ℕ)) (g h : ℕ) where
  -- all files were read, and the reply was written as far as it could be
  pub Conducts-replied : (reply : Reply) (r : Result ℕ Stop)
      → Reads before D m p told mid i j (let x : Result Reply Stop = Ok reply in x)
      → IfSome told (λ t. op (content t) ≡ Err reply) → q reply.status ≡ p reply
      → (IsMade reply.status → D reply) → Gives reply a b r → IfOk r (λ s. s ≡ reply.status)
      → IfErr r IsOfWriting → n ≡ f → BlamesSink r g h
      → Conducts op before m q (world_of told i f a g) (world_of mid j n b h) r
  Conducts-replied reply r first is sums did gives same writing shelf sink = record {
    reply =
        Replied-known told a b (λ (c : Content). reply_of (op c) c) reply r
        (told_map (λ t. op (content t) ≡ Err reply)
        (λ t. reply_of (op (content t)) (content t) ≡ reply) told
        (λ t same. ap (λ (x : Result Opening Reply). reply_of x (content t)) same) is) gives;
    reads = reads_of r same writing;
    begun =
        told_map (λ t. op (content t) ≡ Err reply) (λ t. IfOk (op (content t)) (λ o.
        Each (Begun o (content t) a b r)
        (drop (length (before (content t))) (reads_of r same writing).more))) told
        (λ t refused. subst (λ (x : Result Opening Reply). IfOk x (λ o.
        Each (Begun o (content t) a b r)
        (drop (length (before (content t))) (reads_of r same writing).more))) (sym refused) tt) is;
    shelf_cause = unblamed r writing;
    sink_cause = sink;
  }
    where
      no_stream : IfSome told (λ t. before (content t) ++ stream_of (op (content t)) (content t)
          ≡ before (content t))
      no_stream =
          told_map (λ t. op (content t) ≡ Err reply)
          (λ t. before (content t) ++ stream_of (op (content t)) (content t)
          ≡ before (content t)) told
          (λ t same. ap (λ (x : Result Opening Reply). before (content t)
          ++ stream_of x (content t)) same ∙ append-nil (before (content t))) is

      reads_of : (r : Result ℕ Stop) → IfOk r (λ s. s ≡ reply.status) → IfErr r IsOfWriting
          → Reads (λ c. before c ++ stream_of (op c) c) IsMade m q told mid i j r
      reads_of (Ok s) same writing =
          Reads-as before (λ c. before c ++ stream_of (op c) c) D IsMade m p q told mid i j
          no_stream reply s first (λ made. did (subst IsMade same made)) (ap q same ∙ sums)
      reads_of (Err e) same writing =
          Reads-failed before (λ c. before c ++ stream_of (op c) c) D IsMade m p q told mid i j
          no_stream (Ok reply) e first (λ long. absurd (writing.1 long))

      unblamed : (r : Result ℕ Stop) → IfErr r IsOfWriting → BlamesShelf r f n
      unblamed (Ok s) writing = shelf
      unblamed (Err e) writing =
          subst (λ (k : ℕ). ShelfCause f k e) (sym shelf) (shelf_unblamed e f writing.0)

  -- the reading of its files stopped
  pub Conducts-unreplied : (e : Stop)
      → Reads before D m p told mid i j (let x : Result Reply Stop = Err e in x)
      → e ≢ SinkFailed → ShelfCause f n e
      → Conducts op before m q (world_of told i f a g) (world_of mid j n a g) (Err e)
  Conducts-unreplied e first reading shelf = record {
    reply = Replied-unwritten told a a (λ (c : Content). reply_of (op c) c) e refl;
    reads = record {
      more = first.more;
      told = first.told;
      count = first.count;
      within = first.within;
      full = tt;
      follows =
          told_map (λ t. Follows (content t) (before (content t)) D first.more
          (let x : Result Reply Stop = Err e in x)) (λ t. Follows (content t)
          (before (content t) ++ stream_of (op (content t)) (content t)) IsMade first.more
          (let r : Result ℕ Stop = Err e in r)) told
          (λ t h. Follows-err (content t) D IsMade (before (content t))
          (stream_of (op (content t)) (content t)) first.more e h) first.follows;
    };
    begun =
        told_map (λ t. Follows (content t) (before (content t)) D first.more
        (let x : Result Reply Stop = Err e in x)) (λ t. IfOk (op (content t)) (λ o.
        Each (Begun o (content t) a a (let r : Result ℕ Stop = Err e in r))
        (drop (length (before (content t))) first.more))) told
        (λ t h. none_begun t (op (content t)) h.first) first.follows;
    shelf_cause = shelf;
    sink_cause = sink_unblamed e g reading;
  }
    where
      none_begun : (t : Told) (x : Result Opening Reply)
          → AreFirst first.more (before (content t)) → IfOk x (λ o.
          Each (Begun o (content t) a a (let r : Result ℕ Stop = Err e in r))
          (drop (length (before (content t))) first.more))
      none_begun t (Ok o) h =
          subst (Each (Begun o (content t) a a (let r : Result ℕ Stop = Err e in r)))
          (sym (drop_first first.more (before (content t)) h)) tt
      none_begun t (Err reply) h = tt

-- the same command in other words
pub Conducts-same : (op op' : Content → Result Opening Reply)
    (before before' : Content → List Named) (m m' : ℕ) (q q' : ℕ → ℕ)
    → ((c : Content) → op c ≡ op' c) → ((c : Content) → before c ≡ before' c) → m ≡ m'
    → ((s : ℕ) → q s ≡ q' s)
    → (old new : World) (r : Result ℕ Stop) → Conducts op before m q old new r
    → Conducts op' before' m' q' old new r
Conducts-same op op' before before' m m' q q' ops files most slots old new r h =
    subst (λ (o : Content → Result Opening Reply). Conducts o before' m' q' old new r)
    (λ i c. ops c i) (subst (λ (f : Content → List Named). Conducts op f m' q' old new r)
    (λ i c. files c i) (subst (λ (n : ℕ). Conducts op before n q' old new r) most
    (subst (λ (p : ℕ → ℕ). Conducts op before m p old new r) (λ i s. slots s i) h)))
