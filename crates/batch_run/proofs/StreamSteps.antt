-- A stream that is opened and then read.
use Rattle.bolt_io.specs.declared.whole.TheConstants.{MOST_BYTES}
use Rattle.std.specs.Prelude.{◌≡◌, ℕ, ◌+◌, ◌<◌, ◌≤◌, true, List, [], ◌∷◌, length}
use Rattle.std.specs.Prelude.{take, Option, Some, None, Result, Ok, Err, IfSome, IfOk, OnOk}
use Rattle.std.specs.Prelude.{IsErrOf}
use Rattle.std.specs.Option.{option_map}
use Rattle.std.proofs.Common.{refl, sym, ◌∙◌, ap, subst, arith, inl, inr}
use Rattle.std.proofs.lemmas.List.{length-take}
use Rattle.bolt_io.specs.Told.{Told, left, opened_at, TellsSlots}
use Rattle.text_lines.specs.Feed.{readable}
use Rattle.graph_text.specs.StreamText.{batches}
use Rattle.batch_steps.specs.Steps.{Steps, rest_reply, batch_texts, IsMade, stream_slots}
use Rattle.batch_steps.specs.Files.{Content, stream_file}
use Rattle.batch_steps.specs.Course.{Opening, opening_of}
use Rattle.batch_steps.specs.Ended.{ended_batches}
use Rattle.batch_steps.specs.declared.reply.Reply.{Reply}
use Rattle.command_files.specs.declared.stop.Stop.{Stop}
use Rattle.command_files.specs.declared.stop.Stop.TheVariants.{TooLong}
use Rattle.command_files.specs.Files.{content, whole_file, IsNear, IsLong}
use Rattle.command_files.specs.Reads.{TookTo, Reads}
use Rattle.command_files.specs.Replied.{Gives, Replied, Leads, Appended}
use Rattle.command_files.specs.Stops.{BlamesShelf, BlamesSink}
use Rattle.command_files.proofs.FileSteps.{one_slot, opened_left, opened_fact, Reads-file}
use Rattle.command_files.proofs.FileSteps.{read_to_end_near}
use Rattle.command_files.proofs.ReadSteps.{told_map}
use Rattle.batch_run.specs.Ahead.{IsReadStop, Streamed}
use Rattle.batch_run.specs.Conducts.{World, Each, Begun, Conducts}

-- a file gives 2^40 bytes without an end where its slot does
pub long_stream : (name : List ℕ) (k : ℕ) (t : Told) → length t.slots ≡ k
    → MOST_BYTES ≤ length (left (opened_at name t) k)
    → IsLong (content t) (stream_file (content t) name)
long_stream name k t tells long =
    record {
      to_end = refl;
      long = omega (
        arith,
        length-take MOST_BYTES (whole_file t name),
        ap length (opened_left t k name tells),
        long,
      );
    }

-- and doesn't where its slot does not
pub short_stream : (name : List ℕ) (k : ℕ) (t : Told) → length t.slots ≡ k
    → length (left (opened_at name t) k) < MOST_BYTES
    → ¬ IsLong (content t) (stream_file (content t) name)
short_stream name k t tells short =
    λ is. omega (
      arith,
      length-take MOST_BYTES (whole_file t name),
      ap length
          (opened_left t k name tells),
      short,
      is.long,
    )

-- the bytes that are read of a slot that was just opened are those of its file
opened_readable : (t : Told) (k : ℕ) (name : List ℕ) → length t.slots ≡ k
    → readable (opened_at name t) k ≡ content t name
opened_readable t k name tells = ap (λ (b : List ℕ). take MOST_BYTES b) (opened_left t k name tells)

on_ok : {A : Type 0} (r : Result A Stop) (D : A → Type 0) (P : Type 0) → OnOk r P
    → IfOk r (λ x. D x → P)
on_ok (Ok x) D P h = λ _. h
on_ok (Err e) D P h = tt

module _ {S : Type 0} (steps : Steps S) (s : S) (stream : List ℕ) where
  abbrev op : Content → Result Opening Reply
  op c = Ok (opening_of steps s [] stream)

  Replied-file : (told mid : Option Told) (slot : ℕ) (a b : Option (List ℕ)) (r : Result ℕ Stop)
      → TellsSlots told slot → mid ≡ option_map (opened_at stream) told
      → IfSome mid (λ t. Gives (rest_reply steps s (batches (readable t slot))) a b r)
      → Replied (λ c. rest_reply steps s (batches (c stream))) told a b r
  Replied-file None mid slot a b r tells is h = tt
  Replied-file (Some t) mid slot a b r tells is h =
      let here : Gives (rest_reply steps s (batches (readable (opened_at stream t) slot))) a b r =
      subst (λ (o : Option Told). IfSome o
      (λ u. Gives (rest_reply steps s (batches (readable u slot))) a b r)) is h in
      subst (λ (l : List ℕ). Gives (rest_reply steps s (batches l)) a b r)
      (opened_readable t slot stream tells) here

  Begun-file : (told mid : Option Told) (slot n : ℕ) (a b : Option (List ℕ)) (r : Result ℕ Stop)
      → TellsSlots told slot → mid ≡ option_map (opened_at stream) told → Appended a b
      → (IsReadStop r → IfSome mid (λ t. Leads
      (batch_texts steps s (ended_batches (take n (readable t slot)))) a b))
      → IfSome told (λ t. IfOk (op (content t))
      (λ o. Each (Begun o (content t) a b r) (one_slot stream n)))
  Begun-file None mid slot n a b r tells is appended kept_up = tt
  Begun-file (Some t) mid slot n a b r tells is appended kept_up =
      (record { opening = appended; kept_up = here }, tt)
    where
      here : IsReadStop r → Leads (batch_texts steps s (ended_batches (take n (content t stream))))
          a b
      here stopped =
          let there : Leads (batch_texts steps s
          (ended_batches (take n (readable (opened_at stream t) slot)))) a b =
          subst (λ (o : Option Told). IfSome o
          (λ u. Leads (batch_texts steps s (ended_batches (take n (readable u slot)))) a b)) is
          (kept_up stopped) in
          subst (λ (l : List ℕ). Leads (batch_texts steps s (ended_batches (take n l))) a b)
          (opened_readable t slot stream tells) there

  -- the stream was opened, and then its slot was run over
  pub Conducts-file : (old new : World) (mid : Option Told) (j f slot : ℕ) (r : Result ℕ Stop)
      → TellsSlots old.told old.opened → slot ≡ old.opened
      → mid ≡ option_map (opened_at stream) old.told → j ≡ old.opened + 1
      → f ≡ old.shelf_faults → Streamed steps s mid new.told slot old.written new.written r
      → Appended old.written new.written → new.opened ≡ j
      → OnOk r (IfSome mid (λ t. length (left t slot) < MOST_BYTES))
      → OnOk r (IfSome new.told (λ t. left t slot ≡ []))
      → (IsErrOf r TooLong → IfSome mid (λ t. MOST_BYTES ≤ length (left t slot))) → IfOk r IsMade
      → BlamesShelf r f new.shelf_faults → BlamesSink r old.sink_faults new.sink_faults
      → Conducts (λ _. Ok (opening_of steps s [] stream)) (λ _. []) 1 stream_slots old new r
  unfolding Reads-file
  Conducts-file old new mid j f slot r tells is_slot opened one_more calm went appended same short
      end too_long made shelf sink =
      let tells_it : TellsSlots old.told slot = subst (TellsSlots old.told) (sym is_slot) tells in
      let took : TookTo (λ (b : List ℕ). length b) mid new.told slot = (
        went.taken,
        went.advances,
        told_map (λ t. went.taken ≤ length (readable t slot))
            (λ t. IsNear went.taken (length (readable t slot))) mid
            (λ t h. read_to_end_near went.taken (length (readable t slot)) h) went.within,
      ) in
      let file : Reads (λ c. stream_file c stream ∷ []) IsMade 1 (λ _. 1) old.told new.told
      old.opened new.opened r =
      Reads-file stream (λ (b : List ℕ). length b) (λ (b : List ℕ). true) IsMade old.told mid
      new.told old.opened j new.opened slot r tells is_slot opened one_more took same
      (on_ok r IsMade (IfSome mid (λ t. length (left t slot) < MOST_BYTES)) short)
      (on_ok r IsMade (IfSome new.told (λ t. left t slot ≡ [])) end)
      (λ is. opened_fact (λ t. MOST_BYTES ≤ length (left t slot))
      (λ t. IsLong (content t) (stream_file (content t) stream)) old.told mid slot stream
      (long_stream stream slot) tells_it opened (too_long is))
      (not_long r short) in
      record {
        reply = Replied-file old.told mid slot old.written new.written r tells_it opened went.reply;
        reads =
            record {
              more = file.more;
              told = file.told;
              count = file.count;
              within = file.within;
              full = slots_are r (length file.more) made file.full;
              follows = file.follows;
            };
        begun =
            Begun-file old.told mid slot went.taken old.written new.written r tells_it opened
            appended went.kept_up;
        shelf_cause = subst (λ (n : ℕ). BlamesShelf r n new.shelf_faults) calm shelf;
        sink_cause = sink;
      }
    where
      slots_are : (r : Result ℕ Stop) (n : ℕ) → IfOk r IsMade → IfOk r (λ _. n ≡ 1)
          → IfOk r (λ x. n ≡ stream_slots x)
      slots_are (Ok x) n (inl none) one = one ∙ ap stream_slots (sym none)
      slots_are (Ok x) n (inr one_is) one = one ∙ ap stream_slots (sym one_is)
      slots_are (Err e) n made one = tt

      not_long : (r : Result ℕ Stop) → OnOk r (IfSome mid (λ t. length (left t slot) < MOST_BYTES))
          → OnOk r (IfSome old.told (λ t. ¬ IsLong (content t) (stream_file (content t) stream)))
      not_long (Ok x) h =
          opened_fact (λ t. length (left t slot) < MOST_BYTES)
          (λ t. ¬ IsLong (content t) (stream_file (content t) stream)) old.told mid slot stream
          (short_stream stream slot) (subst (TellsSlots old.told) (sym is_slot) tells) opened h
      not_long (Err e) h = tt
