-- A file that is opened and then read to its end.
use Rattle.std.proofs.Common.{◌≡◌, ℕ, ◌+◌, ◌<◌, ◌≤◌, List, [], ◌∷◌, length, sym}
use Rattle.std.proofs.Common.{subst, arith, true}
use Rattle.std.specs.Prelude.{Option, Some, None, Result, Ok, Err, IfSome, IfOk, OnOk, take}
use Rattle.std.specs.Prelude.{⊤}
use Rattle.std.specs.Option.{option_map}
use Rattle.std.proofs.lemmas.List.{length-take}
use Rattle.bolt_io.specs.Told.{Told, left, opened_at, TellsSlots}
use Rattle.bolt_io.specs.declared.whole.TheConstants.{MOST_BYTES}
use Rattle.bolt_io.proofs.TakenLemmas.{slot_told}
use Rattle.text_lines.specs.Feed.{Advances, readable}
use Rattle.text_lines.proofs.FeedLemmas.{taken_all}
use Rattle.batch_steps.specs.Files.{stream_file}
use Rattle.command_files.specs.Files.{content, IsLong, IsNear}
use Rattle.command_files.specs.Reads.{Reads, TookTo}
use Rattle.command_files.specs.declared.stop.Stop.{Stop}
use Rattle.command_files.proofs.FileSteps.{opened_bytes, opened_fact, Reads-file}
use Rattle.command_files.proofs.FileSteps.{read_to_end_near}
use Rattle.batch_run.proofs.StreamSteps.{long_stream, short_stream}
use Rattle.live_streams.specs.Ends.{ReadsToEnd}

-- no more bytes were taken than may be
near_end : (o : Option Told) (slot n : ℕ) → IfSome o (λ t. n ≤ length (left t slot))
    → n ≤ MOST_BYTES → IfSome o (λ t. IsNear n (length (readable t slot)))
near_end None slot n within most = tt
near_end (Some t) slot n within most =
    read_to_end_near n (length (readable t slot))
    (omega (arith, length-take MOST_BYTES (left t slot), within, most))

-- all that a slot had were few bytes
few_left : {T : Type 0} (r : Result T Stop) (o : Option Told) (slot n : ℕ)
    → OnOk r (n < MOST_BYTES) → OnOk r (IfSome o (λ t. length (left t slot) ≡ n))
    → OnOk r (IfSome o (λ t. length (left t slot) < MOST_BYTES))
few_left (Err e) o slot n few all = tt
few_left (Ok x) None slot n few all = tt
few_left (Ok x) (Some t) slot n few all = omega (arith, few, all)

-- as many as are taken at most were taken of a slot, which had as many or more
pub many_left : (o : Option Told) (slot n : ℕ) → IfSome o (λ t. n ≤ length (left t slot))
    → n ≡ MOST_BYTES → IfSome o (λ t. MOST_BYTES ≤ length (left t slot))
many_left None slot n within all = tt
many_left (Some t) slot n within all = omega (arith, within, all)

-- all of a slot was taken, and it was few bytes
pub few_bytes_left : {T : Type 0} (r : Result T Stop) (a b : Option Told) (i slot n : ℕ)
    → TellsSlots a i → slot < i → Advances a b slot n → OnOk r (n < MOST_BYTES)
    → OnOk r (IfSome b (λ t. left t slot ≡ []))
    → OnOk r (IfSome a (λ t. length (left t slot) < MOST_BYTES))
few_bytes_left r a b i slot n tells below moved fewer end = few_left r a slot n fewer (whole r end)
  where
    whole : {U : Type 0} (r : Result U Stop) → OnOk r (IfSome b (λ t. left t slot ≡ []))
        → OnOk r (IfSome a (λ t. length (left t slot) ≡ n))
    whole (Err e) end = tt
    whole (Ok x) end = taken_all a b slot n (slot_told a i slot tells below) moved end

-- no more bytes were taken of a slot than may be
pub took_to_end : (a b : Option Told) (slot n : ℕ) → Advances a b slot n → n ≤ MOST_BYTES
    → TookTo (λ (bytes : List ℕ). length bytes) a b slot
took_to_end a b slot n moved most = (n, moved, near_end a slot n moved.within most)

always : {T : Type 0} (r : Result T Stop) (P : Type 0) → OnOk r P → IfOk r (λ x. ⊤ → P)
always (Ok x) P h = λ _. h
always (Err e) P h = tt

module _ {T : Type 0} (name : List ℕ) (old mid new : Option Told) (i j k slot : ℕ)
    (r : Result T Stop) (tells : TellsSlots old i) (is_slot : slot ≡ i)
    (opened : mid ≡ option_map (opened_at name) old) where
  tells_it : TellsSlots old slot
  tells_it = subst (TellsSlots old) (sym is_slot) tells

  not_long : (x : Result T Stop) → OnOk x (IfSome mid (λ t. length (left t slot) < MOST_BYTES))
      → OnOk x (IfSome old (λ t. ¬ IsLong (content t) (stream_file (content t) name)))
  not_long (Ok x) short =
      opened_fact (λ t. length (left t slot) < MOST_BYTES)
      (λ t. ¬ IsLong (content t) (stream_file (content t) name)) old mid slot name
      (short_stream name slot) tells_it opened short
  not_long (Err e) short = tt

  -- a file was opened, and then its slot was read to its end
  pub Reads-whole : j ≡ i + 1 → ReadsToEnd mid new j k slot r
      → Reads (λ c. stream_file c name ∷ []) (λ _. ⊤) 1 (λ _. 1) old new i k r
  unfolding Reads-file
  Reads-whole one_more reads =
      Reads-file name (λ (b : List ℕ). length b) (λ (b : List ℕ). true) (λ _. ⊤) old mid new i j k
      slot r tells is_slot opened one_more reads.took reads.opened
      (always r (IfSome mid (λ t. length (left t slot) < MOST_BYTES)) reads.short)
      (always r (IfSome new (λ t. left t slot ≡ [])) reads.end)
      (λ is. opened_fact (λ t. MOST_BYTES ≤ length (left t slot))
      (λ t. IsLong (content t) (stream_file (content t) name)) old mid slot name
      (long_stream name slot) tells_it opened (reads.too_long is))
      (not_long r reads.short)

  -- what its bytes say is what the bytes of the slot say
  pub file_says : {A : Type 0} (x : Result A Stop) (says : List ℕ → A)
      → IfOk x (λ a. IfSome mid (λ t. a ≡ says (readable t slot)))
      → IfOk x (λ a. IfSome old (λ t. a ≡ says (content t name)))
  file_says (Err e) says h = tt
  file_says (Ok a) says h =
      opened_bytes (λ (bytes : List ℕ). a ≡ says (take MOST_BYTES bytes)) old mid slot name tells_it
      opened h
