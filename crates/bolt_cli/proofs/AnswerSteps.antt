-- How the result of a command but `live` is its status.
use Rattle.std.specs.Prelude.{◌≡◌, ◌⊎◌, ℕ, List, ◌++◌, [], ◌∷◌, length, take, drop}
use Rattle.std.specs.Prelude.{Option, Some, None, Result, Ok, Err, IfOk}
use Rattle.std.proofs.Common.{refl, arith, inl, inr}
use Rattle.bolt_io.specs.Told.{Told}
use Rattle.bolt_io.specs.Written.{Wrote, WrotePart}
use Rattle.bolt_io.specs.declared.files.Slot.{Slot}
use Rattle.batch_steps.specs.declared.reply.Reply.{Reply}
use Rattle.batch_steps.specs.Steps.{IsMade}
use Rattle.batch_steps.specs.Course.{Opening}
use Rattle.batch_steps.specs.Ended.{ended_batches}
use Rattle.batch_steps.specs.Files.{Content}
use Rattle.command_files.specs.declared.stop.Stop.{Stop}
use Rattle.command_files.specs.declared.stop.Stop.TheVariants.{ShelfFailed, SinkFailed, Memory}
use Rattle.command_files.specs.declared.stop.Stop.TheVariants.{TooLong}
use Rattle.command_files.specs.Files.{content}
use Rattle.command_files.specs.Replied.{Gives, Leads}
use Rattle.command_files.specs.Stops.{status_of}
use Rattle.command_files.proofs.ReadSteps.{told_map}
use Rattle.batch_run.specs.Ahead.{IsReadStop}
use Rattle.batch_run.specs.Conducts.{World, Each, Begun, Conducts}
use Rattle.cli_words.specs.Lines.{command_of}
use Rattle.cli_words.specs.declared.command.Command.{Command}
use Rattle.cli_words.specs.declared.command.Command.TheVariants as command
use Rattle.cli_words.specs.declared.command.MakeForm.{MakeForm}
use Rattle.cli_words.specs.declared.command.MakeForm.TheVariants as form
use Rattle.cli_words.specs.declared.command.WordsRefusal.{WordsRefusal}
use Rattle.command_course.specs.Still.{course, files_before, files_read, still, named, opened_with}
use Rattle.command_course.specs.Still.{IsDecided, IsDecidedBy, IsDecidedOf, IsMakeDecided}
use Rattle.bolt_cli.specs.Ends.{IsOwn}
use Rattle.bolt_cli.specs.Answers.{OfStream, Answers}
use Rattle.bolt_cli.proofs.EndSteps.{Ends-ok, Ends-err, not_decided, own_below, stop_status_least}

-- a status that is decided is one of these five
pub own_run : (n : ℕ) → IsMade n ⊎ (n ≡ 3) ⊎ (n ≡ 4) → IsOwn n
own_run n (inl (inl h)) = inl h
own_run n (inl (inr h)) = inr (inl h)
own_run n (inr (inl h)) = inr (inr (inr (inl h)))
own_run n (inr (inr h)) = inr (inr (inr (inr h)))

own_once : (n : ℕ) → (n ≡ 0) ⊎ (n ≡ 3) ⊎ (n ≡ 4) → IsOwn n
own_once n (inl h) = inl h
own_once n (inr (inl h)) = inr (inr (inr (inl h)))
own_once n (inr (inr h)) = inr (inr (inr (inr h)))

own_check : (n : ℕ) → (n ≡ 0) ⊎ (n ≡ 3) → IsOwn n
own_check n (inl h) = inl h
own_check n (inr h) = inr (inr (inr (inl h)))

own_make : (f : MakeForm) (n : ℕ) → IsMakeDecided f n → IsOwn n
own_make form.Graph n h = inl h
own_make form.Stream n h = inl h
own_make (form.Run options) n h = own_run n h

own_of : (c : Command) (n : ℕ) → IsDecidedOf c n → IsOwn n
own_of (command.Run program graph stream options) n h = own_run n h
own_of (command.Once program graph options) n h = own_once n h
own_of (command.Check program) n h = own_check n h
own_of (command.Make seed vertices pairs batches edits made) n h = own_make made n h

own_by : (r : Result Command WordsRefusal) (n : ℕ) → IsDecidedBy r n → IsOwn n
own_by (Err w) n h = inr (inr (inl h))
own_by (Ok c) n h = own_of c n h

own_status : (words : List (List ℕ)) (n : ℕ) → IsDecided words n → IsOwn n
unfolding IsDecided
own_status words n h = own_by (command_of words) n h

-- a reading stopped where the status is 5 or 8
pub read_stop : (e : Stop) → (status_of e ≡ 5) ⊎ (status_of e ≡ 8)
    → IsReadStop (let r : Result ℕ Stop = Err e in r)
read_stop ShelfFailed h = inl refl
read_stop TooLong h = inr refl
read_stop SinkFailed (inl is) = absurd (omega (arith, is))
read_stop SinkFailed (inr is) = absurd (omega (arith, is))
read_stop Memory (inl is) = absurd (omega (arith, is))
read_stop Memory (inr is) = absurd (omega (arith, is))

pub own_below_stop : (n : ℕ) → (n ≡ 5) ⊎ (n ≡ 8) → IsOwn n → ⊥
own_below_stop n (inl is) own = omega (arith, own_below n own, is)
own_below_stop n (inr is) own = omega (arith, own_below n own, is)

-- what holds of each slot of the stream
OfStream-map : (words : List (List ℕ)) (more : List Slot) (told : Option Told)
    (P Q : Opening → Content → Slot → Type 0)
    → ((o : Opening) (c : Content) (s : Slot) → P o c s → Q o c s) → OfStream words more told P
    → OfStream words more told Q
OfStream-map words more None P Q step h = tt
OfStream-map words more (Some t) P Q step h = each (course words (content t)) h
  where
    all : (o : Opening) (ss : List Slot) → Each (P o (content t)) ss → Each (Q o (content t)) ss
    all o [] h = tt
    all o (s ∷ ss) h = (step o (content t) s h.0, all o ss h.1)

    each : (x : Result Opening Reply)
        → IfOk x (λ o. Each (P o (content t)) (drop (length (files_before words (content t))) more))
        → IfOk x (λ o. Each (Q o (content t)) (drop (length (files_before words (content t))) more))
    each (Ok o) h = all o (drop (length (files_before words (content t))) more) h
    each (Err refusal) h = tt

module _ (words : List (List ℕ)) (old new : World) where
  abbrev Does : Result ℕ Stop → Type 0
  Does r = Conducts (course words) (files_before words) (named words) (opened_with words) old new r

  pub Answers-ok : (s : ℕ) → Does (Ok s) → IsDecided words s → Answers words old new s
  Answers-ok s h decided =
      let own : IsOwn s = own_status words s decided in
      let R : Told → Type 0 = λ t. Gives (still words (content t)) old.written new.written (Ok s) in
      record {
        ends =
            Ends-ok (IsDecided words) (files_read words) (named words) (opened_with words) old new
            s h.reads h.shelf_cause h.sink_cause own decided;
        part =
            told_map R (λ t. WrotePart old.written new.written (still words (content t)).text)
            old.told (λ t g. g.part) h.reply;
        whole =
            λ _. told_map R (λ t. Wrote old.written new.written (still words (content t)).text)
            old.told (λ t g. g.whole) h.reply;
        own =
            λ _. told_map R (λ t. s ≡ (still words (content t)).status) old.told (λ t g. g.status)
            h.reply;
        begun =
            OfStream-map words h.reads.more old.told
            (λ o c x. Begun o c old.written new.written (Ok s) x)
            (λ o c x. Leads o.text old.written new.written) (λ o c x b. b.opening) h.begun;
        kept_up = λ is. absurd (own_below_stop s is own);
      }

  pub Answers-err : (e : Stop) → Does (Err e) → Answers words old new (status_of e)
  Answers-err e h =
      let R : Told → Type 0 =
      λ t. Gives (still words (content t)) old.written new.written (Err e) in
      record {
        ends =
            Ends-err (IsDecided words) (files_read words) (named words) (opened_with words) old new
            e h.reads h.shelf_cause h.sink_cause;
        part =
            told_map R (λ t. WrotePart old.written new.written (still words (content t)).text)
            old.told (λ t g. g.part) h.reply;
        whole = λ d. absurd (not_decided (status_of e) (stop_status_least e) d);
        own = λ d. absurd (not_decided (status_of e) (stop_status_least e) d);
        begun =
            OfStream-map words h.reads.more old.told
            (λ o c x. Begun o c old.written new.written (Err e) x)
            (λ o c x. Leads o.text old.written new.written) (λ o c x b. b.opening) h.begun;
        kept_up =
            λ is. OfStream-map words h.reads.more old.told
            (λ o c x. Begun o c old.written new.written (Err e) x)
            (λ o c x. Leads (o.text ++ o.of_batches (ended_batches (take x.taken (c o.stream))))
            old.written new.written) (λ o c x b. b.kept_up (read_stop e is)) h.begun;
      }
