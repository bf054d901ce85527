-- What was opened, and what is replied to it.
use Rattle.std.specs.Prelude.{◌≡◌, ◌≢◌, ℕ, ◌+◌, ◌==◌, Bool, true, false, List, length}
use Rattle.std.specs.Prelude.{if◌then◌else◌, Option, Some, None, Result, Ok, Err, IfSome, IfOk}
use Rattle.std.specs.Prelude.{IfErr, IsOk}
use Rattle.std.proofs.Common.{refl, sym, ◌∙◌, ap, subst, arith, inl, inr}
use Rattle.bolt_io.specs.Told.{Told}
use Rattle.batch_run.proofs.FinishSteps.{shelf_unblamed, sink_unblamed}
use Rattle.batch_run.specs.Ahead.{IsReadStop}
use Rattle.batch_run.specs.Conducts.{world_of}
use Rattle.batch_steps.specs.Files.{Content, Named}
use Rattle.batch_steps.specs.Steps.{IsMade}
use Rattle.batch_steps.specs.declared.reply.Reply.{Reply}
use Rattle.command_course.specs.Still.{graph_slots, program_count}
use Rattle.command_files.proofs.ReadSteps.{Reads-as, Reads-failed, told_all, told_map}
use Rattle.command_files.specs.Files.{content}
use Rattle.command_files.specs.Reads.{Follows, Reads}
use Rattle.command_files.specs.Replied.{Gives}
use Rattle.command_files.specs.Stops.{BlamesShelf, BlamesSink, IsOfWriting, ShelfCause}
use Rattle.command_files.specs.declared.stop.Stop.{Stop}
use Rattle.command_files.specs.declared.stop.Stop.TheVariants.{SinkFailed}
use Rattle.graph_text.specs.declared.batch_text.BatchText.{BatchText}
use Rattle.live_course.specs.Lines.{status_of}
use Rattle.live_course.specs.Live.{LiveOk}
use Rattle.live_course.specs.Made.{refused_count}
use Rattle.live_course.specs.declared.made.MadeEntry.{MadeEntry}
use Rattle.live_opening.specs.Begun.{run_in, AreTextsOf, IsLive}
use Rattle.live_opening.specs.Files.{live_count, live_files, live_slots, stream_names}
use Rattle.live_opening.specs.Runs.{live_run, IsLiveRefusal}
use Rattle.live_opening.specs.declared.live.LiveRun.{LiveRun}
use Rattle.live_streams.specs.Texts.{streams_of}
use Rattle.live_text.specs.declared.question.Question.{Question}
use Rattle.live_words.specs.Ranges.{IsLiveInRange}
use Rattle.live_words.specs.declared.command.LiveCommand.{LiveCommand}
use Rattle.report_text.specs.Runs.{Run}
use Rattle.run_model.specs.Program.{lanes}
use Rattle.command_live.specs.ConductsLive.{ConductsLive, GivesOneOrNone}
use Rattle.command_live.specs.Replies.{slots_with, IsOfLive, IsReplyOf, IsReplyTo, IsRunnable}
use Rattle.command_live.specs.Replies.{MayGive}

-- what was opened can be run
pub runnable : (command : LiveCommand) (opened : Result LiveRun Reply) → IsLiveInRange command
    → IfOk opened (IsLive command) → IfOk opened IsRunnable
runnable command (Ok run) range h = record {
  engine = h.engine;
  text = h.text;
  sound = h.texts.sound;
  within = h.texts.within;
  few_streams = omega (arith, h.texts.streams, range.streams.few);
  few_questions = omega (arith, h.texts.questions, range.asks.few);
}
runnable command (Err refusal) range h = tt

-- the status of a live run
live_status : (made : List MadeEntry) → IsMade (status_of made)
live_status made = each (refused_count made == 0)
  where
    each : (b : Bool) → IsMade (if b then 0 else 1)
    each true = inl refl
    each false = inr refl

replied_status : (run : LiveRun) (reply : Reply) → IsReplyTo (Ok run) reply → IsMade reply.status
replied_status run reply h =
    subst IsMade (sym (ap (λ (r : Reply). r.status) h.reply)) (live_status h.made)

refused_status : (refusal reply : Reply) → IsLiveRefusal refusal → reply ≡ refusal
    → IsLiveRefusal reply
refused_status refusal reply own same = subst IsLiveRefusal (sym same) own

pub reply_status : (opened : Result LiveRun Reply) (reply : Reply) → IfErr opened IsLiveRefusal
    → IsReplyTo opened reply → IsOfLive reply.status
reply_status (Ok run) reply own h = inl (replied_status run reply h)
reply_status (Err refusal) reply own h = inr (refused_status refusal reply own h)

refused_unmade : (reply : Reply) → IsLiveRefusal reply → ¬ IsMade reply.status
refused_unmade reply (inl three) (inl none) = omega (arith, three, none)
refused_unmade reply (inl three) (inr one) = omega (arith, three, one)
refused_unmade reply (inr four) (inl none) = omega (arith, four, none)
refused_unmade reply (inr four) (inr one) = omega (arith, four, one)

module _ (words : List (List ℕ)) (command : LiveCommand) where
  made_slots : (n : ℕ) → IsMade n → slots_with command n ≡ live_count command
  made_slots n (inl none) = ap (slots_with command) none
  made_slots n (inr one) = ap (slots_with command) one

  refused_slots : (reply : Reply) → IsLiveRefusal reply
      → slots_with command reply.status ≡ program_count command.program + graph_slots reply.status
  refused_slots reply (inl three) =
      ap (slots_with command) three
      ∙ ap (λ (n : ℕ). program_count command.program + graph_slots n) (sym three)
  refused_slots reply (inr four) =
      ap (slots_with command) four
      ∙ ap (λ (n : ℕ). program_count command.program + graph_slots n) (sym four)

  reply_slots : (opened : Result LiveRun Reply) (reply : Reply) → IfErr opened IsLiveRefusal
      → IsReplyTo opened reply → slots_with command reply.status ≡ live_slots command opened
  reply_slots (Ok run) reply own h = made_slots reply.status (replied_status run reply h)
  reply_slots (Err refusal) reply own h =
      refused_slots reply (refused_status refusal reply own h)
      ∙ ap (λ (r : Reply). program_count command.program + graph_slots r.status) h

  reply_done : (opened : Result LiveRun Reply) (reply : Reply) → IfErr opened IsLiveRefusal
      → IsReplyTo opened reply → IsMade reply.status → IsOk opened
  reply_done (Ok run) reply own h made = refl
  reply_done (Err refusal) reply own h made =
      absurd (refused_unmade reply (refused_status refusal reply own h) made)

  -- the reply to what was opened is one that the command may give
  pub MayGive-told : (told : Option Told) (opened : Result LiveRun Reply) (reply : Reply)
      → IfSome told (λ t. live_run words command (content t)
      ≡ run_in (λ (run : LiveRun). run.engine) opened)
      → IfOk opened (λ run. IfSome told (λ t. AreTextsOf words command
      (lanes run.engine.program) (content t) run.texts))
      → IsReplyTo opened reply → IfSome told (λ t. MayGive words command (content t) reply)
  MayGive-told None opened reply is texts h = tt
  MayGive-told (Some t) (Ok run) reply is texts h =
      let e = run.engine in
      let named : LiveOk e.program e.now e.choice (streams_of (stream_names words command)
      (content t)) run.texts.questions reply =
      subst (λ (s : List (List BatchText)). LiveOk e.program e.now e.choice s
      run.texts.questions reply) texts.streams h in
      subst (λ (r : Result Run Reply). IsReplyOf words command (content t) r reply) (sym is)
      (subst (λ (q : List (List Question)). LiveOk e.program e.now e.choice
      (streams_of (stream_names words command) (content t)) q reply) texts.questions named)
  MayGive-told (Some t) (Err refusal) reply is texts h =
      subst (λ (r : Result Run Reply). IsReplyOf words command (content t) r reply) (sym is) h

  -- and the files were read for it
  pub Reads-live : (told new : Option Told) (i k : ℕ) (opened : Result LiveRun Reply)
      (reply : Reply) → Reads (live_files words command) IsOk (live_count command)
      (live_slots command) told new i k
      (let r : Result (Result LiveRun Reply) Stop = Ok opened in r)
      → IfErr opened IsLiveRefusal → IsReplyTo opened reply
      → Reads (live_files words command) (λ (x : Reply). IsMade x.status) (live_count command)
      (λ (x : Reply). slots_with command x.status) told new i k
      (let r : Result Reply Stop = Ok reply in r)
  Reads-live told new i k opened reply reads own h =
      Reads-as (live_files words command) (live_files words command) IsOk
      (λ (x : Reply). IsMade x.status) (live_count command) (live_slots command)
      (λ (x : Reply). slots_with command x.status) told new i k
      (told_all (λ t. live_files words command (content t)
      ≡ live_files words command (content t)) told (λ t. refl)) opened reply reads
      (reply_done opened reply own h) (reply_slots opened reply own h)

-- what was read, and then a reply that is written or not
module _ (May : Content → Reply → Type 0) (files : Content → List Named) (most : ℕ)
    (slots : ℕ → ℕ) (told mid : Option Told) (i j f n : ℕ) (a b : Option (List ℕ))
    (g h : ℕ) where
  same_files : IfSome told (λ t. files (content t) ≡ files (content t))
  same_files = told_all (λ t. files (content t) ≡ files (content t)) told (λ t. refl)

  pub ConductsLive-replied : (reply : Reply) (r : Result ℕ Stop)
      → Reads files (λ (x : Reply). IsMade x.status) most (λ (x : Reply). slots x.status) told
      mid i j (let x : Result Reply Stop = Ok reply in x)
      → IfSome told (λ t. May (content t) reply) → Gives reply a b r
      → IfOk r (λ s. s ≡ reply.status) → IfErr r IsOfWriting → n ≡ f → BlamesSink r g h
      → ConductsLive May files most slots (world_of told i f a g) (world_of mid j n b h) r
  ConductsLive-replied reply r first may gives same writing shelf sink = record {
    reply =
        told_map (λ t. May (content t) reply) (λ t. GivesOneOrNone (May (content t)) a b r) told
        (λ t m. inr (record { reply = reply; may = m; gives = gives })) may;
    reads = reads_of r same writing;
    late =
        inr (told_map (λ t. Follows (content t) (files (content t))
        (λ (x : Reply). IsMade x.status) first.more (let x : Result Reply Stop = Ok reply in x))
        (λ t. j ≡ i + length (files (content t))) told
        (λ t g. omega (arith, first.count, g.all)) first.follows);
    unread = λ stopped. absurd (read_whole r writing stopped);
    shelf_cause = unblamed r writing;
    sink_cause = sink;
  }
    where
      reads_of : (r : Result ℕ Stop) → IfOk r (λ s. s ≡ reply.status) → IfErr r IsOfWriting
          → Reads files IsMade most slots told mid i j r
      reads_of (Ok s) same writing =
          Reads-as files files (λ (x : Reply). IsMade x.status) IsMade most
          (λ (x : Reply). slots x.status) slots told mid i j same_files reply s first
          (λ made. subst IsMade same made) (ap slots same)
      reads_of (Err e) same writing =
          Reads-failed files files (λ (x : Reply). IsMade x.status) IsMade most
          (λ (x : Reply). slots x.status) slots told mid i j same_files (Ok reply) e first
          (λ long. absurd (writing.1 long))

      read_whole : (r : Result ℕ Stop) → IfErr r IsOfWriting → ¬ IsReadStop r
      read_whole (Ok s) writing (inl is) = cc
      read_whole (Ok s) writing (inr is) = cc
      read_whole (Err e) writing (inl is) = writing.0 cc
      read_whole (Err e) writing (inr is) = writing.1 cc

      unblamed : (r : Result ℕ Stop) → IfErr r IsOfWriting → BlamesShelf r f n
      unblamed (Ok s) writing = shelf
      unblamed (Err e) writing =
          subst (λ (k : ℕ). ShelfCause f k e) (sym shelf) (shelf_unblamed e f writing.0)

  -- the reading stopped, and nothing was written
  pub ConductsLive-unreplied : (e : Stop)
      → Reads files (λ (x : Reply). IsMade x.status) most (λ (x : Reply). slots x.status) told
      mid i j (let x : Result Reply Stop = Err e in x)
      → e ≢ SinkFailed → ShelfCause f n e
      → ConductsLive May files most slots (world_of told i f a g) (world_of mid j n a g) (Err e)
  ConductsLive-unreplied e first reading shelf = record {
    reply = told_all (λ t. GivesOneOrNone (May (content t)) a a (Err e)) told
        (λ t. inl (refl, refl));
    reads =
        Reads-failed files files (λ (x : Reply). IsMade x.status) IsMade most
        (λ (x : Reply). slots x.status) slots told mid i j same_files
        (let x : Result Reply Stop = Err e in x) e first (λ long. cc);
    late = inl refl;
    unread = λ _. refl;
    shelf_cause = shelf;
    sink_cause = sink_unblamed e g reading;
  }
