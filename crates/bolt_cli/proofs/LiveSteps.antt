-- How the result of `live` is its status.
use Rattle.std.specs.Prelude.{◌≡◌, ℕ, ◌+◌, List, [], length, Option, Result, Ok, Err, IfErr}
use Rattle.std.specs.Prelude.{IfOk}
use Rattle.std.proofs.Common.{refl, sym, subst, arith, inl, inr}
use Rattle.bolt_io.specs.Told.{Told}
use Rattle.batch_run.proofs.FinishSteps.{shelf_unblamed}
use Rattle.batch_run.specs.Ahead.{IsReadStop}
use Rattle.batch_run.specs.Conducts.{World, world_of}
use Rattle.batch_steps.specs.Steps.{IsMade}
use Rattle.batch_steps.specs.declared.reply.Reply.{Reply}
use Rattle.cli_words.specs.declared.command.WordsRefusal.{WordsRefusal}
use Rattle.command_course.specs.Still.{words_reply}
use Rattle.command_files.proofs.FileSteps.{Reads-none, Reads-nothing}
use Rattle.command_files.proofs.ReadSteps.{told_all, told_map}
use Rattle.command_files.specs.Files.{content}
use Rattle.command_files.specs.Reads.{Reads}
use Rattle.command_files.specs.Replied.{Gives}
use Rattle.command_files.specs.Stops.{status_of, BlamesShelf, BlamesSink, IsOfWriting}
use Rattle.command_files.specs.declared.stop.Stop.{Stop}
use Rattle.live_words.specs.Lines.{live_of}
use Rattle.live_words.specs.declared.command.LiveCommand.{LiveCommand}
use Rattle.command_live.specs.ConductsLive.{ConductsLive, GivesOneOrNone}
use Rattle.command_live.specs.Words.{count_by, files_by, live_named, live_opened_with, live_read}
use Rattle.command_live.specs.Words.{slots_by, IsLiveDecided, IsLiveDecidedBy, MayReply}
use Rattle.command_live.specs.Words.{MayReplyBy}
use Rattle.bolt_cli.specs.AnswersLive.{AnswersLive, WroteOne, WrotePartOfOne}
use Rattle.bolt_cli.specs.Ends.{IsOwn}
use Rattle.bolt_cli.proofs.AnswerSteps.{own_below_stop, own_run, read_stop}
use Rattle.bolt_cli.proofs.EndSteps.{Ends-err, Ends-ok, not_decided, stop_status_least}

-- a status that is decided is one of the five
own_by : (r : Result LiveCommand WordsRefusal) (n : ℕ) → IsLiveDecidedBy r n → IsOwn n
own_by (Err w) n h = inr (inr (inl h))
own_by (Ok c) n h = own_run n h

own_live : (words : List (List ℕ)) (n : ℕ) → IsLiveDecided words n → IsOwn n
unfolding IsLiveDecided
own_live words n h = own_by (live_of words) n h

-- ---- what words say
module _ (words : List (List ℕ)) (r : Result LiveCommand WordsRefusal)
    (is : live_of words ≡ r) where
  pub decided-live : (s : ℕ) → IsLiveDecidedBy r s → IsLiveDecided words s
  unfolding IsLiveDecided
  decided-live s h =
      subst (λ (x : Result LiveCommand WordsRefusal). IsLiveDecidedBy x s) (sym is) h

  -- what was conducted for what the words say was for the words
  pub Conducts-words : (old new : World) (result : Result ℕ Stop)
      → ConductsLive (MayReplyBy words r) (files_by words r) (count_by r) (slots_by r) old new
      result
      → ConductsLive (MayReply words) (live_read words) (live_named words)
      (live_opened_with words) old new result
  unfolding MayReply live_read live_named live_opened_with
  Conducts-words old new result h =
      subst (λ (x : Result LiveCommand WordsRefusal). ConductsLive (MayReplyBy words x)
      (files_by words x) (count_by x) (slots_by x) old new result) (sym is) h

-- words that are no command were refused
module _ (words : List (List ℕ)) (w : WordsRefusal) (told : Option Told) (i f : ℕ)
    (a b : Option (List ℕ)) (g h : ℕ) where
  abbrev No : Result LiveCommand WordsRefusal
  No = Err w

  not_made : (s : ℕ) → s ≡ 2 → ¬ IsMade s
  not_made s two (inl none) = omega (arith, two, none)
  not_made s two (inr one) = omega (arith, two, one)

  none_read : (r : Result ℕ Stop) → IfOk r (λ s. s ≡ 2) → IfErr r IsOfWriting
      → Reads (files_by words No) IsMade 0 (slots_by No) told told i i r
  none_read (Ok s) two writing =
      Reads-nothing (files_by words No) IsMade 0 (slots_by No) told told i i s refl refl
      (not_made s two) refl (told_all (λ t. files_by words No (content t) ≡ []) told (λ t. refl))
  none_read (Err e) two writing =
      Reads-none (files_by words No) IsMade 0 (slots_by No) told told i i e refl refl
      (λ long. absurd (writing.1 cc))

  read_whole : (r : Result ℕ Stop) → IfErr r IsOfWriting → ¬ IsReadStop r
  read_whole (Ok s) writing (inl is) = cc
  read_whole (Ok s) writing (inr is) = cc
  read_whole (Err e) writing (inl is) = writing.0 cc
  read_whole (Err e) writing (inr is) = writing.1 cc

  unblamed : (r : Result ℕ Stop) → IfErr r IsOfWriting → BlamesShelf r f f
  unblamed (Ok s) writing = refl
  unblamed (Err e) writing = shelf_unblamed e f writing.0

  pub ConductsLive-refused : (r : Result ℕ Stop) → Gives (words_reply w) a b r
      → IfOk r (λ s. s ≡ 2) → IfErr r IsOfWriting → BlamesSink r g h
      → ConductsLive (MayReplyBy words No) (files_by words No) (count_by No) (slots_by No)
      (world_of told i f a g) (world_of told i f b h) r
  ConductsLive-refused r gives two writing sink = record {
    reply =
        told_all (λ t. GivesOneOrNone (MayReplyBy words No (content t)) a b r) told
        (λ t. inr (record { reply = words_reply w; may = refl; gives = gives }));
    reads = none_read r two writing;
    late =
        inr (told_all (λ t. i ≡ i + length (files_by words No (content t))) told
        (λ t. omega arith));
    unread = λ stopped. absurd (read_whole r writing stopped);
    shelf_cause = unblamed r writing;
    sink_cause = sink;
  }

-- ---- the status
module _ (words : List (List ℕ)) (old new : World) where
  abbrev Does : Result ℕ Stop → Type 0
  Does r = ConductsLive (MayReply words) (live_read words) (live_named words)
      (live_opened_with words) old new r

  -- what was written of a text
  part_of : (May : Reply → Type 0) (r : Result ℕ Stop)
      → GivesOneOrNone May old.written new.written r
      → WrotePartOfOne May old.written new.written
  part_of May r (inl none) = inl none.1
  part_of May r (inr one) = inr (one.reply, one.may, one.gives.part)

  whole_of : (May : Reply → Type 0) (s : ℕ)
      → GivesOneOrNone May old.written new.written (Ok s)
      → WroteOne May old.written new.written s
  whole_of May s (inl none) = absurd (cc)
  whole_of May s (inr one) = record {
    reply = one.reply;
    may = one.may;
    wrote = one.gives.whole;
    own = one.gives.status;
  }

  pub AnswersLive-ok : (s : ℕ) → Does (Ok s) → IsLiveDecided words s → AnswersLive words old new s
  AnswersLive-ok s h decided = record {
    ends =
        Ends-ok (IsLiveDecided words) (live_read words) (live_named words)
        (live_opened_with words) old new s h.reads h.shelf_cause h.sink_cause
        (own_live words s decided) decided;
    part =
        told_map (λ t. GivesOneOrNone (MayReply words (content t)) old.written new.written (Ok s))
        (λ t. WrotePartOfOne (MayReply words (content t)) old.written new.written) old.told
        (λ t g. part_of (MayReply words (content t)) (Ok s) g) h.reply;
    whole =
        λ _. told_map
        (λ t. GivesOneOrNone (MayReply words (content t)) old.written new.written (Ok s))
        (λ t. WroteOne (MayReply words (content t)) old.written new.written s) old.told
        (λ t g. whole_of (MayReply words (content t)) s g) h.reply;
    late = h.late;
    unread = λ is. absurd (own_below_stop s is (own_live words s decided));
  }

  pub AnswersLive-err : (e : Stop) → Does (Err e) → AnswersLive words old new (status_of e)
  AnswersLive-err e h = record {
    ends =
        Ends-err (IsLiveDecided words) (live_read words) (live_named words)
        (live_opened_with words) old new e h.reads h.shelf_cause h.sink_cause;
    part =
        told_map (λ t. GivesOneOrNone (MayReply words (content t)) old.written new.written (Err e))
        (λ t. WrotePartOfOne (MayReply words (content t)) old.written new.written) old.told
        (λ t g. part_of (MayReply words (content t)) (Err e) g) h.reply;
    whole = λ d. absurd (not_decided (status_of e) (stop_status_least e) d);
    late = h.late;
    unread = λ is. h.unread (read_stop e is);
  }
