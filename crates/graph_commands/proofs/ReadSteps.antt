-- What the program and the graph that were read come to.
use Rattle.std.proofs.Common.{◌≡◌, ◌∙◌, ℕ, ◌+◌, List, refl, sym, ap, arith, inl, inr}
use Rattle.std.specs.Prelude.{Option, Result, Ok, Err, IfErr, IfSome, IsOk}
use Rattle.bolt_base.specs.Graph.{Graph}
use Rattle.bolt_io.specs.Told.{Told}
use Rattle.vertex_expr.specs.declared.program.ProgramEntries.{ProgramEntries}
use Rattle.batch_run.specs.Opened.{EndsWith, IsRun}
use Rattle.batch_run.specs.declared.opened.Opened.{Opened}
use Rattle.batch_run.specs.declared.opened.Opened.TheVariants.{Refused, Runs}
use Rattle.batch_steps.specs.Files.{Content}
use Rattle.batch_steps.specs.Steps.{IsMade, stream_slots}
use Rattle.batch_steps.specs.declared.reply.Reply.{Reply}
use Rattle.cli_words.specs.Words.{word_at}
use Rattle.cli_words.specs.declared.command.ProgramWord.{ProgramWord}
use Rattle.cli_words.specs.declared.command.RunOptions.{RunOptions}
use Rattle.command_course.specs.Course.{Course, ◌>>=◌, replies, reply_with}
use Rattle.command_course.specs.Openings.{graph_for}
use Rattle.command_course.specs.Programs.{accepted_program}
use Rattle.command_course.specs.Still.{both_files, graph_slots, once_course, program_count}
use Rattle.command_course.specs.Still.{run_course}
use Rattle.command_files.specs.Files.{content}
use Rattle.command_files.specs.Reads.{Reads}
use Rattle.command_files.specs.declared.stop.Stop.{Stop}
use Rattle.command_files.proofs.ReadSteps.{Reads-as, told_all, told_map}
use Rattle.command_opening.specs.Both.{Both, both_of, both_slots, paired}
use Rattle.report_text.specs.Runs.{once_text}
use Rattle.run_opening.specs.OnGraph.{opening_on}
use Rattle.graph_commands.specs.Opened.{once_read, opened_slots, opening_read, IsOfOnce, IsOfRun}
use Rattle.graph_commands.specs.Opened.{IsRefusal, OpensRead, RepliesToRead}

-- a refusal has its status
refused-run : (s : ℕ) (reply : Reply) → s ≡ reply.status → IsRefusal reply → IsOfRun s
refused-run s reply same (inl three) = inr (inl (same ∙ three))
refused-run s reply same (inr four) = inr (inr (same ∙ four))

pub ends-run : {T : Type 0} (read : Result Both Reply) (o : Opened T) → IfErr read IsRefusal
    → OpensRead read o → (s : ℕ) → EndsWith o s → IsOfRun s
ends-run (Ok both) (Refused refusal) own h s ends = inr (inr (ends ∙ h))
ends-run (Ok both) (Runs text run) own h s ends = inl ends
ends-run (Err reply) (Refused refusal) own h s ends =
    refused-run s reply (ends ∙ ap (λ (r : Reply). r.status) h) own
ends-run (Err reply) (Runs text run) own h s ends = absurd h

pub ends-once : (read : Result Both Reply) (reply : Reply) → IfErr read IsRefusal
    → RepliesToRead read reply → IsOfOnce reply.status
ends-once (Ok both) reply own h = inl h
ends-once (Err refusal) reply own h = each own
  where
    each : IsRefusal refusal → IsOfOnce reply.status
    each (inl three) = inr (inl (ap (λ (r : Reply). r.status) h ∙ three))
    each (inr four) = inr (inr (ap (λ (r : Reply). r.status) h ∙ four))

module _ (w : ProgramWord) where
  -- how many files were opened for it
  slots-run : {T : Type 0} (read : Result Both Reply) (o : Opened T) → OpensRead read o
      → opened_slots w o ≡ both_slots w read
  slots-run (Ok both) (Refused refusal) h =
      ap (λ (s : ℕ). program_count w + graph_slots s) h
  slots-run (Ok both) (Runs text run) h = refl
  slots-run (Err reply) (Refused refusal) h =
      ap (λ (r : Reply). program_count w + graph_slots r.status) h
  slots-run (Err reply) (Runs text run) h = absurd h

  slots-once : (read : Result Both Reply) (reply : Reply) → RepliesToRead read reply
      → program_count w + graph_slots reply.status ≡ both_slots w read
  slots-once (Ok both) reply h = ap (λ (s : ℕ). program_count w + graph_slots s) h
  slots-once (Err refusal) reply h =
      ap (λ (r : Reply). program_count w + graph_slots r.status) h

  -- how many there are at its end
  pub slots-end : {T : Type 0} (o : Opened T) (s : ℕ) → EndsWith o s
      → program_count w + graph_slots s + stream_slots s ≡ opened_slots w o + stream_slots s
  slots-end (Refused refusal) s is =
      ap (λ (n : ℕ). program_count w + graph_slots n + stream_slots s) is
  slots-end (Runs text run) s (inl none) =
      ap (λ (n : ℕ). program_count w + graph_slots n + stream_slots s) none
  slots-end (Runs text run) s (inr one) =
      ap (λ (n : ℕ). program_count w + graph_slots n + stream_slots s) one

-- both were read where a run was made
done-run : {T : Type 0} (read : Result Both Reply) (o : Opened T) → OpensRead read o → IsRun o
    → IsOk read
done-run (Ok both) o h made = refl
done-run (Err reply) (Refused refusal) h made = absurd made
done-run (Err reply) (Runs text run) h made = absurd h

done-once : (read : Result Both Reply) (reply : Reply) → IfErr read IsRefusal
    → RepliesToRead read reply → IsMade reply.status → IsOk read
done-once (Ok both) reply own h made = refl
done-once (Err refusal) reply own h made = absurd (each own made)
  where
    same : reply.status ≡ refusal.status
    same = ap (λ (r : Reply). r.status) h

    each : IsRefusal refusal → IsMade reply.status → ⊥
    each (inl three) (inl none) = omega (arith, same, three, none)
    each (inl three) (inr one) = omega (arith, same, three, one)
    each (inr four) (inl none) = omega (arith, same, four, none)
    each (inr four) (inr one) = omega (arith, same, four, one)

module _ (words : List (List ℕ)) (w : ProgramWord) (graph : ℕ) (options : RunOptions) where
  -- the courses of both commands go over what is read
  course-both : (stream : ℕ) (c : Content) → run_course words w graph stream options c
      ≡ opening_read options (both_of words w graph c) (word_at words stream)
  course-both stream c = each (accepted_program words w c)
    where
      graphs : (p : ProgramEntries) (y : Result Graph Reply)
          → (y >>= λ g. opening_on p options g (word_at words stream))
          ≡ opening_read options (paired p y) (word_at words stream)
      graphs p (Ok g) = refl
      graphs p (Err reply) = refl

      each : (x : Result ProgramEntries Reply)
          → (x >>= λ p. graph_for p (c (word_at words graph))
          >>= λ g. opening_on p options g (word_at words stream))
          ≡ opening_read options (x >>= λ p. paired p (graph_for p (c (word_at words graph))))
          (word_at words stream)
      each (Ok p) = graphs p (graph_for p (c (word_at words graph)))
      each (Err reply) = refl

  course-once : (c : Content) → once_course words w graph options c
      ≡ once_read options (both_of words w graph c)
  course-once c = each (accepted_program words w c)
    where
      graphs : (p : ProgramEntries) (y : Result Graph Reply)
          → (y >>= λ g. replies (reply_with 0 (once_text p options.show g)))
          ≡ once_read options (paired p y)
      graphs p (Ok g) = refl
      graphs p (Err reply) = refl

      each : (x : Result ProgramEntries Reply)
          → (x >>= λ p. graph_for p (c (word_at words graph))
          >>= λ g. replies (reply_with 0 (once_text p options.show g)))
          ≡ once_read options (x >>= λ p. paired p (graph_for p (c (word_at words graph))))
      each (Ok p) = graphs p (graph_for p (c (word_at words graph)))
      each (Err reply) = refl

  module _ (told : Option Told) (read : Result Both Reply)
      (found : IfSome told (λ t. both_of words w graph (content t) ≡ read)) where
    pub course-opened : (o : List ℕ → Course)
        → ((stream : List ℕ) → o stream ≡ opening_read options read stream)
        → IfSome told (λ t. (stream : ℕ) → o (word_at words stream)
        ≡ run_course words w graph stream options (content t))
    course-opened o is =
        told_map (λ t. both_of words w graph (content t) ≡ read)
        (λ t. (stream : ℕ) → o (word_at words stream)
        ≡ run_course words w graph stream options (content t)) told
        (λ t h stream. is (word_at words stream)
        ∙ ap (λ (r : Result Both Reply). opening_read options r (word_at words stream)) (sym h)
        ∙ sym (course-both stream (content t))) found

    pub course-replied : (reply : Reply)
        → once_read options read ≡ (let x : Course = Err reply in x)
        → IfSome told (λ t. once_course words w graph options (content t)
        ≡ (let x : Course = Err reply in x))
    course-replied reply is =
        told_map (λ t. both_of words w graph (content t) ≡ read)
        (λ t. once_course words w graph options (content t)
        ≡ (let x : Course = Err reply in x)) told
        (λ t h. course-once (content t)
        ∙ ap (λ (r : Result Both Reply). once_read options r) h ∙ is) found

-- the files that were read for it
module _ (words : List (List ℕ)) (w : ProgramWord) (graph : ℕ) (told new : Option Told)
    (i k : ℕ) (read : Result Both Reply)
    (reads : Reads (both_files words w graph) IsOk (program_count w + 1) (both_slots w) told new
    i k (let r : Result (Result Both Reply) Stop = Ok read in r)) where
  pub Reads-opened : {T : Type 0} (o : Opened T) → OpensRead read o
      → Reads (both_files words w graph) IsRun (program_count w + 1) (opened_slots w) told new
      i k (let r : Result (Opened T) Stop = Ok o in r)
  Reads-opened o h =
      Reads-as (both_files words w graph) (both_files words w graph) IsOk IsRun
      (program_count w + 1) (both_slots w) (opened_slots w) told new i k
      (told_all (λ t. both_files words w graph (content t)
      ≡ both_files words w graph (content t)) told (λ t. refl)) read o reads
      (done-run read o h) (slots-run w read o h)

  pub Reads-replied : (reply : Reply) → IfErr read IsRefusal → RepliesToRead read reply
      → Reads (both_files words w graph) (λ reply. IsMade reply.status) (program_count w + 1)
      (λ reply. program_count w + graph_slots reply.status) told new i k
      (let r : Result Reply Stop = Ok reply in r)
  Reads-replied reply own h =
      Reads-as (both_files words w graph) (both_files words w graph) IsOk
      (λ (reply : Reply). IsMade reply.status) (program_count w + 1) (both_slots w)
      (λ (reply : Reply). program_count w + graph_slots reply.status) told new i k
      (told_all (λ t. both_files words w graph (content t)
      ≡ both_files words w graph (content t)) told (λ t. refl)) read reply reads
      (done-once read reply own h) (slots-once w read reply h)

-- at one place of many
pub told_at : (told : Option Told) (F : Told → ℕ → Type 0) (n : ℕ)
    → IfSome told (λ t. (k : ℕ) → F t k) → IfSome told (λ t. F t n)
told_at told F n h = told_map (λ t. (k : ℕ) → F t k) (λ t. F t n) told (λ t each. each n) h
