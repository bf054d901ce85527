-- What the program and the graph that were read come to.
use Rattle.std.proofs.Common.{◌≡◌, ◌∙◌, ℕ, ◌+◌, List, refl, ap}
use Rattle.std.specs.Prelude.{Option, Result, Ok, Err, IfSome, IsOk}
use Rattle.bolt_base.specs.Graph.{Graph}
use Rattle.bolt_io.specs.Told.{Told}
use Rattle.vertex_expr.specs.declared.program.ProgramEntries.{ProgramEntries}
use Rattle.batch_steps.specs.Files.{Content}
use Rattle.batch_steps.specs.declared.reply.Reply.{Reply}
use Rattle.cli_words.specs.Words.{word_at}
use Rattle.cli_words.specs.declared.command.ProgramWord.{ProgramWord}
use Rattle.command_course.specs.Course.{◌>>=◌}
use Rattle.command_course.specs.Openings.{graph_for}
use Rattle.command_course.specs.Programs.{accepted_program}
use Rattle.command_course.specs.Still.{both_files, graph_slots, program_count}
use Rattle.command_files.specs.Files.{content}
use Rattle.command_files.specs.Reads.{Reads}
use Rattle.command_files.specs.declared.stop.Stop.{Stop}
use Rattle.command_files.proofs.ReadSteps.{Reads-as, told_all, told_map}
use Rattle.command_opening.specs.Both.{Both, both_of, both_slots, paired}
use Rattle.live_words.specs.declared.command.LiveCommand.{LiveCommand}
use Rattle.report_text.specs.Runs.{Run}
use Rattle.live_opening.specs.Begun.{OpensRead}
use Rattle.live_opening.specs.Files.{start_slots}
use Rattle.live_opening.specs.Runs.{live_on, live_read, live_run}

module _ (words : List (List ℕ)) (command : LiveCommand) where
  -- the run goes over what is read
  run-both : (c : Content) → live_run words command c
      ≡ live_read command.options (both_of words command.program command.graph c)
  run-both c = each (accepted_program words command.program c)
    where
      graphs : (p : ProgramEntries) (y : Result Graph Reply)
          → (y >>= λ g. live_on p command.options g) ≡ live_read command.options (paired p y)
      graphs p (Ok g) = refl
      graphs p (Err reply) = refl

      each : (x : Result ProgramEntries Reply)
          → (x >>= λ p. graph_for p (c (word_at words command.graph))
          >>= λ g. live_on p command.options g)
          ≡ live_read command.options
          (x >>= λ p. paired p (graph_for p (c (word_at words command.graph))))
      each (Ok p) = graphs p (graph_for p (c (word_at words command.graph)))
      each (Err reply) = refl

  pub run-read : (told : Option Told) (read : Result Both Reply)
      → IfSome told (λ t. both_of words command.program command.graph (content t) ≡ read)
      → (run : Result Run Reply) → live_read command.options read ≡ run
      → IfSome told (λ t. live_run words command (content t) ≡ run)
  run-read told read found run is =
      told_map (λ t. both_of words command.program command.graph (content t) ≡ read)
      (λ t. live_run words command (content t) ≡ run) told
      (λ t h. run-both (content t) ∙ ap (live_read command.options) h ∙ is) found

-- both were read where the run was opened
opened-both : {A : Type 0} (read : Result Both Reply) (r : Result A Reply) → OpensRead read r
    → IsOk r → IsOk read
opened-both (Ok both) r h is = refl
opened-both (Err reply) (Ok x) h is = absurd h
opened-both (Err reply) (Err refusal) h is = cc is

-- as many slots
slots-both : {A : Type 0} (w : ProgramWord) (read : Result Both Reply) (r : Result A Reply)
    → OpensRead read r → start_slots w r ≡ both_slots w read
slots-both w (Ok both) (Ok x) h = refl
slots-both w (Ok both) (Err reply) h = ap (λ (s : ℕ). program_count w + graph_slots s) h
slots-both w (Err refusal) (Ok x) h = absurd h
slots-both w (Err refusal) (Err reply) h =
    ap (λ (r : Reply). program_count w + graph_slots r.status) h

pub Reads-begun : {A : Type 0} (words : List (List ℕ)) (w : ProgramWord) (graph : ℕ)
    (told new : Option Told) (i k : ℕ) (read : Result Both Reply)
    → Reads (both_files words w graph) IsOk (program_count w + 1) (both_slots w) told new i k
    (let r : Result (Result Both Reply) Stop = Ok read in r)
    → (r : Result A Reply) → OpensRead read r
    → Reads (both_files words w graph) IsOk (program_count w + 1) (start_slots w) told new i k
    (let x : Result (Result A Reply) Stop = Ok r in x)
Reads-begun words w graph told new i k read reads r h =
    Reads-as (both_files words w graph) (both_files words w graph) IsOk IsOk
    (program_count w + 1) (both_slots w) (start_slots w) told new i k
    (told_all (λ t. both_files words w graph (content t) ≡ both_files words w graph (content t))
    told (λ t. refl)) read r reads (opened-both read r h) (slots-both w read r h)
