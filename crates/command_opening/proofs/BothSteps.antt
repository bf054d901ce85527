-- How the program and then the graph are read.
use Rattle.std.proofs.Common.{◌≡◌, ◌∙◌, ℕ, ◌+◌, List, [], ◌∷◌, ◌++◌, refl, sym, ap, subst, arith}
use Rattle.std.specs.Prelude.{Option, Some, None, Result, Ok, Err, IfErr, IfOk, IfSome, IsOk}
use Rattle.std.specs.Option.{option_map}
use Rattle.std.proofs.lemmas.List.{append-nil}
use Rattle.bolt_base.specs.Graph.{Graph}
use Rattle.bolt_io.specs.Told.{Told}
use Rattle.bolt_io.specs.declared.files.Slot.{Slot}
use Rattle.vertex_expr.specs.declared.program.ProgramEntries.{ProgramEntries}
use Rattle.batch_steps.specs.Graphs.{graph_file}
use Rattle.batch_steps.specs.declared.reply.Reply.{Reply}
use Rattle.cli_words.specs.Words.{word_at}
use Rattle.cli_words.specs.declared.command.ProgramWord.{ProgramWord}
use Rattle.command_files.specs.Files.{content}
use Rattle.command_files.specs.Reads.{Reads, with_slots}
use Rattle.command_files.specs.declared.stop.Stop.{Stop}
use Rattle.command_files.proofs.ReadSteps.{Reads-as, Reads-err, Reads-then, told_all, told_map}
use Rattle.command_course.specs.Course.{◌>>=◌}
use Rattle.command_course.specs.Openings.{graph_for}
use Rattle.command_course.specs.Programs.{accepted_program, program_files}
use Rattle.command_course.specs.Still.{both_files, graph_files, graph_slots, program_count}
use Rattle.command_opening.specs.Both.{Both, both_of, both_slots, paired}

module _ (words : List (List ℕ)) (w : ProgramWord) (graph : ℕ) (told : Option Told) (i : ℕ) where
  -- the reading of the program stopped
  pub both-stopped : (new : Option Told) (k : ℕ) (e : Stop)
      → Reads (program_files words w) IsOk (program_count w) (λ _. program_count w) told new i k
      (let r : Result (Result ProgramEntries Reply) Stop = Err e in r)
      → Reads (both_files words w graph) IsOk (program_count w + 1) (both_slots w) told new i k
      (let r : Result (Result Both Reply) Stop = Err e in r)
  both-stopped new k e first =
      Reads-err (program_files words w) (both_files words w graph) IsOk IsOk (program_count w) 1
      (λ _. program_count w) (λ _. 1) (both_slots w) told
      (λ c. graph_files (accepted_program words w c) (word_at words graph) c) new i k e first
      (told_all _ told (λ t. refl))

  -- the program was refused
  pub both-refused : (new : Option Told) (k : ℕ) (reply : Reply) → reply.status ≡ 3
      → IfSome told (λ t. accepted_program words w (content t)
      ≡ (let r : Result ProgramEntries Reply = Err reply in r))
      → Reads (program_files words w) IsOk (program_count w) (λ _. program_count w) told new i k
      (let r : Result (Result ProgramEntries Reply) Stop = Ok (Err reply) in r)
      → Reads (both_files words w graph) IsOk (program_count w + 1) (both_slots w) told new i k
      (let r : Result (Result Both Reply) Stop = Ok (Err reply) in r)
  both-refused new k reply own is first =
      let same : IfSome told (λ t. both_files words w graph (content t)
      ≡ program_files words w (content t)) =
      told_map (λ t. accepted_program words w (content t)
      ≡ (let r : Result ProgramEntries Reply = Err reply in r))
      (λ t. both_files words w graph (content t) ≡ program_files words w (content t)) told
      (λ t refused. ap (λ (r : Result ProgramEntries Reply). program_files words w (content t)
      ++ graph_files r (word_at words graph) (content t)) refused
      ∙ append-nil (program_files words w (content t))) is in
      let none : graph_slots reply.status ≡ 0 = ap graph_slots own in
      let h =
      Reads-as (program_files words w) (both_files words w graph) IsOk IsOk (program_count w)
      (λ _. program_count w) (both_slots w) told new i k same
      (let x : Result ProgramEntries Reply = Err reply in x)
      (let y : Result Both Reply = Err reply in y) first (λ d. d) (omega (arith, none)) in
      record {
        more = h.more;
        told = h.told;
        count = h.count;
        within = omega (arith, h.within);
        full = h.full;
        follows = h.follows;
      }

  -- the program was accepted, and the graph was read or not
  all_done : (p : ProgramEntries) (r : Result (Result Both Reply) Stop)
      → IfOk r (λ y. IsOk y → IsOk (let x : Result ProgramEntries Reply = Ok p in x))
  all_done p (Ok y) = λ d. refl
  all_done p (Err e) = tt

  one_slot : (y : Result Both Reply) → IfErr y (λ reply. reply.status ≡ 4)
      → both_slots w y ≡ program_count w + 1
  one_slot (Ok both) own = refl
  one_slot (Err reply) own = ap (λ (s : ℕ). program_count w + graph_slots s) own

  all_slots : (r : Result (Result Both Reply) Stop)
      → IfOk r (λ y. IfErr y (λ reply. reply.status ≡ 4))
      → IfOk r (λ y. both_slots w y ≡ program_count w + 1)
  all_slots (Ok y) own = one_slot y own
  all_slots (Err e) own = tt

  pub both-read : (mid new : Option Told) (j k : ℕ) (p : ProgramEntries) (name : List ℕ)
      (r : Result (Result Both Reply) Stop) → name ≡ word_at words graph
      → IfSome told (λ t. accepted_program words w (content t)
      ≡ (let r : Result ProgramEntries Reply = Ok p in r))
      → IfOk r (λ y. IfErr y (λ reply. reply.status ≡ 4))
      → Reads (program_files words w) IsOk (program_count w) (λ _. program_count w) told mid i j
      (let r : Result (Result ProgramEntries Reply) Stop = Ok (Ok p) in r)
      → Reads (λ c. graph_file p.limits name c ∷ []) IsOk 1 (λ _. 1) mid new j k r
      → Reads (both_files words w graph) IsOk (program_count w + 1) (both_slots w) told new i k r
  both-read mid new j k p name r named is own first later =
      let both : IfSome told (λ t. both_files words w graph (content t)
      ≡ program_files words w (content t) ++ graph_file p.limits name (content t) ∷ []) =
      told_map (λ t. accepted_program words w (content t)
      ≡ (let r : Result ProgramEntries Reply = Ok p in r))
      (λ t. both_files words w graph (content t)
      ≡ program_files words w (content t) ++ graph_file p.limits name (content t) ∷ []) told
      (λ t accepted. ap (λ (r : Result ProgramEntries Reply). program_files words w (content t)
      ++ graph_files r (word_at words graph) (content t)) accepted
      ∙ ap (λ (n : List ℕ). program_files words w (content t)
      ++ graph_file p.limits n (content t) ∷ []) (sym named)) is in
      Reads-then (program_files words w) (both_files words w graph) IsOk IsOk (program_count w) 1
      (λ _. program_count w) (λ _. 1) (both_slots w) told
      (λ c. graph_file p.limits name c ∷ []) mid new i j k
      (let x : Result ProgramEntries Reply = Ok p in x) r first (all_done p r) (all_slots r own)
      later both

  -- what was found
  pub both-found : (mid : Option Told) (more : List Slot) (p : ProgramEntries) (name : List ℕ)
      (r : Result (Result Both Reply) Stop) → mid ≡ option_map (with_slots more) told
      → name ≡ word_at words graph
      → IfSome told (λ t. accepted_program words w (content t)
      ≡ (let r : Result ProgramEntries Reply = Ok p in r))
      → IfOk r (λ y. IfSome mid (λ t. paired p (graph_for p (content t name)) ≡ y))
      → IfOk r (λ y. IfSome told (λ t. both_of words w graph (content t) ≡ y))
  both-found mid more p name (Err e) moved named is found = tt
  both-found mid more p name (Ok y) moved named is found =
      each told is (subst (λ (o : Option Told). IfSome o
      (λ t. paired p (graph_for p (content t name)) ≡ y)) moved found)
    where
      each : (o : Option Told) → IfSome o (λ t. accepted_program words w (content t)
          ≡ (let r : Result ProgramEntries Reply = Ok p in r))
          → IfSome (option_map (with_slots more) o)
          (λ t. paired p (graph_for p (content t name)) ≡ y)
          → IfSome o (λ t. both_of words w graph (content t) ≡ y)
      each None is found = tt
      each (Some t) is found =
          ap (λ (r : Result ProgramEntries Reply).
          (r >>= λ p. paired p (graph_for p (content t (word_at words graph))))) is
          ∙ ap (λ (n : List ℕ). paired p (graph_for p (content t n))) (sym named) ∙ found
