-- The run of the shipped program `rank` on what is made.
use Rattle.std.proofs.Common.{◌≡◌, ◌∙◌, ◌==◌, ◌⊎◌, ℕ, Bool, true, false, List, [], ◌∷◌, map, cond}
use Rattle.std.proofs.Common.{inl, inr}
use Rattle.std.proofs.Common.{refl, sym, ap, subst, Result, Ok, Err, IfOk}
use Rattle.bolt_base.specs.Graph.{Graph}
use Rattle.bolt_base.specs.declared.edge.Edit.{Edit}
use Rattle.vertex_expr.specs.declared.program.ProgramEntries.{ProgramEntries}
use Rattle.graph_text.specs.declared.batch_text.BatchText.{BatchText}
use Rattle.batch_steps.specs.Steps.{IsMade, rest_reply}
use Rattle.batch_steps.specs.declared.reply.Reply.{Reply}
use Rattle.bolt_ship.specs.Texts.{rank_text}
use Rattle.cli_words.specs.declared.command.RunOptions.{RunOptions}
use Rattle.program_files.specs.Judged.{judged}
use Rattle.program_files.specs.declared.refusal.ProgramRefusal.{ProgramRefusal}
use Rattle.program_files.specs.declared.refusal.ProgramRefusal.TheVariants.{Text, Range}
use Rattle.report_text.specs.Runs.{Run, run_steps}
use Rattle.command_course.specs.Course.{Course, replies, ◌>>=◌}
use Rattle.command_course.specs.Openings.{run_for}
use Rattle.command_course.specs.Programs.{or_refused}
use Rattle.command_course.specs.Still.{made_batch, run_opening, run_reply}
use Rattle.run_opening.specs.OnGraph.{opening_on}
use Rattle.made_runs.specs.Answered.{answered, rank_run}

-- batches that are at hand are replied to at once
answered_run : (batches : List BatchText) (stream : List ℕ) (x : Result Run Reply)
    → x >>= (λ r. replies (run_reply batches r))
    ≡ replies (answered batches (x >>= run_opening stream))
answered_run batches stream (Ok r) = refl
answered_run batches stream (Err reply) = refl

-- how the run goes on from the judged program
abbrev from_program : RunOptions → Graph → List (List Edit) → Result ProgramEntries Reply → Course
from_program options g batches x =
    x >>= λ p. run_for p options g >>= λ r. replies (run_reply (map made_batch batches) r)

pub rank_refused : (options : RunOptions) (g : Graph) (batches : List (List Edit))
    (refusal : Reply) → or_refused (judged rank_text) ≡ Err refusal
    → rank_run options g batches ≡ Err refusal
rank_refused options g batches refusal is = ap (from_program options g batches) is

pub rank_answers : (options : RunOptions) (g : Graph) (batches : List (List Edit))
    (p : ProgramEntries) (course : Course) (reply : Reply) → or_refused (judged rank_text) ≡ Ok p
    → course ≡ opening_on p options g [] → reply ≡ answered (map made_batch batches) course
    → rank_run options g batches ≡ Err reply
rank_answers options g batches p course reply is opens replied =
    ap (from_program options g batches) is
    ∙ answered_run (map made_batch batches) [] (run_for p options g)
    ∙ ap (λ (c : Course). replies (answered (map made_batch batches) c)) (sym opens)
    ∙ ap replies (sym replied)

-- what follows of a result that is there
pub if_ok : {A E : Type 0} (P Q : A → Type 0) → ((x : A) → P x → Q x) → (r : Result A E)
    → IfOk r P → IfOk r Q
if_ok P Q f (Ok x) h = f x h
if_ok P Q f (Err e) h = tt

-- ---- the status
abbrev pub IsRunStatus : ℕ → Type 0
IsRunStatus status = IsMade status ⊎ (status ≡ 3) ⊎ (status ≡ 4)

-- a course that replies at once has such a status
abbrev Decided : Course → Type 0
Decided (Ok opening) = Unit {0}
Decided (Err reply) = IsRunStatus reply.status

end_made : (b : Bool) → IsMade (cond b 0 1)
end_made true = inl refl
end_made false = inr refl

rest_made : (batches : List BatchText) (r : Run) → IsMade (rest_reply run_steps r batches).status
rest_made [] r = end_made (r.refused == 0)
rest_made (b ∷ batches) r = rest_made batches (run_steps.next r b)

run_decided : (batches : List BatchText) (refusal : Reply) (r : Run) → refusal.status ≡ 4
    → (many : Bool) → Decided ((let x : Result Run Reply = cond many (Err refusal) (Ok r) in x)
    >>= (λ r. replies (run_reply batches r)))
run_decided batches refusal r four true = inr (inr four)
run_decided batches refusal r four false = inl (rest_made batches r)

program_decided : (f : ProgramEntries → Course) → ((p : ProgramEntries) → Decided (f p))
    → (judged : Result ProgramEntries ProgramRefusal) → Decided (or_refused judged >>= f)
program_decided f each (Ok p) = each p
program_decided f each (Err (Text e)) = inr (inl refl)
program_decided f each (Err (Range r)) = inr (inl refl)

pub rank_decided : (options : RunOptions) (g : Graph) (batches : List (List Edit)) (reply : Reply)
    → rank_run options g batches ≡ Err reply → IsRunStatus reply.status
rank_decided options g batches reply is =
    subst Decided is (program_decided
    (λ p. run_for p options g >>= λ r. replies (run_reply (map made_batch batches) r))
    (λ p. run_decided (map made_batch batches) _ _ refl _) (judged rank_text))
