-- What the opening of a run on a graph comes to.
use Rattle.std.specs.Prelude.{◌≡◌, ℕ, List}
use Rattle.batch_run.specs.declared.opened.Opened.{Opened}
use Rattle.batch_run.specs.declared.opened.Opened.TheVariants.{Refused, Runs}
use Rattle.bolt_base.specs.Graph.{Graph}
use Rattle.vertex_expr.specs.declared.program.ProgramEntries.{ProgramEntries}
use Rattle.cli_words.specs.declared.command.RunOptions.{RunOptions}
use Rattle.command_course.specs.Course.{Course, ◌>>=◌}
use Rattle.command_course.specs.Openings.{run_for}
use Rattle.command_course.specs.Still.{run_opening}

-- the run before its first batch, which goes over a stream of that name, or its refusal
abbrev pub opening_on : ProgramEntries → RunOptions → Graph → List ℕ → Course
opening_on p options g stream = run_for p options g >>= run_opening stream

-- where it was refused, it was with that status
abbrev pub RefusesWith : {T : Type 0} → ℕ → Opened T → Type 0
RefusesWith status (Refused refusal) = refusal.status ≡ status
RefusesWith status (Runs text run) = Unit {0}
