use Rattle.std.proofs.Common.{◌≡◌, map, drop}
use Rattle.batch_steps.specs.Steps.{prepend, rest_reply}
use Rattle.command_course.specs.Still.{made_batch}
use Rattle.engine_stream.specs.Taken.{taken}
use Rattle.report_text.specs.Runs.{run_steps}
use Rattle.made_runs.proofs.run.take_batches.Given as goal

abbrev pub invariant-loop-edits : goal.invariant-loop-edits
invariant-loop-edits g l = record {
  number : taken l.run ≡ l.edits-index;
  reply : prepend l.out
      (rest_reply run_steps l.run (map made_batch (drop l.edits-index l.batches)))
      ≡ prepend l.initial.out
      (rest_reply run_steps l.initial.run (map made_batch l.batches));
}
