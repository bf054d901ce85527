-- Replies to batches that are at hand.
use Rattle.std.specs.Prelude.{List, Ok, Err, map}
use Rattle.bolt_base.specs.Graph.{Graph}
use Rattle.bolt_base.specs.declared.edge.Edit.{Edit}
use Rattle.graph_text.specs.declared.batch_text.BatchText.{BatchText}
use Rattle.batch_steps.specs.Steps.{prepend}
use Rattle.batch_steps.specs.declared.reply.Reply.{Reply}
use Rattle.bolt_ship.specs.Texts.{rank_text}
use Rattle.cli_words.specs.declared.command.RunOptions.{RunOptions}
use Rattle.program_files.specs.Judged.{judged}
use Rattle.command_course.specs.Course.{Course, replies, ◌>>=◌}
use Rattle.command_course.specs.Openings.{run_for}
use Rattle.command_course.specs.Programs.{or_refused}
use Rattle.command_course.specs.Still.{made_batch, run_reply}

-- the reply at once, or the opening text and then the reply to some batches
abbrev pub answered : List BatchText → Course → Reply
answered batches (Err reply) = reply
answered batches (Ok o) = prepend o.text (o.rest batches)

-- the run of the shipped program `rank` on a graph and some batches of edits
abbrev pub rank_run : RunOptions → Graph → List (List Edit) → Course
rank_run options g batches =
    or_refused (judged rank_text) >>= λ p. run_for p options g >>= λ r.
    replies (run_reply (map made_batch batches) r)
