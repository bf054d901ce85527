-- What is said of a program once it is judged.
use Rattle.std.specs.Prelude.{Result}
use Rattle.batch_steps.specs.declared.reply.Reply.{Reply}
use Rattle.vertex_expr.specs.declared.program.ProgramEntries.{ProgramEntries}
use Rattle.command_course.specs.Course.{Course, ◌>>=◌, replies, reply_with}
use Rattle.report_text.specs.Programs.{check_text}

-- its lines, or the reply that refuses it
abbrev pub checked : Result ProgramEntries Reply → Course
checked read = read >>= λ p. replies (reply_with 0 (check_text p))
