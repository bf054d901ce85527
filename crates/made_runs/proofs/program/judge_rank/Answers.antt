use Rattle.std.proofs.Common.{◌≡◌, ◌∙◌, Result, IfOk, sym, ap, subst}
use Rattle.vertex_expr.specs.declared.program.ProgramEntries.{ProgramEntries}
use Rattle.batch_steps.specs.declared.reply.Reply.{Reply}
use Rattle.bolt_ship.specs.Texts.{rank_text}
use Rattle.program_files.specs.Judged.{judged}
use Rattle.command_course.specs.Programs.{or_refused}
use Rattle.made_runs.specs.Rank.{rank_limits}
use Rattle.made_runs.proofs.RankLimits.{rank_limits_kept}
use Rattle.made_runs.proofs.program.judge_rank.Goals as goal

pub returns-clause-limits : goal.returns-clause-limits
returns-clause-limits c =
    let told : c.in_ok-judged.judged ≡ judged rank_text =
    c.in_ok-judged.ensures.judged ∙ ap judged c.rank_text.ensures in
    subst (λ (r : Result ProgramEntries Reply). IfOk r (λ p. p.limits ≡ rank_limits))
    (ap or_refused (sym told) ∙ sym c.in_ok-program_or_reply.ensures.reply) rank_limits_kept
