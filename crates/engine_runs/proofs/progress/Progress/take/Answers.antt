use Rattle.std.proofs.Common.{rules, ◌≡◌, ◌∙◌, ap, sym, Option, None}
use Rattle.bolt_base.specs.Edits.{after}
use Rattle.graph_text.specs.declared.bad_line.BadLine.{BadLine}
use Rattle.report_text.specs.Runs.{Run, batch_text, batch_text_by, next_number}
use Rattle.engine_runs.specs.Making.{IsRound, judged}
use Rattle.engine_runs.specs.State.{run_of}
use Rattle.engine_runs.proofs.Rounds.{round_text_is}
use Rattle.engine_runs.proofs.progress.Progress.take.Goals as goal

pub returns-in_ok-round_text-in-Ok-clause-text : goal.returns-in_ok-round_text-in-Ok-clause-text
returns-in_ok-round_text-in-Ok-clause-text g c =
    let s = c.self.inside.engine in
    let b = c.args.batch.now in
    let r = run_of s c.self.inside.shows c.self.inside.refused in
    let made : IsRound s (after s.now b.edits) c.in-Ok.round = search rules in
    let fine : judged s b ≡ None = search rules in
    let number : c.next_number-number.result ≡ next_number r =
    c.next_number-number.ensures ∙ sym (ap next_number c.self.view_is) in
    c.in_ok-round_text-in-Ok.ensures
    ∙ round_text_is s c.self.inside.shows c.self.inside.refused c.next_number-number.result
    (after s.now b.edits) c.in-Ok.round number made
    ∙ ap (λ (o : Option BadLine). batch_text_by r b o) (sym fine)
    ∙ ap (λ (r : Run). batch_text r b) c.self.view_is
