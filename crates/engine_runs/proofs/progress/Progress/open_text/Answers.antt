use Rattle.std.proofs.Common.{◌≡◌, ◌∙◌, ◌++◌, ap, sym, List, ℕ}
use Rattle.report_text.specs.Lines.{open_line}
use Rattle.report_text.specs.Runs.{Run, if_shown, open_text}
use Rattle.report_text.specs.Values.{value_lines}
use Rattle.run_model.specs.Rows.{answer}
use Rattle.run_model.specs.Visits.{opening_visits}
use Rattle.engine_runs.proofs.progress.Progress.open_text.Goals as goal

pub returns : goal.returns
returns c =
    let e = c.self.inside.engine in
    let shown = if_shown c.self.inside.shows (value_lines (answer e.program e.now)) in
    let read : c.args.visits ≡ opening_visits e.program e.now =
    c.requires ∙ sym (ap (λ (r : Run). opening_visits r.program r.graph) c.self.view_is) in
    c.in_ok-push_shown.ensures
    ∙ ap (λ (l : List ℕ). l ++ shown) c.in_ok-push_open.ensures
    ∙ ap (λ (l : List ℕ). (l ++ open_line c.vertices.result c.edges.result c.kept.result
    c.args.visits) ++ shown) c.new-text.ensures
    ∙ (λ i. open_line (c.vertices.ensures i) (c.edges.ensures i) (c.kept.ensures i)
    (read i) ++ shown)
    ∙ ap open_text c.self.view_is
