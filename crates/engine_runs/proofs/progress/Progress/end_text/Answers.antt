use Rattle.std.proofs.Common.{rules, ◌≡◌, ◌∙◌, sym}
use Rattle.run_model.proofs.RowLemmas.{values_whole}
use Rattle.run_model.specs.Program.{lanes}
use Rattle.engine_runs.proofs.progress.Progress.end_text.Goals as goal

pub push_totals-requires-clause-vertices : goal.push_totals-requires-clause-vertices
push_totals-requires-clause-vertices c =
    let e = c.self.inside.engine in
    c.vertices.ensures ∙ sym (values_whole e.program e.now e.program.rounds).each_vertex

pub push_totals-requires-clause-width : goal.push_totals-requires-clause-width
push_totals-requires-clause-width c =
    let e = c.self.inside.engine in
    let wide : lanes e.program ≡ c.len-width.result = search rules in
    λ k d inside. (values_whole e.program e.now e.program.rounds).each_lane k d inside ∙ wide
