-- The engine of a run that was opened.
use Rattle.std.proofs.Common.{◌≡◌, ◌∙◌, ℕ, false, List, sym, ap}
use Rattle.bolt_base.specs.Graph.{Graph, vertices}
use Rattle.bolt_base.specs.declared.answer.Choice.{Choice}
use Rattle.engine_runs.specs.State.{IsUnderWay, run_of}
use Rattle.report_text.specs.Runs.{Run, open_text, opened}
use Rattle.round_engine.specs.State.{EngineState}
use Rattle.vertex_expr.specs.declared.program.ProgramEntries.{ProgramEntries}
use Rattle.live_opening.specs.Begun.{run_before, IsBegun}

pub engine-begun : (p : ProgramEntries) (choice : Choice) (g : Graph) (run : Run) (text : List ℕ)
    (e : EngineState) → run ≡ opened p choice false g → text ≡ open_text (opened p choice false g)
    → IsUnderWay e → run ≡ run_of e run.shows run.refused
    → IsBegun (record { text = text; engine = e })
engine-begun p choice g run text e is said ready same =
    let whole : run_of e run.shows run.refused ≡ opened p choice false g = sym same ∙ is in
    let program : e.program ≡ p = ap (λ (r : Run). r.program) whole in
    let chosen : e.choice ≡ choice = ap (λ (r : Run). r.choice) whole in
    let graph : e.now ≡ g = ap (λ (r : Run). r.graph) whole in
    let before : run_before e ≡ opened p choice false g =
    ap (λ (q : ProgramEntries). opened q e.choice false e.now) program
    ∙ ap (λ (c : Choice). opened p c false e.now) chosen
    ∙ ap (λ (h : Graph). opened p choice false h) graph in
    record {
      engine = record {
        ready = ready;
        none_made = ap (λ (r : Run). r.accepted) whole;
        began = ap (λ (r : Run). r.began) whole ∙ ap vertices (sym graph);
      };
      text = said ∙ ap open_text (sym before);
    }
