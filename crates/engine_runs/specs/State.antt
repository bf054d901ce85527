-- What a run over an engine stands for.
use Rattle.std.specs.Prelude.{◌≡◌, ℕ, Bool, None, refl}
use Rattle.std.specs.Coded.{Coded, code_by, coded×, coded_ℕ, coded_bool}
use Rattle.bolt_base.specs.Graph.{Graph}
use Rattle.bolt_base.specs.GraphCode.{coded_graph}
use Rattle.bolt_base.specs.declared.answer.Choice.{Choice}
use Rattle.vertex_expr.specs.declared.program.ProgramEntries.{ProgramEntries}
use Rattle.vertex_expr.specs.contracts.program.ProgramEntries.{the_row}
use Rattle.round_engine.specs.EngineOf.{IsChoice}
use Rattle.round_engine.specs.State.{EngineState, coded_choice}
use Rattle.report_text.specs.Runs.{Run}

-- the run of an engine, which counts the accepted batches itself
abbrev pub run_of : EngineState → Bool → ℕ → Run
run_of s shows refused = record {
  program = s.program;
  choice = s.choice;
  shows = shows;
  began = s.opened;
  graph = s.now;
  accepted = s.number;
  refused = refused;
}

-- no batch is out, and the program can be run so
pub record IsUnderWay (s : EngineState) : Type 0 where
  pub chosen : IsChoice s.program s.choice
  pub idle : s.next ≡ None

-- how the logic stores a run
abbrev pub coded_run : Coded Run
coded_run =
    code_by (ProgramEntries × (Choice × (Bool × (ℕ × (Graph × (ℕ × ℕ))))))
    (coded× the_row.coded (coded× coded_choice (coded× coded_bool (coded× coded_ℕ
    (coded× coded_graph (coded× coded_ℕ coded_ℕ))))))
    (λ r. (r.program, (r.choice, (r.shows, (r.began, (r.graph, (r.accepted, r.refused)))))))
    (λ q. record {
      program = q.0;
      choice = q.1.0;
      shows = q.1.1.0;
      began = q.1.1.1.0;
      graph = q.1.1.1.1.0;
      accepted = q.1.1.1.1.1.0;
      refused = q.1.1.1.1.1.1;
    }) (λ _. refl)
