-- What an engine stands for.
use Rattle.std.specs.Prelude.{ℕ, Bool, Option, refl}
use Rattle.std.specs.Coded.{Coded, code_by, coded×, coded_ℕ, coded_bool, coded_option}
use Rattle.bolt_base.specs.Graph.{Graph}
use Rattle.bolt_base.specs.GraphCode.{coded_graph}
use Rattle.bolt_base.specs.declared.answer.Choice.{Choice}
use Rattle.vertex_expr.specs.declared.program.ProgramEntries.{ProgramEntries}
use Rattle.vertex_expr.specs.contracts.program.ProgramEntries.{the_row}

-- a program, the number of vertices of the graph that was opened, how the program is run, the graph
-- whose rows and answer are read, the graph that a commit would leave, where a batch is prepared,
-- and how many batches were committed
pub record EngineState : Type 0 where
  pub program : ProgramEntries
  pub opened : ℕ
  pub choice : Choice
  pub now : Graph
  pub next : Option Graph
  pub number : ℕ

-- how the logic stores it
abbrev pub coded_choice : Coded Choice
coded_choice = code_by (ℕ × (Bool × ℕ)) (coded× coded_ℕ (coded× coded_bool coded_ℕ))
    (λ c. (c.cut, (c.vertical, c.workers)))
    (λ q. record { cut = q.0; vertical = q.1.0; workers = q.1.1 }) (λ _. refl)

abbrev pub coded_engine : Coded EngineState
coded_engine =
    code_by (ProgramEntries × (ℕ × (Choice × (Graph × (Option Graph × ℕ)))))
    (coded× the_row.coded (coded× coded_ℕ (coded× coded_choice
    (coded× coded_graph (coded× (coded_option coded_graph) coded_ℕ)))))
    (λ s. (s.program, (s.opened, (s.choice, (s.now, (s.next, s.number))))))
    (λ q. record {
      program = q.0;
      opened = q.1.0;
      choice = q.1.1.0;
      now = q.1.1.1.0;
      next = q.1.1.1.1.0;
      number = q.1.1.1.1.1;
    }) (λ _. refl)
