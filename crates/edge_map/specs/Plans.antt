-- What is ready before the first addition.
use Rattle.std.specs.Prelude.{◌≡◌, ℕ, ℤ, ◌<◌, ◌≤◌, false, length, drop, slice_index_or}
use Rattle.std.specs.List.{list_any}
use Rattle.bolt_base.specs.Graph.{Graph, IsBetween, IsGood}
use Rattle.vertex_expr.specs.Mentions.{mentions_weight}
use Rattle.vertex_expr.specs.declared.program.ProgramEntries.{ProgramEntries}
use Rattle.run_model.specs.Evaluable.{AreEvaluable}
use Rattle.run_model.specs.Program.{lanes, by_lane}
use Rattle.edge_map.specs.Additions.{source_at, was_env, now_env, given, works}
use Rattle.edge_map.specs.Agrees.{AgreesWith}
use Rattle.edge_map.specs.Walks.{from_source}
use Rattle.edge_map.specs.declared.tasks.Tasks.{Tasks}
use Rattle.edge_map.specs.declared.tasks.Sides.{Sides}
use Rattle.edge_map.specs.declared.tasks.Plan.{Plan}

-- the contributions of source k where no lane reads a weight, and where its added edges begin
pub record AreSides (p : ProgramEntries) (t : Tasks) (k : ℕ) (x : Sides) : Type 0 where
  pub was_wide : length x.was ≡ lanes p
  pub now_wide : length x.now ≡ lanes p
  pub was : list_any mentions_weight p.contribute ≡ false → 1 ≤ (source_at t k).old_degree → x.was
      ≡ by_lane p (given p (was_env p (source_at t k) p.limits.weight_lo))
  pub now : list_any mentions_weight p.contribute ≡ false → 1 ≤ (source_at t k).new_degree → x.now
      ≡ by_lane p (given p (now_env p (source_at t k) p.limits.weight_lo))
  pub added : drop x.first_added t.added ≡ from_source k t.added

-- each source's contributions can be evaluated where it has or had an edge
pub record AreFit (p : ProgramEntries) (t : Tasks) : Type 0 where
  pub was : (k : ℕ) (w : ℤ) → k < length t.sources → 1 ≤ (source_at t k).old_degree
      → IsBetween p.limits.weight_lo p.limits.weight_hi w
      → AreEvaluable p (was_env p (source_at t k) w) p.contribute
  pub now : (k : ℕ) (w : ℤ) → k < length t.sources → 1 ≤ (source_at t k).new_degree
      → IsBetween p.limits.weight_lo p.limits.weight_hi w
      → AreEvaluable p (now_env p (source_at t k) w) p.contribute

pub record IsReady (x : Plan) : Type 0 where
  pub fit : AreFit x.program.now x.tasks.now
  pub long : length x.sides.items ≡ length x.tasks.now.sources
  pub sides : (k : ℕ) (d : Sides) → k < length x.tasks.now.sources
      → AreSides x.program.now x.tasks.now k (slice_index_or x.sides.items k d)
  pub by_edge : x.by_edge ≡ list_any mentions_weight x.program.now.contribute

-- a plan for a graph: all items of tasks that agree with it
pub record IsPlan (g : Graph) (x : Plan) : Type 0 where
  pub ready : IsReady x
  pub good : IsGood x.program.now.limits g
  pub agrees : AgreesWith x.program.now g x.tasks.now
  pub all : x.works.items ≡ works x.tasks.now
