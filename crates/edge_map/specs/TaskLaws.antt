-- Laws of the tasks of an iteration.
use Rattle.std.specs.Prelude.{List, ◌≡◌, ◌↔◌, ℕ, ◌<◌, ◌≤◌, true, map}
use Rattle.std.specs.List.{All, flat_map}
use Rattle.bolt_base.specs.Change.{removed, added, stayed, attr_at}
use Rattle.bolt_base.specs.Graph.{Graph, IsGood, vertices, outdeg}
use Rattle.agg_words.specs.View.{View, times}
use Rattle.vertex_expr.specs.ProgramBounds.{lane_spans}
use Rattle.vertex_expr.specs.Span.{AreIn}
use Rattle.vertex_expr.specs.declared.program.ProgramEntries.{ProgramEntries}
use Rattle.range_check.specs.Breaks.{IsAccepted}
use Rattle.run_model.specs.Additions.{gifts_of, items, adds_of, was, now}
use Rattle.run_model.specs.Rows.{at}
use Rattle.run_model.specs.Steps.{Step, step, tail_step, dirty, is_target, targets}
use Rattle.run_model.specs.Visits.{items_visits}
use Rattle.edge_map.specs.Additions.{source_at, dirty_places, task_gifts, task_adds, task_visits}
use Rattle.edge_map.specs.Additions.{ends_of_gifts}
use Rattle.edge_map.specs.Agrees.{SourcesRise, IsPlaced, AgreesWith}
use Rattle.edge_map.specs.Targets.{AreTargets}
use Rattle.edge_map.specs.declared.tasks.Source.{Source}
use Rattle.edge_map.specs.declared.tasks.Tasks.{Tasks}

-- an iteration from a good graph to a good one with no fewer vertices, whose values lie in range
pub record IsGoodStep (p : ProgramEntries) (s : Step) : Type 0 where
  pub old_good : IsGood p.limits s.old_graph
  pub new_good : IsGood p.limits s.new_graph
  pub grown : vertices s.old_graph ≤ vertices s.new_graph
  pub old_values : (v : ℕ) → v < vertices s.old_graph → AreIn (lane_spans p.ranges) (at s.old_row v)
  pub new_values : (v : ℕ) → v < vertices s.new_graph → AreIn (lane_spans p.ranges) (at s.new_row v)

-- what a source has on the new graph and on the old one; a new vertex has its new value and
-- attribute on both
pub record IsSide (s : Step) (x : Source) : Type 0 where
  pub there : x.vertex < vertices s.new_graph
  pub new : x.new ≡ at s.new_row x.vertex
  pub new_degree : x.new_degree ≡ outdeg s.new_graph x.vertex
  pub new_attr : x.new_attr ≡ attr_at s.new_graph x.vertex
  pub old : x.vertex < vertices s.old_graph → x.old ≡ at s.old_row x.vertex
  pub old_degree : x.old_degree ≡ outdeg s.old_graph x.vertex
  pub old_attr : x.vertex < vertices s.old_graph → x.old_attr ≡ attr_at s.old_graph x.vertex
  pub no_old : vertices s.old_graph ≤ x.vertex → x.old ≡ x.new
  pub no_attr : vertices s.old_graph ≤ x.vertex → x.old_attr ≡ x.new_attr

-- tasks are those of an iteration
pub record AreTasksOf (p : ProgramEntries) (s : Step) (t : Tasks) : Type 0 where
  pub sources_rise : SourcesRise t.sources
  pub sides : All (IsSide s) t.sources
  pub removed : map (λ x. x.edge) t.removed ≡ removed s.old_graph s.new_graph
  pub added : map (λ x. x.edge) t.added ≡ added s.old_graph s.new_graph
  pub dirty : map (λ k. (source_at t k).vertex) (dirty_places t) ≡ dirty p s
  pub removed_placed : All (IsPlaced t) t.removed
  pub added_placed : All (IsPlaced t) t.added

-- then they agree with the new graph
abbrev pub TasksAgree : Type 0
TasksAgree = (p : ProgramEntries) (s : Step) (t : Tasks) → IsGoodStep p s → AreTasksOf p s t
    → AgreesWith p s.new_graph t

-- what they give is what the items of the iteration give
abbrev pub TasksGiveTheSame : Type 0
TasksGiveTheSame = (p : ProgramEntries) (s : Step) (t : Tasks) → IsGoodStep p s → AreTasksOf p s t
    → task_gifts p s.new_graph t
    ≡ flat_map (gifts_of (stayed s.old_graph s.new_graph) (was p s) (now p s)) (items p s)

-- so their additions are those of the iteration
abbrev pub TasksAddTheSame : Type 0
TasksAddTheSame = (p : ProgramEntries) (s : Step) (t : Tasks) → IsGoodStep p s → AreTasksOf p s t
    → task_adds p s.new_graph t ≡ adds_of p s (items p s)

-- and they read its visits
abbrev pub TasksReadVisits : Type 0
TasksReadVisits = (p : ProgramEntries) (s : Step) (t : Tasks) → AreTasksOf p s t
    → task_visits t ≡ items_visits s.new_graph (items p s)

-- and their ends are its targets
abbrev pub EndsAreTargets : Type 0
EndsAreTargets = (p : ProgramEntries) (s : Step) (t : Tasks) → IsGoodStep p s → AreTasksOf p s t
    → (v : ℕ)
    → (0 < times v (ends_of_gifts (task_gifts p s.new_graph t))) ↔ (is_target p s v ≡ true)

-- so what is answered is the list of targets
abbrev pub TargetsAreListed : Type 0
TargetsAreListed = (p : ProgramEntries) (s : Step) (t : Tasks) → IsGoodStep p s → AreTasksOf p s t
    → (us : List ℕ) (v : View)
    → AreTargets (ends_of_gifts (task_gifts p s.new_graph t)) us v → us ≡ targets p s

-- ---- the iterations of an accepted program
abbrev pub StepsAreGood : Type 0
StepsAreGood = (p : ProgramEntries) (g h : Graph) → IsAccepted p
    → IsGood p.limits g → IsGood p.limits h → vertices g ≤ vertices h
    → (i : ℕ) → IsGoodStep p (step p g h i)

abbrev pub TailStepsAreGood : Type 0
TailStepsAreGood = (p : ProgramEntries) (h : Graph) → IsAccepted p → IsGood p.limits h
    → (i : ℕ) → IsGoodStep p (tail_step p h i)
