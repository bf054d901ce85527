-- The additions of an iteration past the cut.
use Rattle.std.proofs.Common.{◌≡◌, ℕ, ◌++◌, List, sym, ap, ◌∙◌, subst}
use Rattle.bolt_base.specs.Graph.{Graph}
use Rattle.agg_words.specs.Known.{IsClear}
use Rattle.agg_words.specs.View.{View}
use Rattle.agg_words.specs.declared.layout.Layout.{Layout}
use Rattle.vertex_expr.specs.declared.program.ProgramEntries.{ProgramEntries}
use Rattle.run_model.specs.Additions.{tail_adds}
use Rattle.run_model.specs.Steps.{Step, tail_step}
use Rattle.run_model.specs.Visits.{items_visits, tail_sum_visits}
use Rattle.run_model.proofs.Refinement.{is_tail}
use Rattle.run_model.proofs.VisitLemmas.{visits_of_tail_items}
use Rattle.edge_map.specs.Additions.{ends_of_gifts, task_adds, task_gifts, task_visits}
use Rattle.edge_map.specs.Agrees.{AgreesWith}
use Rattle.edge_map.specs.Ready.{HasRoom}
use Rattle.edge_map.specs.Targets.{AreTargets}
use Rattle.edge_map.specs.TaskLaws.{AreTasksOf, IsGoodStep}
use Rattle.edge_map.specs.declared.tasks.Tasks.{Tasks}
use Rattle.edge_map.proofs.SameTasks.{adds_same, visits_same}
use Rattle.edge_map.proofs.TasksAgree.{tail_steps_good, tasks_agree}
use Rattle.sum_steps.specs.Laws.{IsSpread}
use Rattle.sum_steps.proofs.Spreading.{spread_leaves}
use Rattle.hybrid_tail.specs.TailStep.{CanGoOn}
use Rattle.hybrid_tail.specs.TailTasks.{tail_tasks}
use Rattle.hybrid_tail.proofs.TaskLemmas.{are_tasks}

module _ (p : ProgramEntries) (h : Graph) (i : ℕ) (on : CanGoOn p h i) (t : Tasks)
    (is : t ≡ tail_tasks p h i) where
  abbrev s : Step
  s = tail_step p h i

  are : AreTasksOf p s t
  are = subst (AreTasksOf p s) (sym is) (are_tasks p h i)

  good : IsGoodStep p s
  good = tail_steps_good p h on.safe on.good i

  pub agree : AgreesWith p h t
  agree = tasks_agree p s t are good

  pub reads : task_visits t ≡ tail_sum_visits p h i
  reads = visits_same p s t are ∙ ap (items_visits h) (is_tail p h i).work
      ∙ visits_of_tail_items p h i

  pub adds : task_adds p h t ≡ tail_adds p h i
  adds = adds_same p s t are good.old_good ∙ (is_tail p h i).amounts

  pub spread_is : (k : Layout) → HasRoom p h k.words k.bits → (old new : View) (us : List ℕ)
      → IsClear k old → new.units ≡ old.units → new.amounts ≡ old.amounts ++ task_adds p h t
      → AreTargets (ends_of_gifts (task_gifts p h t)) us new → IsSpread p s k us new
  spread_is k room old new us clear units grown named =
      spread_leaves p s t k good are room old new us clear units grown named
