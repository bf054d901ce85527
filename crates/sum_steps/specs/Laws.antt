-- Laws of an iteration of a sum program.
use Rattle.std.specs.Prelude.{◌≡◌, ℕ, ℤ, ◌+◌, ◌<◌, true, false, List, ◌++◌, take, length, All}
use Rattle.std.specs.Prelude.{slice_index_or}
use Rattle.bolt_base.specs.Residue.{Amount}
use Rattle.agg_words.specs.Known.{IsClear}
use Rattle.agg_words.specs.View.{View, times}
use Rattle.agg_words.specs.declared.layout.Layout.{Layout}
use Rattle.vertex_expr.specs.declared.program.Combine.TheVariants.{Sum}
use Rattle.vertex_expr.specs.declared.program.ProgramEntries.{ProgramEntries}
use Rattle.run_model.specs.Additions.{adds_of, items}
use Rattle.run_model.specs.Refined.{with_words, agg_again}
use Rattle.run_model.specs.Steps.{Step, is_target, targets}
use Rattle.edge_map.specs.Additions.{task_gifts, task_adds, ends_of_gifts}
use Rattle.edge_map.specs.Ready.{HasRoom}
use Rattle.edge_map.specs.Targets.{AreTargets}
use Rattle.edge_map.specs.TaskLaws.{IsGoodStep, AreTasksOf}
use Rattle.edge_map.specs.declared.tasks.Tasks.{Tasks}
use Rattle.sum_steps.specs.Taken.{AreLeft, HasWords, takes_at, takes_of}

-- the additions of an iteration were made: these are its targets, the words hold its additions for
-- them and nothing else, and they are all marks
pub record IsSpread (p : ProgramEntries) (s : Step) (k : Layout) (us : List ℕ) (v : View)
    : Type 0 where
  pub targets : us ≡ targets p s
  pub left : AreLeft p k (adds_of p s (items p s)) us v
  pub words : All (HasWords p k) us
  pub bits : All (λ u. u < k.bits) us
  pub marks : All (λ bit. 0 < times bit us) v.marks

abbrev pub SpreadLeavesTargets : Type 0
SpreadLeavesTargets = (p : ProgramEntries) (s : Step) (t : Tasks) (k : Layout)
    → IsGoodStep p s → AreTasksOf p s t → HasRoom p s.new_graph k.words k.bits
    → (old new : View) (us : List ℕ) → IsClear k old → new.units ≡ old.units
    → new.amounts ≡ old.amounts ++ task_adds p s.new_graph t
    → AreTargets (ends_of_gifts (task_gifts p s.new_graph t)) us new → IsSpread p s k us new

-- one target more
abbrev pub TakesGrow : Type 0
TakesGrow = (p : ProgramEntries) (amounts : List Amount) (us : List ℕ) (i d : ℕ) → i < length us
    → takes_of p amounts (take (i + 1) us)
    ≡ takes_of p amounts (take i us) ++ takes_at p amounts (slice_index_or us i d)

abbrev pub TakenSumsAreNew : Type 0
TakenSumsAreNew = (p : ProgramEntries) (s : Step) → p.combine ≡ Sum → (old : List ℤ) (v : ℕ)
    → is_target p s v ≡ true → with_words p (adds_of p s (items p s)) old v ≡ agg_again p s old v

abbrev pub OthersKeep : Type 0
OthersKeep = (p : ProgramEntries) (s : Step) (old : List ℤ) (v : ℕ) → is_target p s v ≡ false
    → agg_again p s old v ≡ old
