-- What a refinement of sums adds to the words.
use Rattle.std.specs.Prelude.{ℕ, ◌<◌, ◌≤◌, List, All, drop, length}
use Rattle.std.specs.List.{flat_map, range_with_len}
use Rattle.bolt_base.specs.Graph.{Graph}
use Rattle.bolt_base.specs.Residue.{Amount}
use Rattle.agg_words.specs.View.{View, times}
use Rattle.agg_words.specs.declared.layout.Layout.{Layout}
use Rattle.vertex_expr.specs.declared.program.ProgramEntries.{ProgramEntries}
use Rattle.run_model.specs.Additions.{adds_of, items}
use Rattle.run_model.specs.Steps.{Step, step}
use Rattle.sum_steps.specs.Taken.{AreLeft, iteration_amounts}

-- for each of the iterations 1 to k: its additions, and then for each target, rising, lane by lane,
-- minus what the word held
abbrev pub refine_amounts : ProgramEntries → Graph → Graph → ℕ → List Amount
refine_amounts p g h k = flat_map (λ i. iteration_amounts p (step p g h i)) (range_with_len 1 k)

-- the words hold the additions of an iteration for the targets from place `next` on and nothing
-- else, and all targets are marked and nothing else is
pub record AreStillLeft (p : ProgramEntries) (s : Step) (k : Layout) (us : List ℕ) (next : ℕ)
    (v : View) : Type 0 where
  pub inside : next ≤ length us
  pub left : AreLeft p k (adds_of p s (items p s)) (drop next us) v
  pub marks : All (λ bit. 0 < times bit us) v.marks
