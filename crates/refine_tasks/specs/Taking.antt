-- What the vertices that are applied take from the words.
use Rattle.std.specs.Prelude.{◌≡◌, ℕ, ◌<◌, ◌≤◌, List, [], ◌++◌, take, drop, filter, length, All}
use Rattle.bolt_base.specs.Residue.{Amount}
use Rattle.agg_words.specs.View.{View, times}
use Rattle.agg_words.specs.declared.layout.Layout.{Layout}
use Rattle.vertex_expr.specs.declared.program.ProgramEntries.{ProgramEntries}
use Rattle.run_model.specs.Additions.{adds_of, items}
use Rattle.run_model.specs.Steps.{Step, is_target}
use Rattle.sum_steps.specs.Laws.{IsSpread}
use Rattle.sum_steps.specs.Taken.{AreLeft, iteration_amounts, takes_of}

-- an iteration's targets before place `next` were taken: the words hold its additions for the
-- others, all targets are marked and nothing else is, and since `start` the amounts have grown by
-- what takes back those before. The others are the targets among the vertices `vs` that are still
-- to be applied
pub record AreTakenTo (p : ProgramEntries) (s : Step) (k : Layout) (us : List ℕ)
    (start : List Amount) (next : ℕ) (vs : List ℕ) (v : View) : Type 0 where
  pub inside : next ≤ length us
  pub left : AreLeft p k (adds_of p s (items p s)) (drop next us) v
  pub grown : v.amounts ≡ start ++ takes_of p (adds_of p s (items p s)) (take next us)
  pub ahead : drop next us ≡ filter (is_target p s) vs
  pub marks : All (λ bit. 0 < times bit us) v.marks

-- ---- laws
-- after the additions nothing is taken yet
abbrev pub TakingBegins : Type 0
TakingBegins = (p : ProgramEntries) (s : Step) (k : Layout) (us vs : List ℕ) (v : View)
    → IsSpread p s k us v → filter (is_target p s) vs ≡ us
    → AreTakenTo p s k us v.amounts 0 vs v

-- once all were applied the words hold nothing, and the amounts of the whole iteration were added
pub record AllTaken (p : ProgramEntries) (s : Step) (k : Layout) (before : List Amount)
    (us : List ℕ) (v : View) : Type 0 where
  pub none : AreLeft p k (adds_of p s (items p s)) [] v
  pub marks : All (λ bit. 0 < times bit us) v.marks
  pub amounts : v.amounts ≡ before ++ iteration_amounts p s

abbrev pub TakingEnds : Type 0
TakingEnds = (p : ProgramEntries) (s : Step) (k : Layout) (before : List Amount) (us : List ℕ)
    (next : ℕ) (first v : View) → IsSpread p s k us first
    → first.amounts ≡ before ++ adds_of p s (items p s)
    → AreTakenTo p s k us first.amounts next [] v → AllTaken p s k before us v
