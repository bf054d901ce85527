-- The targets of an iteration, and the edges that are read to pull them.
use Rattle.std.proofs.Common.{◌≡◌, ℕ, ◌+◌, ◌<◌, List, length, get_or, sym, ◌∙◌, subst}
use Rattle.std.specs.List.{All}
use Rattle.std.proofs.lemmas.List.{get_or_default}
use Rattle.bolt_base.specs.Change.{added, removed}
use Rattle.bolt_base.specs.Graph.{Graph, vertices}
use Rattle.bolt_base.specs.declared.edge.Edge.{Edge}
use Rattle.vertex_expr.specs.declared.program.ProgramEntries.{ProgramEntries}
use Rattle.run_model.specs.Steps.{dirty, is_target, step, targets}
use Rattle.run_model.specs.Visits.{in_visits, out_visits, pull_visits}
use Rattle.pull_targets.specs.Ends.{AreThere, ends}
use Rattle.pull_targets.proofs.TargetLemmas.{ends_are, ends_there}
use Rattle.refine_rows.specs.Over.{AreOver}
use Rattle.refine_rows.proofs.PickLemmas.{picked_where}

module _ (p : ProgramEntries) (g h : Graph) (i : ℕ) where
  module _ (gone come : List Edge) (us : List ℕ) (are_gone : gone ≡ removed g h)
      (are_come : come ≡ added g h) (are_dirty : us ≡ dirty p (step p g h i)) where
    pub all_ends_there : AreOver p g h → AreThere h gone come us
    all_ends_there over =
        let there = ends_there p.limits p (step p g h i) over.more over.old over.new in
        record {
          removed = subst (All (λ (e : Edge). e.dst < vertices h)) (sym are_gone) there.removed;
          added = subst (All (λ (e : Edge). e.dst < vertices h)) (sym are_come) there.added;
          sources = subst (All (λ (u : ℕ). u < vertices h)) (sym are_dirty) there.sources;
          edges = there.edges;
        }

    pub targets_are : (ts : List ℕ) → ts ≡ ends h gone come us → ts ≡ targets p (step p g h i)
    targets_are ts e =
        e ∙ (λ j. ends h (are_gone j) (are_come j) (are_dirty j)) ∙ ends_are p (step p g h i)

  pub targets_there : (ts : List ℕ) → ts ≡ targets p (step p g h i)
      → All (λ v. v < vertices h) ts
  targets_there ts is k d l =
      subst (λ v. v < vertices h) (get_or_default ts k 0 d l)
      (subst (λ us. get_or us k 0 < vertices h) (sym is)
      (picked_where (vertices h) (is_target p (step p g h i)) k
      (subst (λ us. k < length us) is l)).below)

  pub reads_are : (us ts : List ℕ) → us ≡ dirty p (step p g h i) → ts ≡ targets p (step p g h i)
      → out_visits h us + in_visits h ts ≡ pull_visits p (step p g h i)
  reads_are us ts a b = λ j. out_visits h (a j) + in_visits h (b j)
