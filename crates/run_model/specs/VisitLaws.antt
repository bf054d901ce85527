-- Laws of visits.
use Rattle.std.specs.Prelude.{◌≡◌, ℕ, ◌+◌, ◌-◌, ◌*◌, ◌≤◌, List, [], ◌∷◌, ◌++◌, filter, length}
use Rattle.std.specs.Prelude.{sum_by}
use Rattle.std.specs.List.{range_with_len}
use Rattle.bolt_base.specs.Graph.{Graph, IsGood, edges, indeg, outdeg, vertices}
use Rattle.bolt_base.specs.declared.limits.Limits.{Limits}
use Rattle.vertex_expr.specs.declared.program.Combine.TheVariants.{Sum}
use Rattle.vertex_expr.specs.declared.program.ProgramEntries.{ProgramEntries}
use Rattle.run_model.specs.Additions.{Item, items, tail_items}
use Rattle.run_model.specs.Steps.{Step, step, is_dirty, dirty, is_target, is_active, active}
use Rattle.run_model.specs.Steps.{is_tail_target}
use Rattle.run_model.specs.Visits.{in_visits, out_visits, items_visits, sum_visits, pull_visits}
use Rattle.run_model.specs.Visits.{tail_sum_visits, tail_pull_visits, step_visits, tail_step_visits}
use Rattle.run_model.specs.Visits.{refine_visits, tail_visits_to, visits, degrees, net_sources}
use Rattle.run_model.specs.Visits.{changed}

-- the items of a sum program read its visits, and items side by side those of each
abbrev pub ItemsReadVisits : Type 0
ItemsReadVisits = (p : ProgramEntries) (s : Step)
    → items_visits s.new_graph (items p s) ≡ sum_visits p s

abbrev pub TailItemsReadVisits : Type 0
TailItemsReadVisits = (p : ProgramEntries) (h : Graph) (i : ℕ)
    → items_visits h (tail_items p h i) ≡ tail_sum_visits p h i

abbrev pub ItemsVisitsAppend : Type 0
ItemsVisitsAppend = (h : Graph) (xs ys : List Item)
    → items_visits h (xs ++ ys) ≡ items_visits h xs + items_visits h ys

-- all edges are read where those into each vertex are, or those out of each
abbrev pub InDegreesSum : Type 0
InDegreesSum = (l : Limits) (g : Graph) → IsGood l g
    → in_visits g (range_with_len 0 (vertices g)) ≡ length (edges g)

abbrev pub OutDegreesSum : Type 0
OutDegreesSum = (l : Limits) (g : Graph) → IsGood l g
    → out_visits g (range_with_len 0 (vertices g)) ≡ length (edges g)

-- one more iteration
abbrev pub RefineVisitsGrow : Type 0
RefineVisitsGrow = (p : ProgramEntries) (g h : Graph) (i : ℕ)
    → refine_visits p g h (i + 1) ≡ refine_visits p g h i + step_visits p (step p g h (i + 1))

abbrev pub TailVisitsBegin : Type 0
TailVisitsBegin = (p : ProgramEntries) (h : Graph) (cut : ℕ) → tail_visits_to p h cut cut ≡ 0

abbrev pub TailVisitsGrow : Type 0
TailVisitsGrow = (p : ProgramEntries) (h : Graph) (cut i : ℕ) → cut ≤ i
    → tail_visits_to p h cut (i + 1) ≡ tail_visits_to p h cut i + tail_step_visits p h (i + 1)

-- at most the old and new out-degrees of the sources of net changed edges, and those of the dirty
-- vertices; so at most twice those of the changed vertices
pub record AreFew (p : ProgramEntries) (s : Step) : Type 0 where
  pub both : sum_visits p s
      ≤ sum_by (degrees s.old_graph s.new_graph) (net_sources s.old_graph s.new_graph)
      + sum_by (degrees s.old_graph s.new_graph) (dirty p s)
  pub twice : sum_visits p s ≤ 2 * sum_by (degrees s.old_graph s.new_graph) (changed p s)

abbrev pub SumVisitsAreFew : Type 0
SumVisitsAreFew = (p : ProgramEntries) (s : Step) → vertices s.old_graph ≤ vertices s.new_graph
    → IsGood p.limits s.old_graph → IsGood p.limits s.new_graph → AreFew p s

-- so over a whole batch, and past the cut the out-degrees of the active vertices
abbrev pub BatchVisitsAreFew : Type 0
BatchVisitsAreFew = (p : ProgramEntries) (g h : Graph) (cut : ℕ)
    → p.combine ≡ Sum → vertices g ≤ vertices h → IsGood p.limits g → IsGood p.limits h
    → visits p g h cut
    ≤ 2 * sum_by (λ i. sum_by (degrees g h) (changed p (step p g h i))) (range_with_len 1 cut)
    + sum_by (λ i. out_visits h (active p h i)) (range_with_len (cut + 1) (p.rounds - cut))

-- ---- vertices that are read one after the other, or in halves
pub record AreRead (h : Graph) (us vs : List ℕ) (v : ℕ) : Type 0 where
  pub out_of_one : out_visits h (us ++ v ∷ []) ≡ out_visits h us + outdeg h v
  pub into_one : in_visits h (us ++ v ∷ []) ≡ in_visits h us + indeg h v
  pub out_of_both : out_visits h (us ++ vs) ≡ out_visits h us + out_visits h vs
  pub into_both : in_visits h (us ++ vs) ≡ in_visits h us + in_visits h vs

abbrev pub VertexVisitsAppend : Type 0
VertexVisitsAppend = (h : Graph) (us vs : List ℕ) (v : ℕ) → AreRead h us vs v

-- ---- a min or max program reads each edge out of a dirty vertex once, and each into a target
abbrev pub PullReadsEdges : Type 0
PullReadsEdges = (p : ProgramEntries) (s : Step)
    → vertices s.old_graph ≤ vertices s.new_graph → IsGood p.limits s.new_graph
    → pull_visits p s
    ≡ length (filter (λ e. is_dirty p s e.src) (edges s.new_graph))
    + length (filter (λ e. is_target p s e.dst) (edges s.new_graph))

abbrev pub TailPullReadsEdges : Type 0
TailPullReadsEdges = (p : ProgramEntries) (h : Graph) (i : ℕ) → IsGood p.limits h
    → tail_pull_visits p h i
    ≡ length (filter (λ e. is_active p h i e.src) (edges h))
    + length (filter (λ e. is_tail_target p h i e.dst) (edges h))
