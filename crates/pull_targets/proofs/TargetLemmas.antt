-- The ends of edges out of some vertices, and that they are targets.
use Rattle.std.proofs.Common.{◌≡◌, ℕ, ◌+◌, ◌<◌, Bool, not, ◌||◌, ◌&&◌, true, false, eqb, List}
use Rattle.std.proofs.Common.{[]}
use Rattle.std.proofs.Common.{take, filter, length, get_or, refl, sym, ap, ◌∙◌, arith}
use Rattle.std.specs.List.{All, list_any, range_with_len}
use Rattle.std.proofs.lemmas.List.Elements.{All-filter}
use Rattle.std.proofs.lemmas.List.FromFn.{get_or-range_with_len, length-range_with_len}
use Rattle.std.proofs.lemmas.List.Folds.{list_any_more}
use Rattle.bolt_base.specs.Change.{added, removed, stays}
use Rattle.bolt_base.specs.Graph.{Graph, edges, out_edges, vertices}
use Rattle.bolt_base.proofs.EdgeMap.{All-edges_at}
use Rattle.bolt_base.specs.declared.edge.Edge.{Edge}
use Rattle.bolt_base.proofs.SelfChange.{added-self, removed-self}
use Rattle.run_model.specs.Steps.{tail_step, is_dirty}
use Rattle.run_model.proofs.Refinement.{is_tail}
use Rattle.run_model.proofs.Named.{among_dirty, any-and, any-filter, any-same, any-swap}
use Rattle.pull_targets.specs.EndList.{AreFound, EndState, is_found}
use Rattle.pull_targets.specs.EndLaws.{EndsAreTargets, EndsAreTailTargets, EndsAreThere}
use Rattle.pull_targets.specs.Ends.{ends, ends_at, goes_out, is_end}
use Rattle.pull_targets.proofs.EndLemmas.{found_both, found_same}

-- an edge out of one of these vertices ends at the vertex
abbrev pub ends_out_of : Graph → List ℕ → ℕ → Bool
ends_out_of h us v = list_any (λ u. ends_at (out_edges h u) v) us

-- one more of them
pub one_more_source : (h : Graph) (s r t : EndState) (us : List ℕ) (k : ℕ) (d : ℕ)
    → k < length us → AreFound s (ends_out_of h (take k us)) r
    → AreFound r (ends_at (out_edges h (get_or us k d))) t
    → AreFound s (ends_out_of h (take (k + 1) us)) t
one_more_source h s r t us k d small so_far one =
    found_same s t (λ v. ends_out_of h (take k us) v || ends_at (out_edges h (get_or us k d)) v)
    (ends_out_of h (take (k + 1) us))
    (λ v. sym (list_any_more (λ u. ends_at (out_edges h u) v) us k d small))
    (found_both s r t (ends_out_of h (take k us)) (ends_at (out_edges h (get_or us k d)))
    so_far one)

and_flips : (a b : Bool) → (a && b) ≡ (b && a)
and_flips true true = refl
and_flips true false = refl
and_flips false true = refl
and_flips false false = refl

-- edge by edge
pub ends_by_edge : (h : Graph) (us : List ℕ) (v : ℕ)
    → ends_out_of h us v ≡ list_any (λ e. eqb e.dst v && goes_out us e) (edges h)
ends_by_edge h us v =
    any-same (λ u. ends_at (out_edges h u) v)
    (λ u. list_any (λ e. eqb e.src u && eqb e.dst v) (edges h))
    (λ u. any-filter (λ e. eqb e.dst v) (λ e. eqb e.src u) (edges h)) us
    ∙ any-swap (λ u e. eqb e.src u && eqb e.dst v) us (edges h)
    ∙ any-same (λ e. list_any (λ u. eqb e.src u && eqb e.dst v) us)
    (λ e. eqb e.dst v && goes_out us e)
    (λ e. any-same (λ u. eqb e.src u && eqb e.dst v) (λ u. eqb e.dst v && eqb e.src u)
    (λ u. and_flips (eqb e.src u) (eqb e.dst v)) us
    ∙ sym (any-and (eqb e.dst v) (λ u. eqb e.src u) us)) (edges h)

-- where nothing was found first, all ends were in the end
pub all_found : (h : Graph) (gone come : List Edge) (us : List ℕ) (a b c d : EndState)
    → a ≡ record { vertices = vertices h; ends = [] }
    → AreFound a (ends_at gone) b → AreFound b (ends_at come) c
    → AreFound c (ends_out_of h us) d
    → filter (is_found d.ends) (range_with_len 0 d.vertices) ≡ ends h gone come us
all_found h gone come us a b c d none first second third =
    let size : d.vertices ≡ vertices h =
    third.vertices ∙ second.vertices ∙ first.vertices ∙ ap (λ (s : EndState). s.vertices) none in
    let each : (v : ℕ) → is_found d.ends v ≡ is_end h gone come us v = λ v.
    third.ends v ∙ (λ j. (second.ends v
    ∙ (λ i. (first.ends v ∙ (λ k. is_found (none k).ends v || ends_at gone v)) i
    || ends_at come v)) j || ends_out_of h us v)
    ∙ ap (λ b. (ends_at gone v || ends_at come v) || b) (ends_by_edge h us v) in
    λ j. filter (λ v. each v j) (range_with_len 0 (size j))

-- ---- laws
pub ends_are : EndsAreTargets
ends_are p s =
    let h : Graph = s.new_graph in
    λ j. filter (λ v. ends_at (removed s.old_graph h) v || ends_at (added s.old_graph h) v
    || list_any (λ e. eqb e.dst v && among_dirty p s e.src j) (edges h))
    (range_with_len 0 (vertices h))

pub tail_ends_are : EndsAreTailTargets
tail_ends_are p h i =
    let tail = is_tail p h i in
    sym (λ j. ends h (removed-self h j) (added-self h j) (tail.sources j))
    ∙ ends_are p (tail_step p h i) ∙ tail.ends

range_below : (n : ℕ) → All (λ v. v < n) (range_with_len 0 n)
range_below n k d small =
    let long = length-range_with_len 0 n in
    let is = get_or-range_with_len 0 n k d (omega arith) in
    omega arith

pub ends_there : EndsAreThere
ends_there l p s more old new =
    let g : Graph = s.old_graph in
    let h : Graph = s.new_graph in
    let old_ends : All (λ e. e.dst < vertices h) (edges g) =
    λ k d small. let at = (old.ends k d small).1 in omega arith in
    let new_ends : All (λ e. e.dst < vertices h) (edges h) =
    λ k d small. (new.ends k d small).1 in
    record {
      removed = All-edges_at (λ e. e.dst < vertices h) g (λ k. not (stays g h k)) old_ends;
      added = All-edges_at (λ e. e.dst < vertices h) h (λ k. not (stays g h k)) new_ends;
      sources = All-filter (is_dirty p s) (λ v. v < vertices h) (range_with_len 0 (vertices g))
          (λ k d small. let low = range_below (vertices g) k d small in omega arith);
      edges = new_ends;
    }
