-- Active vertices as the tasks of an iteration past the cut.
use Rattle.std.proofs.Common.{◌≡◌, ℕ, ◌+◌, ◌<◌, List, length, get_or, map}
use Rattle.std.proofs.Common.{filter, refl, sym, ap, ◌∙◌, subst, arith}
use Rattle.std.specs.List.{All, range_with_len}
use Rattle.std.specs.List.Sorted.{IsStrictlyIncreasing}
use Rattle.std.specs.Map.{keys_of}
use Rattle.std.proofs.lemmas.List.{get_or-map, length-map, map-id}
use Rattle.std.proofs.lemmas.List.FromFn.{fill_by_all, get_or-range_with_len, length-range_with_len}
use Rattle.std.proofs.lemmas.List.Kept.{IsStrictlyIncreasing-filter}
use Rattle.std.proofs.lemmas.Map.Keys.{sorted_from_strictly_increasing}
use Rattle.std.proofs.lemmas.Simd.{map-map}
use Rattle.bolt_base.specs.Graph.{Graph, vertices}
use Rattle.bolt_base.proofs.SelfChange.{added-self, removed-self}
use Rattle.bolt_base.proofs.SortedKeys.{ordered_sorted}
use Rattle.vertex_expr.specs.declared.program.ProgramEntries.{ProgramEntries}
use Rattle.run_model.specs.Steps.{Step, active, dirty, is_active, tail_step}
use Rattle.run_model.proofs.Refinement.{is_tail}
use Rattle.edge_map.specs.Additions.{dirty_places, no_source, source_at}
use Rattle.edge_map.specs.Agrees.{SourcesRise}
use Rattle.edge_map.specs.TaskLaws.{AreTasksOf, IsSide}
use Rattle.edge_map.specs.declared.tasks.Source.{Source}
use Rattle.edge_map.specs.declared.tasks.Tasks.{Tasks}
use Rattle.refine_rows.proofs.PickLemmas.{all_within, picked_where}
use Rattle.hybrid_tail.specs.TailTasks.{tail_source, tail_tasks}

range_rises : (n : ℕ) → IsStrictlyIncreasing (range_with_len 0 n)
range_rises n k l =
    let long = length-range_with_len 0 n in
    let a = get_or-range_with_len 0 n k 0 (omega arith) in
    let b = get_or-range_with_len 0 n (k + 1) 0 (omega arith) in
    omega arith

module _ (p : ProgramEntries) (h : Graph) (i : ℕ) where
  abbrev s : Step
  s = tail_step p h i

  abbrev us : List ℕ
  us = active p h i

  abbrev t : Tasks
  t = tail_tasks p h i

  sources_rise : SourcesRise t.sources
  sources_rise =
      let keys : keys_of (map (λ (x : Source). (x.vertex, x)) t.sources) ≡ us =
      map-map (λ (e : ℕ × Source). e.0) (λ (x : Source). (x.vertex, x)) t.sources
      ∙ map-map (λ (x : Source). x.vertex) (tail_source p h i) us ∙ map-id us in
      ordered_sorted (map (λ (x : Source). (x.vertex, x)) t.sources)
      (sorted_from_strictly_increasing (keys_of (map (λ (x : Source). (x.vertex, x)) t.sources))
      (subst IsStrictlyIncreasing (sym keys)
      (IsStrictlyIncreasing-filter (is_active p h i) (range_with_len 0 (vertices h))
      (range_rises (vertices h)))))

  sources_long : length t.sources ≡ length us
  sources_long = length-map us (tail_source p h i)

  source_is : (k : ℕ) (d : Source) → k < length us
      → get_or t.sources k d ≡ tail_source p h i (get_or us k 0)
  source_is k d small = get_or-map (tail_source p h i) us k 0 d small

  sides : All (IsSide s) t.sources
  sides k d l =
      let long = sources_long in
      let small : k < length us = omega arith in
      subst (IsSide s) (sym (source_is k d small)) (record {
        there = (picked_where (vertices h) (is_active p h i) k small).below;
        new = refl;
        new_degree = refl;
        new_attr = refl;
        old = λ _. refl;
        old_degree = refl;
        old_attr = λ _. refl;
        no_old = λ past. absurd (let there = (picked_where (vertices h) (is_active p h i) k
            small).below in omega arith);
        no_attr = λ _. refl;
      })

  all_dirty : dirty_places t ≡ range_with_len 0 (length us)
  all_dirty =
      ap (λ n. filter (λ k. (source_at t k).dirty) (range_with_len 0 n)) sources_long
      ∙ all_within (length us) 0 (λ k. (source_at t k).dirty)
      (λ k low small. ap (λ (x : Source). x.dirty) (source_is k no_source (omega arith)))

  dirty_are : map (λ k. (source_at t k).vertex) (dirty_places t) ≡ dirty p s
  dirty_are =
      ap (map (λ k. (source_at t k).vertex)) all_dirty
      ∙ sym (fill_by_all (λ k. (source_at t k).vertex) us (length us) 0 refl
      (λ k small. sym (ap (λ (x : Source). x.vertex) (source_is k no_source small))))
      ∙ sym (is_tail p h i).sources

  pub are_tasks : AreTasksOf p s t
  are_tasks = record {
    sources_rise = sources_rise;
    sides = sides;
    removed = sym (removed-self h);
    added = sym (added-self h);
    dirty = dirty_are;
    removed_placed = λ k d l. absurd (omega arith);
    added_placed = λ k d l. absurd (omega arith);
  }
