-- The additions of pieces of items.
use Rattle.std.proofs.Common.{◌≡◌, ℕ, ◌+◌, ◌-◌, ◌≤◌, Bool, true, false, cond, List, [], map, take}
use Rattle.std.proofs.Common.{drop, length, sym, ap, ◌∙◌}
use Rattle.std.specs.Prelude.{nat_lt}
use Rattle.std.specs.List.{range_with_len}
use Rattle.std.proofs.lemmas.Bool.{cond-true, cond-false, le-ltb}
use Rattle.std.proofs.lemmas.List.{drop-map, length-map, take-map}
use Rattle.std.proofs.lemmas.List.Folds.{flat_map-map}
use Rattle.bolt_base.specs.Change.{stayed}
use Rattle.bolt_base.specs.Graph.{Graph}
use Rattle.bolt_base.specs.Pieces.{cut, piece}
use Rattle.bolt_base.specs.Residue.{Amount}
use Rattle.vertex_expr.specs.declared.program.ProgramEntries.{ProgramEntries}
use Rattle.run_model.specs.Additions.{adds_of, item_adds, items, now, tail_adds_of, tail_items, was}
use Rattle.run_model.specs.Program.{is_sum}
use Rattle.run_model.specs.Steps.{Step, step, tail_step}
use Rattle.run_model.proofs.Refinement.{is_tail, same_adds_of}
use Rattle.core_model.specs.Iterations.{all_left, in_pieces, piece_adds}
use Rattle.core_model.specs.State.{Given}
use Rattle.core_adds.specs.Sides.{adds_by_item, due_step}

module _ {X Y : Type 0} (f : X → Y) (xs : List X) (w k : ℕ) where
  abbrev from : ℕ → ℕ
  from n = cut k n w

  abbrev size : ℕ → ℕ
  size n = cut (k + 1) n w - cut k n w

  piece-map : piece (map f xs) w k ≡ map f (piece xs w k)
  piece-map =
      ap (λ n. take (size n) (drop (from n) (map f xs))) (length-map xs f)
      ∙ ap (take (size (length xs))) (drop-map f (from (length xs)) xs)
      ∙ take-map f (size (length xs)) (drop (from (length xs)) xs)

module _ (p : ProgramEntries) (g h : Graph) (i w k : ℕ) where
  of_piece : (s : Step) → all_left (piece (adds_by_item p s) w k)
      ≡ adds_of p s (piece (items p s) w k)
  of_piece s =
      let f = item_adds p (stayed s.old_graph s.new_graph) (was p s) (now p s) in
      ap all_left (piece-map f (items p s) w k)
      ∙ flat_map-map (λ (some : List Amount). some) f (piece (items p s) w k)

  -- of an iteration past the cut, or up to it
  of_due : (b : Bool)
      → all_left (piece (adds_by_item p (cond b (tail_step p h i) (step p g h i))) w k)
      ≡ cond b (tail_adds_of p h i (piece (tail_items p h i) w k))
      (adds_of p (step p g h i) (piece (items p (step p g h i)) w k))
  of_due true =
      of_piece (tail_step p h i)
      ∙ same_adds_of p h i (piece (items p (tail_step p h i)) w k)
      ∙ ap (λ its. tail_adds_of p h i (piece its w k)) (is_tail p h i).work
  of_due false = of_piece (step p g h i)

-- the pieces of the additions of all items are those of an iteration
pub pieces_are : (c : Given) (g h : Graph) (i : ℕ) (p : ProgramEntries) (xs : List (List Amount))
    → p ≡ c.program → xs ≡ adds_by_item p (due_step p c.choice.cut g h i)
    → is_sum c.program.combine ≡ true → i ≤ c.program.rounds
    → map (λ k. all_left (piece xs c.choice.workers k)) (range_with_len 0 c.choice.workers)
    ≡ in_pieces c g h i
pieces_are c g h i p xs same is sum within =
    let w = c.choice.workers in
    let due = is ∙ (λ j. adds_by_item (same j) (due_step (same j) c.choice.cut g h i)) in
    let ps = map (piece_adds c g h i) (range_with_len 0 w) in
    (λ j. map (λ k. all_left (piece (due j) w k)) (range_with_len 0 w))
    ∙ (λ j. map (λ k. of_due c.program g h i w k (nat_lt c.choice.cut i) j) (range_with_len 0 w))
    ∙ sym (cond-true (is_sum c.program.combine) _ [] sum
    ∙ cond-false _ [] ps (le-ltb c.program.rounds i within))
