-- The additions of all pieces of an iteration are its additions.
use Rattle.std.proofs.Common.{◌≡◌, ℕ, zero, suc, ◌+◌, ◌-◌, ◌<◌, ◌≤◌, List, [], ◌∷◌, ◌++◌, map, take}
use Rattle.std.proofs.Common.{Bool, cond, true, false, drop, length, sym, ap, ◌∙◌, arith}
use Rattle.std.specs.List.{flat_map, range_with_len}
use Rattle.std.proofs.lemmas.Bool.{cond-true, cond-false, le-ltb}
use Rattle.std.proofs.lemmas.Grind.{flat_map-append}
use Rattle.std.proofs.lemmas.List.{append-nil}
use Rattle.std.proofs.lemmas.List.FromFn.{map-range_with_len_more}
use Rattle.bolt_base.specs.Graph.{Graph}
use Rattle.bolt_base.specs.Pieces.{cut, piece, pieces}
use Rattle.bolt_base.specs.Residue.{Amount}
use Rattle.bolt_base.proofs.PieceLemmas.{pieces-append, pieces-whole}
use Rattle.run_model.specs.Program.{is_sum}
use Rattle.core_model.specs.Iterations.{additions, all_left, in_pieces, is_tail, piece_adds}
use Rattle.core_model.specs.State.{Given}

no_piece : {X : Type 0} (xs : List X) (w p : ℕ) → pieces xs w p p ≡ []
no_piece xs w p =
    let c = cut p (length xs) w in
    ap (λ n. take n (drop c xs)) (let e : c - c ≡ 0 = omega arith in e)

module _ {X : Type 0} (f : X → List Amount) (xs : List X) (w : ℕ) (some : 0 < w) where
  abbrev of_piece : ℕ → List Amount
  of_piece k = flat_map f (piece xs w k)

  first_pieces : (n : ℕ) → all_left (map of_piece (range_with_len 0 n))
      ≡ flat_map f (pieces xs w 0 n)
  first_pieces zero = sym (ap (flat_map f) (no_piece xs w 0))
  first_pieces (suc n) =
      let more : suc n ≡ n + 1 = omega arith in
      ap (λ k. all_left (map of_piece (range_with_len 0 k))) more
      ∙ ap all_left (map-range_with_len_more of_piece 0 n n (omega arith))
      ∙ flat_map-append (λ (some : List Amount). some) (map of_piece (range_with_len 0 n))
      (of_piece n ∷ [])
      ∙ ap (λ l. all_left (map of_piece (range_with_len 0 n)) ++ l) (append-nil (of_piece n))
      ∙ ap (λ l. l ++ of_piece n) (first_pieces n)
      ∙ sym (flat_map-append f (pieces xs w 0 n) (piece xs w n))
      ∙ ap (flat_map f) (pieces-append xs w 0 n (n + 1) some (omega arith) (omega arith))
      ∙ ap (λ k. flat_map f (pieces xs w 0 k)) (sym more)

  pub all_pieces : all_left (map of_piece (range_with_len 0 w)) ≡ flat_map f xs
  all_pieces = first_pieces w ∙ ap (flat_map f) (pieces-whole xs w some)

-- a choice between two lists of pieces
chosen_pieces : (b : Bool) (f h : ℕ → List Amount) (w : ℕ) (x y : List Amount)
    → all_left (map f (range_with_len 0 w)) ≡ x
    → all_left (map h (range_with_len 0 w)) ≡ y
    → all_left (map (λ k. cond b (f k) (h k)) (range_with_len 0 w)) ≡ cond b x y
chosen_pieces true f h w x y a b = a
chosen_pieces false f h w x y a b = b

pub pieces_make_additions : (c : Given) (g h : Graph) (i : ℕ) → 1 ≤ c.choice.workers
    → is_sum c.program.combine ≡ true → i ≤ c.program.rounds
    → all_left (in_pieces c g h i) ≡ additions c g h i
pieces_make_additions c g h i some sum within =
    let ps = map (piece_adds c g h i) (range_with_len 0 c.choice.workers) in
    ap all_left (cond-true (is_sum c.program.combine) _ [] sum
    ∙ cond-false _ [] ps (le-ltb c.program.rounds i within))
    ∙ chosen_pieces (is_tail c i) _ _ c.choice.workers _ _
    (all_pieces _ _ c.choice.workers (omega arith))
    (all_pieces _ _ c.choice.workers (omega arith))
