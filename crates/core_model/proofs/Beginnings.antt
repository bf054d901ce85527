-- Where an iteration begins, all its additions are left.
use Rattle.std.proofs.Common.{◌≡◌, ℕ, ◌+◌, ◌*◌, ◌%◌, ◌^◌, ◌<◌, ◌≤◌, true, false, cond, List, []}
use Rattle.std.proofs.Common.{length, sym, ap, ◌∙◌, subst, arith, inl, inr}
use Rattle.std.specs.List.{All}
use Rattle.std.proofs.lemmas.Bool.{cases_Bool, cond-true, cond-false, cases_lt, lt-ltb}
use Rattle.std.proofs.lemmas.List.{length-replicate}
use Rattle.std.proofs.lemmas.List.Elements.{All-nil, All-replicate, All-weaker}
use Rattle.std.proofs.Math.Nat.{mod-lt, mod-eq_of_lt}
use Rattle.bolt_base.specs.Graph.{Graph, IsGood, vertices}
use Rattle.bolt_base.specs.Keep.{Row}
use Rattle.bolt_base.specs.Residue.{Amount, sum_at}
use Rattle.bolt_base.proofs.ListLemmas.{get_or-replicate_same}
use Rattle.vertex_expr.specs.declared.program.ProgramEntries.{ProgramEntries}
use Rattle.run_model.specs.Additions.{adds, tail_adds}
use Rattle.run_model.specs.Program.{lanes, is_sum}
use Rattle.run_model.specs.StepLaws.{IsWord}
use Rattle.run_model.specs.Steps.{step, tail_step}
use Rattle.run_model.proofs.Refinement.{is_tail as tail_is}
use Rattle.run_model.proofs.Within.{adds_there}
use Rattle.core_model.specs.Iterations.{additions, all_left, begins, in_pieces, is_tail}
use Rattle.core_model.specs.Iterations.{no_words, word_in}
use Rattle.core_model.specs.Rules.{IsAdding, MayRun}
use Rattle.core_model.specs.State.{Given}
use Rattle.core_model.proofs.PieceAdditions.{pieces_make_additions}

module _ (c : Given) (may : MayRun c) (g h : Graph) (good_g : IsGood c.program.limits g)
    (good_h : IsGood c.program.limits h) (few : vertices g ≤ vertices h) (i : ℕ)
    (rows : List Row) where
  abbrev p : ProgramEntries
  p = c.program

  abbrev IsThere : Amount → Type 0
  IsThere a = a.word < vertices h * lanes p

  additions_there : All IsThere (additions c g h i)
  additions_there =
      elim (is_tail c i) as (λ b. All IsThere (cond b (tail_adds p h i) (adds p g h i))) [
        | true ↦ subst (All IsThere) (tail_is p h i).amounts
            (All-weaker (IsWord p (tail_step p h i)) IsThere (λ a word. word.there) _
            (adds_there p (tail_step p h i) (omega arith) good_h.ends good_h.ends))
        | false ↦ All-weaker (IsWord p (step p g h i)) IsThere (λ a word. word.there) _
            (adds_there p (step p g h i) few good_g.ends good_h.ends)
      ]

  -- there are none
  none_left : (left : List (List Amount)) → left ≡ [] → All IsThere (all_left left)
  none_left left none = subst (λ (l : List (List Amount)). All IsThere (all_left l)) (sym none)
      (All-nil IsThere)

  pieces_there : All IsThere (all_left (in_pieces c g h i))
  pieces_there =
      elim (cases_Bool (is_sum p.combine)) [
        | inr other ↦ none_left (in_pieces c g h i) (cond-false (is_sum p.combine) _ [] other)
        | inl sum ↦ elim (cases_lt p.rounds i) [
          | inl past ↦ none_left (in_pieces c g h i) (cond-true (is_sum p.combine) _ [] sum
              ∙ cond-true _ [] _ (lt-ltb p.rounds i past))
          | inr within ↦ subst (All IsThere)
              (sym (pieces_make_additions c g h i may.workers sum within)) additions_there
        ]
      ]

  all_is_left : is_sum p.combine ≡ true → i ≤ p.rounds → (k : ℕ)
      → (word_in (no_words c h) k + sum_at k (all_left (in_pieces c g h i))) % 2 ^ 64
      ≡ sum_at k (additions c g h i)
  all_is_left sum within k =
      let all = additions c g h i in
      (λ j. (get_or-replicate_same (vertices h * lanes p) k 0 j
      + sum_at k (pieces_make_additions c g h i may.workers sum within j)) % 2 ^ 64)
      ∙ (let small : sum_at k all < 2 ^ 64 = mod-lt _ {m = 2 ^ 64} (omega arith) in
      let same : 0 + sum_at k all ≡ sum_at k all = omega arith in
      ap (λ n. n % 2 ^ 64) same ∙ mod-eq_of_lt small)

  pub begins_adding : IsAdding c g (begins c g h i rows)
  begins_adding =
      let long : length (no_words c h) ≡ vertices h * lanes p =
      length-replicate (vertices h * lanes p) 0 in
      record {
        long = long;
        small = All-replicate (λ x. x < 2 ^ 64) (vertices h * lanes p) 0 (omega arith);
        there = subst (λ n. All (λ a. a.word < n) (all_left (in_pieces c g h i))) (sym long)
            pieces_there;
        sums = all_is_left;
      }
