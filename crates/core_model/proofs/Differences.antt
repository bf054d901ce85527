-- What an iteration adds to a word is the new aggregate less the old one.
use Rattle.std.proofs.Common.{◌≡◌, ℕ, ℤ, ◌+◌, ◌-◌, ◌%◌, ◌^◌, ◌<◌, ◌≤◌, ◌+ℤ◌, ◌-ℤ◌, true}
use Rattle.std.proofs.Common.{false, cond, Some, refl, sym, ap, ◌∙◌, subst, arith}
use Rattle.std.proofs.lemmas.Bool.{ltb-true}
use Rattle.std.proofs.lemmas.Int.{ints}
use Rattle.std.proofs.Math.Nat.{mod-add-div, mod-lt}
use Rattle.bolt_base.specs.Graph.{Graph, IsGood, in_edges, vertices}
use Rattle.bolt_base.specs.Residue.{residue, sum_at}
use Rattle.bolt_base.proofs.ResidueLemmas.{residue-add, residue-lt}
use Rattle.vertex_expr.specs.declared.program.ProgramEntries.{ProgramEntries}
use Rattle.run_model.specs.Additions.{adds, tail_adds, word}
use Rattle.run_model.specs.Program.{lanes, is_sum}
use Rattle.run_model.specs.Rows.{agg_at, contribution, gathered_over, row}
use Rattle.run_model.specs.Steps.{step, tail_step, old_agg}
use Rattle.run_model.proofs.Iteration.{agg_is, new_residue, old_agg_is, stayed_within}
use Rattle.run_model.proofs.Refinement.{is_tail as tail_is}
use Rattle.core_model.specs.Iterations.{additions, all_left, is_tail, word_in}
use Rattle.core_model.specs.Rules.{IsIterating, IsRuled, MayRun}
use Rattle.core_model.specs.State.{Given, Work, Progress, State}
use Rattle.core_model.proofs.GoodRounds.{good_itself, good_round}
use Rattle.core_model.proofs.Progressing.{work_is}
use Rattle.core_model.proofs.RowSteps.{is_added}

-- numbers modulo 2^64 that come to the same on one number are the same
same_addend : (a s d : ℕ) → a < 2 ^ 64 → s < 2 ^ 64 → d < 2 ^ 64
    → (a + s) % 2 ^ 64 ≡ (a + d) % 2 ^ 64 → s ≡ d
same_addend a s d small_a small_s small_d e =
    let x = mod-add-div (a + s) (2 ^ 64) in
    let y = mod-add-div (a + d) (2 ^ 64) in
    omega (arith, mod-lt (a + s) {m = 2 ^ 64} (omega arith))

-- what leads from one number to another one is their difference
is_difference : (old new : ℤ) (s : ℕ) → s < 2 ^ 64 → (residue old + s) % 2 ^ 64 ≡ residue new
    → s ≡ residue (new -ℤ old)
is_difference old new s small e =
    let sum : old +ℤ (new -ℤ old) ≡ new = omega (arith, ints) in
    same_addend (residue old) s (residue (new -ℤ old)) (residue-lt old) small
    (residue-lt (new -ℤ old))
    (e ∙ ap residue (sym sum) ∙ residue-add old (new -ℤ old))

module _ (c : Given) (may : MayRun c) (g h : Graph) (good_g : IsGood c.program.limits g)
    (good_h : IsGood c.program.limits h) (sum : is_sum c.program.combine ≡ true) (i v l : ℕ)
    (some : 1 ≤ i) (there : v < vertices h) (small : l < lanes c.program) where
  abbrev p : ProgramEntries
  p = c.program

  sum_small : sum_at (word p v l) (additions c g h i) < 2 ^ 64
  sum_small = mod-lt _ {m = 2 ^ 64} (omega arith)

  up_to_cut : (residue (old_agg p g i v l) + sum_at (word p v l) (adds p g h i)) % 2 ^ 64
      ≡ residue (agg_at p h i v l)
  up_to_cut =
      ap (λ z. (residue z + sum_at (word p v l) (adds p g h i)) % 2 ^ 64)
      (old_agg_is p g i v l good_g some small)
      ∙ new_residue p (step p g h i) v l (stayed_within g h good_g.ends)
      (is_added p.combine sum) small
      ∙ ap residue (sym (agg_is p h i v l some there small))

  past_cut : 2 ≤ i → (residue (agg_at p h (i - 1) v l) + sum_at (word p v l) (tail_adds p h i))
      % 2 ^ 64 ≡ residue (agg_at p h i v l)
  past_cut more =
      let e : i - 1 - 1 ≡ i - 2 = omega arith in
      let before : agg_at p h (i - 1) v l
      ≡ gathered_over p (contribution p h (row p h (i - 2))) (in_edges h v) l =
      agg_is p h (i - 1) v l (omega arith) there small
      ∙ ap (λ k. gathered_over p (contribution p h (row p h k)) (in_edges h v) l) e in
      (λ j. (residue (before j)
      + sum_at (word p v l) (sym (tail_is p h i).amounts j)) % 2 ^ 64)
      ∙ new_residue p (tail_step p h i) v l (stayed_within h h good_h.ends)
      (is_added p.combine sum) small
      ∙ ap residue (sym (agg_is p h i v l some there small))

  pub additions_are_differences : sum_at (word p v l) (additions c g h i)
      ≡ residue (agg_at p h i v l -ℤ cond (is_tail c i) (agg_at p h (i - 1) v l)
      (old_agg p g i v l))
  additions_are_differences =
      is_difference (cond (is_tail c i) (agg_at p h (i - 1) v l) (old_agg p g i v l))
      (agg_at p h i v l) (sum_at (word p v l) (additions c g h i)) sum_small
      (elim (is_tail c i) as (λ b. is_tail c i ≡ b
      → (residue (cond b (agg_at p h (i - 1) v l) (old_agg p g i v l))
      + sum_at (word p v l) (cond b (tail_adds p h i) (adds p g h i))) % 2 ^ 64
      ≡ residue (agg_at p h i v l)) [
        | true ↦ λ t. let past = ltb-true c.choice.cut i t in let least = may.some in
            past_cut (omega arith)
        | false ↦ λ t. up_to_cut
      ] refl)

pub words_are_differences : (c : Given) → MayRun c → (s : State) → IsRuled c s
    → (r : Progress) (w : Work) → s.progress ≡ Some r → r.work ≡ Some w
    → is_sum c.program.combine ≡ true → w.iteration ≤ c.program.rounds
    → (v l : ℕ) → v < vertices w.graph → l < lanes c.program
    → (word_in w.words (word c.program v l) + sum_at (word c.program v l) (all_left w.left)) % 2 ^
    64
    ≡ residue (agg_at c.program w.graph w.iteration v l -ℤ cond (is_tail c w.iteration)
    (agg_at c.program w.graph (w.iteration - 1) v l)
    (old_agg c.program s.graph w.iteration v l))
words_are_differences c may s ruled r w is at sum within v l there small =
    let old : IsIterating c s.graph r.entry.batch w = work_is c s ruled r is (Some w) at in
    old.adding.sums sum within (word c.program v l)
    ∙ additions_are_differences c may s.graph w.graph (good_itself c s.graph ruled.current.good)
    (subst (IsGood c.program.limits) (sym old.graph)
    (good_itself c _ (good_round c s.graph r.entry.batch ruled.current.good old.fine)))
    sum w.iteration v l old.some there small
