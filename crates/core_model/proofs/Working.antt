-- Add and Settle keep the rules.
use Rattle.std.proofs.Common.{◌≡◌, ℕ, ◌+◌, ◌-◌, ◌%◌, ◌^◌, ◌<◌, ◌≤◌, true, List, [], ◌∷◌, ◌++◌}
use Rattle.std.proofs.Common.{length, leb, eqb, Option, Some, None, refl, sym, ap, ◌∙◌, subst}
use Rattle.std.proofs.Common.{arith}
use Rattle.std.proofs.Common.{inl, inr, set, length-set}
use Rattle.std.specs.Prelude.{slice_get}
use Rattle.std.specs.List.{All}
use Rattle.std.proofs.lemmas.Bool.{and_parts, cases_lt, cond_both, eqb-true, leb-true}
use Rattle.std.proofs.lemmas.List.{get_or_past, nil_from_length}
use Rattle.std.proofs.lemmas.List.Elements.{All-set}
use Rattle.std.proofs.Math.Nat.{mod-lt, mod-eq_of_lt}
use Rattle.bolt_base.specs.Graph.{Graph, IsGood}
use Rattle.bolt_base.specs.Keep.{Entry}
use Rattle.bolt_base.specs.Residue.{Amount, sum_at}
use Rattle.bolt_base.proofs.AfterLemmas.{no_vertex_lost}
use Rattle.graph_text.specs.declared.batch_text.BatchText.{BatchText}
use Rattle.run_model.specs.Program.{is_sum}
use Rattle.run_model.specs.Rows.{rows_to}
use Rattle.core_model.specs.Iterations.{additions, all_left, next_row, settled, word_in}
use Rattle.core_model.specs.Machine.{add, add_first, add_in, added_to, may_settle, settle}
use Rattle.core_model.specs.Machine.{settle_in, with_work}
use Rattle.core_model.specs.Rules.{IsAdding, IsIterating, IsRuled, MayRun}
use Rattle.core_model.specs.State.{Given, Work, Progress, State}
use Rattle.core_model.specs.declared.step.Effect.{Effect}
use Rattle.core_model.specs.declared.step.Effect.TheVariants.{Done, Nothing}
use Rattle.core_model.proofs.Beginnings.{begins_adding}
use Rattle.core_model.proofs.Gives.{left_still, word_and_left}
use Rattle.core_model.proofs.GoodRounds.{good_itself, good_round}
use Rattle.core_model.proofs.Progressing.{work_goes_on, work_is}
use Rattle.core_model.proofs.RowSteps.{rows_go_on}

-- ---- Add
addition_made : (c : Given) (g : Graph) (w : Work) (k : ℕ) (a : Amount) (rest : List Amount)
    → slice_get w.left k ≡ Some (a ∷ rest) → IsAdding c g w
    → IsAdding c g (record w { words = added_to w.words a; left = set w.left k rest })
addition_made c g w k a rest here old =
    let now : ℕ = (word_in w.words a.word + a.amount) % 2 ^ 64 in
    let long : length (added_to w.words a) ≡ length w.words = length-set w.words a.word now in
    let still = left_still (λ (x : Amount). x.word < length w.words) w.left k a rest here old.there
    in
    record {
      long = long ∙ old.long;
      small = All-set (λ x. x < 2 ^ 64) w.words a.word now (mod-lt _ {m = 2 ^ 64} (omega arith))
          old.small;
      there = subst (λ n. All (λ (x : Amount). x.word < n) (all_left (set w.left k rest)))
          (sym long) still.1;
      sums = λ sum within v. word_and_left w.words w.left k a rest v here still.0
          ∙ old.sums sum within v;
    }

module _ (c : Given) (s : State) (ruled : IsRuled c s) (r : Progress) (is : s.progress ≡ Some r)
  where
    add_first_keeps : (w : Work) (k : ℕ) (x : Option (List Amount)) → r.work ≡ Some w
        → slice_get w.left k ≡ x → IsRuled c (add_first s r w k x).0
    add_first_keeps w k None at here = ruled
    add_first_keeps w k (Some []) at here = ruled
    add_first_keeps w k (Some (a ∷ rest)) at here =
        let old : IsIterating c s.graph r.entry.batch w = work_is c s ruled r is (Some w) at in
        work_goes_on c s ruled r is _ (record {
          fine = old.fine;
          graph = old.graph;
          some = old.some;
          within = old.within;
          rows = old.rows;
          adding = addition_made c s.graph w k a rest here old.adding;
        })

    add_in_keeps : (x : Option Work) (k : ℕ) → r.work ≡ x → IsRuled c (add_in s r x k).0
    add_in_keeps None k at = ruled
    add_in_keeps (Some w) k at = add_first_keeps w k (slice_get w.left k) at refl

pub add_keeps : (c : Given) (s : State) → IsRuled c s → (q : Option Progress) (k : ℕ)
    → s.progress ≡ q → IsRuled c (add s q k).0
add_keeps c s ruled None k is = ruled
add_keeps c s ruled (Some r) k is = add_in_keeps c s ruled r is r.work k refl

-- ---- Settle
-- where nothing is left, each word is the sum of its additions
pub words_are_sums : (c : Given) (g : Graph) (w : Work) → IsAdding c g w
    → w.iteration ≤ c.program.rounds
    → all_left w.left ≡ [] → is_sum c.program.combine ≡ true → (k : ℕ)
    → word_in w.words k ≡ sum_at k (additions c g w.graph w.iteration)
words_are_sums c g w adding within none sum k =
    let small : word_in w.words k < 2 ^ 64 = elim (cases_lt k (length w.words)) [
      | inl there ↦ adding.small k 0 there
      | inr past ↦ let zero = get_or_past w.words k 0 past in omega arith
    ] in
    let same : (word_in w.words k + sum_at k []) % 2 ^ 64 ≡ word_in w.words k =
    ap (λ n. n % 2 ^ 64) (let e : word_in w.words k + sum_at k [] ≡ word_in w.words k = omega arith
    in e) ∙ mod-eq_of_lt small in
    sym same
    ∙ ap (λ (l : List Amount). (word_in w.words k + sum_at k l) % 2 ^ 64) (sym none)
    ∙ adding.sums sum within k

settling_goes_on : (c : Given) → MayRun c → (s : State) → IsRuled c s → (batch : BatchText)
    (w : Work) → IsIterating c s.graph batch w → may_settle c w ≡ true
    → IsIterating c s.graph batch (settled c s.graph s.stored w)
settling_goes_on c may s ruled batch w old ready =
    let p = c.program in
    let g = s.graph in
    let both = and_parts (leb w.iteration p.rounds) (eqb (length (all_left w.left)) 0) ready in
    let within = leb-true w.iteration p.rounds both.0 in
    let none = nil_from_length (all_left w.left)
    (eqb-true (length (all_left w.left)) 0 both.1) in
    let good_g = good_itself c g ruled.current.good in
    let good_h : IsGood p.limits w.graph = subst (IsGood p.limits) (sym old.graph)
    (good_itself c _ (good_round c g batch ruled.current.good old.fine)) in
    let rows = w.rows ++ next_row c g s.stored w ∷ [] in
    let next : rows ≡ rows_to p w.graph w.iteration =
    ap (λ (kept : List (List Entry)). w.rows ++ next_row c g kept w ∷ []) ruled.current.stored
    ∙ rows_go_on c may g good_g w good_h old.some within old.rows
    (words_are_sums c g w old.adding within none) in
    record {
      fine = old.fine;
      graph = old.graph;
      some = omega arith;
      within = omega arith;
      rows = next ∙ ap (rows_to p w.graph)
          (let e : w.iteration ≡ w.iteration + 1 - 1 = omega arith in e);
      adding = begins_adding c may g w.graph good_g good_h
          (subst (λ (h : Graph). length g.attrs ≤ length h.attrs) (sym old.graph)
          (no_vertex_lost g batch.edits)) (w.iteration + 1) rows;
    }

settle_in_keeps : (c : Given) → MayRun c → (s : State) → IsRuled c s → (r : Progress)
    → s.progress ≡ Some r → (x : Option Work) → r.work ≡ x → IsRuled c (settle_in c s r x).0
settle_in_keeps c may s ruled r is None at = ruled
settle_in_keeps c may s ruled r is (Some w) at =
    cond_both (may_settle c w) (with_work s r (settled c s.graph s.stored w), Done) (s, Nothing)
    (λ (x : State × Effect). IsRuled c x.0)
    (λ ready. work_goes_on c s ruled r is _ (settling_goes_on c may s ruled r.entry.batch w
    (work_is c s ruled r is (Some w) at) ready))
    (λ not. ruled)

pub settle_keeps : (c : Given) → MayRun c → (s : State) → IsRuled c s → (q : Option Progress)
    → s.progress ≡ q → IsRuled c (settle c s q).0
settle_keeps c may s ruled None is = ruled
settle_keeps c may s ruled (Some r) is = settle_in_keeps c may s ruled r is r.work refl
