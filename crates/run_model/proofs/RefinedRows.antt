-- Entries that are put over old rows make the new rows, iteration after iteration.
use Rattle.std.proofs.Common.{◌≡◌, ℕ, ℤ, pos, zero, suc, ◌+◌, ◌-◌, ◌<◌, ◌≤◌, ◌+ℤ◌, Bool, true}
use Rattle.std.proofs.Common.{false, ◌||◌, cond, List, [], Option, Some, None, length, get_or}
use Rattle.std.proofs.Common.{refl, sym, ap, ◌∙◌, subst, arith, inl, inr, w64}
use Rattle.std.specs.Prelude.{unwrap_or}
use Rattle.std.specs.Int.{cast_signed, int_wrap}
use Rattle.std.proofs.lemmas.Bool.{cases_lt, cases_eq}
use Rattle.std.proofs.lemmas.List.FromFn.{fill_by_all, get_or-map-range_with_len}
use Rattle.bolt_base.specs.Graph.{Graph, IsGood, vertices}
use Rattle.bolt_base.specs.Keep.{Entry, no_entry}
use Rattle.bolt_base.specs.Residue.{sum_at}
use Rattle.bolt_base.specs.RowTable.{entry_at}
use Rattle.vertex_expr.specs.declared.program.Combine.{Combine}
use Rattle.vertex_expr.specs.declared.program.Combine.TheVariants.{Sum, Min, Max}
use Rattle.vertex_expr.specs.declared.program.ProgramEntries.{ProgramEntries}
use Rattle.range_check.specs.Breaks.{IsAccepted}
use Rattle.range_check.specs.Gathered.{empty_of}
use Rattle.run_model.specs.Additions.{adds, adds_of, items, tail_adds, word}
use Rattle.run_model.specs.Program.{lanes, by_lane, number, zeros, is_sum}
use Rattle.run_model.specs.Refined.{Puts, laid, laid_values, row_values, seen_step, with_words}
use Rattle.run_model.specs.Refined.{target_agg, agg_again, entry_again, had, put_first, put_again}
use Rattle.run_model.specs.Refined.{is_again, IsRefined, AreRefined, tail_seen, aggs_again}
use Rattle.run_model.specs.Refined.{value_again, values_again, AreTailRows}
use Rattle.run_model.specs.RefineLaws.{LeadOn}
use Rattle.run_model.specs.Rows.{Lists, at, row, aggr, agg_at, begun, gathered, applied}
use Rattle.run_model.specs.Rows.{entry, entries, rows_to}
use Rattle.run_model.specs.Steps.{Step, step, tail_step, is_new, is_target, is_applied, is_begun}
use Rattle.run_model.specs.Steps.{value_changed, attr_changed, old_agg, is_tail_target, is_active}
use Rattle.run_model.proofs.InRange.{at_lane, at_vertex, length-by_lane}
use Rattle.run_model.proofs.Iteration.{aggr_is, row_is, new_is}
use Rattle.run_model.proofs.KeptLemmas.{get_or-zip}
use Rattle.run_model.proofs.Refinement.{there_if, taken_sums_refined, aggregates_stay, entries_stay}
use Rattle.run_model.proofs.Refinement.{beginnings_stay, is_tail, same_target}
use Rattle.run_model.proofs.Refinement.{tail_taken_sums_refined, tail_aggregates_stay}
use Rattle.run_model.proofs.Refinement.{tail_entries_stay}
use Rattle.run_model.proofs.RowLemmas.{values_whole, aggregates_whole}
use Rattle.run_model.proofs.Still.{or_false, not_new}

-- ---- rows and lanes
pub row_entry : (p : ProgramEntries) (g : Graph) (cut i v : ℕ) → i ≤ cut → v < vertices g
    → entry_at (rows_to p g cut) i v ≡ entry p g i v
row_entry p g cut i v low there =
    let a = (aggregates_whole p g i).each_vertex in
    let b = (values_whole p g i).each_vertex in
    ap (λ r. get_or r v no_entry) (get_or-map-range_with_len (entries p g) 0 (cut + 1) i i []
    (omega arith) (omega arith))
    ∙ get_or-zip (aggr p g i) (row p g i) v (omega arith) (omega arith)

agg_long : (p : ProgramEntries) (g : Graph) (i v : ℕ) → 1 ≤ i → v < vertices g
    → length (at (aggr p g i) v) ≡ lanes p
agg_long p g i v some there = ap length (aggr_is p g i v some there) ∙ length-by_lane p _

lane_by_lane : (p : ProgramEntries) (xs : List ℤ) (f : ℕ → ℤ) → length xs ≡ lanes p
    → ((l : ℕ) → l < lanes p → number xs l ≡ f l) → xs ≡ by_lane p f
lane_by_lane p xs f long h = fill_by_all f xs (lanes p) (pos 0) long h

sum_if : (c : Combine) → is_sum c ≡ true → c ≡ Sum
sum_if Sum t = refl
sum_if (Min e) t = absurd (cc)
sum_if (Max e) t = absurd (cc)

-- ---- one vertex at an iteration up to the cut
module _ (p : ProgramEntries) (g h : Graph) (good_g : IsGood p.limits g) (cut i v : ℕ)
    (low : i ≤ cut) where
  old_is : v < vertices g → had p g (rows_to p g cut) i v ≡ at (aggr p g i) v
  old_is there =
      ap (λ b. cond b (by_lane p (λ _. empty_of p.combine)) (entry_at (rows_to p g cut) i v).0)
      (not_new (vertices g) v there)
      ∙ ap (λ (e : Entry). e.0) (row_entry p g cut i v low there)

  had_is : 1 ≤ i → had p g (rows_to p g cut) i v ≡ by_lane p (old_agg p g i v)
  had_is some =
      elim (cases_lt v (vertices g)) [
        | inl there ↦
            old_is there
            ∙ lane_by_lane p (at (aggr p g i) v) (old_agg p g i v) (agg_long p g i v some there)
            (λ l small. sym (ap (λ b. cond b (empty_of p.combine) (agg_at p g i v l))
            (not_new (vertices g) v there)))
        | inr past ↦
            let n = new_is g v past in
            ap (λ b. cond b (by_lane p (λ _. empty_of p.combine))
            (entry_at (rows_to p g cut) i v).0) n
            ∙ (λ j. by_lane p (λ l. cond (sym n j) (empty_of p.combine) (agg_at p g i v l)))
      ]

  module _ (safe : IsAccepted p) (good_h : IsGood p.limits h) (some : 1 ≤ i)
      (there : v < vertices h) where
    abbrev s : Step
    s = step p g h i

    abbrev was_agg : List ℤ
    was_agg = had p g (rows_to p g cut) i v

    number_had : (l : ℕ) → l < lanes p → number was_agg l ≡ old_agg p g i v l
    number_had l small = ap (λ xs. number xs l) (had_is some) ∙ at_lane p (old_agg p g i v) l small

    target_is : target_agg p s was_agg v ≡ at (aggr p h i) v
    target_is =
        elim (is_sum p.combine) as (λ b. is_sum p.combine ≡ b
        → cond b (with_words p (adds p g h i) was_agg v) (gathered p h (row p h (i - 1)) v)
        ≡ at (aggr p h i) v) [
          | true ↦ λ t. sym (lane_by_lane p (at (aggr p h i) v)
              (λ l. int_wrap w64 (number was_agg l +ℤ cast_signed w64
              (sum_at (word p v l) (adds p g h i)))) (agg_long p h i v some there)
              (λ l small. sym (ap (λ z. int_wrap w64
              (z +ℤ cast_signed w64 (sum_at (word p v l) (adds p g h i)))) (number_had l small)
              ∙ taken_sums_refined p g h safe (sum_if p.combine t) good_g good_h i v l some there
              small)))
          | false ↦ λ t. sym (aggr_is p h i v some there)
        ] refl

    agg_is_again : agg_again p s was_agg v ≡ at (aggr p h i) v
    agg_is_again =
        elim (is_target p s v) as (λ b. is_target p s v ≡ b
        → cond b (target_agg p s was_agg v) was_agg ≡ at (aggr p h i) v) [
          | true ↦ λ t. target_is
          | false ↦ λ t. had_is some
              ∙ sym (lane_by_lane p (at (aggr p h i) v) (old_agg p g i v)
              (agg_long p h i v some there)
              (λ l small. aggregates_stay p g h good_g i v l some there small t))
        ] refl

    pub entry_is_again : entry_again p s was_agg v ≡ entry p h i v
    entry_is_again =
        let a = agg_is_again in
        λ j. (
          a j,
          (ap (λ xs. applied p h xs (at (row p h (i - 1)) v) v) a
              ∙ sym (row_is p h i v some there)) j,
        )

-- ---- what was put
put_right : (b : Bool) (o : Option Entry) (x y e : Entry) → o ≡ cond b (Some x) None → x ≡ y
    → o ≡ Some e → e ≡ y
put_right true o x y e t same u = ap (λ q. unwrap_or q y) (sym u ∙ t) ∙ same
put_right false o x y e t same u = absurd (let k = sym t ∙ u in cc)

put_rest : (b : Bool) (o : Option Entry) (x : Entry) → o ≡ cond b (Some x) None → o ≡ None
    → b ≡ false
put_rest true o x t u = absurd (let k = sym t ∙ u in cc)
put_rest false o x t u = refl

again_is : (p : ProgramEntries) (g h : Graph) (i v : ℕ) → 1 ≤ i
    → is_again p g h i v ≡ is_applied p (step p g h i) v
again_is p g h zero v some = absurd (omega arith)
again_is p g h (suc i) v some = refl

pub refinement_begins : (p : ProgramEntries) (g h : Graph) (put : Puts) (v : ℕ) → v < vertices h
    → put 0 v ≡ put_first p g h v → IsRefined p g h put 0 v
refinement_begins p g h put v there t =
    let x : Entry = (zeros p, begun p h v) in
    let same : x ≡ entry p h 0 v = λ j.
    (sym (at_vertex h (λ _. zeros p) v there) j, sym (at_vertex h (begun p h) v there) j) in
    record {
      right = λ e u. put_right (is_begun (step p g h 0) v) (put 0 v) x (entry p h 0 v) e t same u;
      rest = λ u. put_rest (is_begun (step p g h 0) v) (put 0 v) x t u;
    }

module _ (p : ProgramEntries) (g h : Graph) (good_g : IsGood p.limits g) (put : Puts) (cut : ℕ)
  where
    entry_stays : (i v : ℕ) → i ≤ cut → v < vertices h → is_again p g h i v ≡ false
        → entry_at (rows_to p g cut) i v ≡ entry p h i v
    entry_stays zero v low there calm =
        let one = or_false (is_new g v) (attr_changed (step p g h 0) v) calm in
        row_entry p g cut 0 v low (there_if g v one.0) ∙ sym (beginnings_stay p g h 0 v there calm)
    entry_stays (suc i) v low there calm =
        let s : Step = step p g h (suc i) in
        let three = or_false (is_new g v || is_target p s v || value_changed s v) (attr_changed s v)
        calm in
        let two = or_false (is_new g v || is_target p s v) (value_changed s v) three.0 in
        let one = or_false (is_new g v) (is_target p s v) two.0 in
        row_entry p g cut (suc i) v low (there_if g v one.0)
        ∙ sym (entries_stay p g h good_g (suc i) v (omega arith) there calm)

    pub laid_is : (i v : ℕ) → i ≤ cut → v < vertices h → IsRefined p g h put i v
        → laid put (rows_to p g cut) i v ≡ entry p h i v
    laid_is i v low there r =
        elim (put i v) as (λ o. put i v ≡ o → unwrap_or o (entry_at (rows_to p g cut) i v)
        ≡ entry p h i v) [
          | Some e ↦ λ t. r.right e t
          | None ↦ λ t. entry_stays i v low there (r.rest t)
        ] refl

    pub seen_is : (i : ℕ) → 1 ≤ i → i ≤ cut → AreRefined p g h put i
        → seen_step g h put (rows_to p g cut) i ≡ step p g h i
    seen_is i some low rs =
        let old : row_values (vertices g) (rows_to p g cut) (i - 1) ≡ row p g (i - 1) =
        sym (fill_by_all (λ v. (entry_at (rows_to p g cut) (i - 1) v).1) (row p g (i - 1))
        (vertices g) [] (values_whole p g (i - 1)).each_vertex
        (λ v there. sym (ap (λ (e : Entry). e.1)
        (row_entry p g cut (i - 1) v (omega arith) there))))
        in
        let new : laid_values (vertices h) put (rows_to p g cut) (i - 1) ≡ row p h (i - 1) =
        sym (fill_by_all (λ v. (laid put (rows_to p g cut) (i - 1) v).1) (row p h (i - 1))
        (vertices h) [] (values_whole p h (i - 1)).each_vertex
        (λ v there. sym (ap (λ (e : Entry). e.1)
        (laid_is (i - 1) v (omega arith) there (rs (i - 1) v (omega arith) there))))) in
        λ j. record { old_graph = g; new_graph = h; old_row = old j; new_row = new j }

    pub refinement_goes_on : IsAccepted p → IsGood p.limits h → (i v : ℕ) → 1 ≤ i → i ≤ cut
        → v < vertices h → AreRefined p g h put i
        → put i v ≡ put_again p g h put (rows_to p g cut) i v → IsRefined p g h put i v
    refinement_goes_on safe good_h i v some low there rs t =
        let s : Step = step p g h i in
        let x : Entry = entry_again p s (had p g (rows_to p g cut) i v) v in
        let as_step : put i v ≡ cond (is_applied p s v) (Some x) None =
        t ∙ ap (λ (q : Step). cond (is_applied p q v)
        (Some (entry_again p q (had p g (rows_to p g cut) i v) v)) None) (seen_is i some low rs)
        in
        record {
          right = λ e u. put_right (is_applied p s v) (put i v) x (entry p h i v) e as_step
              (entry_is_again p g h good_g cut i v low safe good_h some there) u;
          rest = λ u. again_is p g h i v some ∙ put_rest (is_applied p s v) (put i v) x as_step u;
        }

    pub refinement_leads_on : AreRefined p g h put (cut + 1) → LeadOn p g h put cut
    refinement_leads_on rs = record {
      right = λ i v e low there t. (rs i v (omega arith) there).right e t
          ∙ sym (row_entry p h cut i v low there);
      rest = λ i v low there t. entry_stays i v low there ((rs i v (omega arith) there).rest t)
          ∙ sym (row_entry p h cut i v low there);
    }

pub refinement_grows : (p : ProgramEntries) (g h : Graph) (put : Puts) (i : ℕ)
    → AreRefined p g h put i → ((v : ℕ) → v < vertices h → IsRefined p g h put i v)
    → AreRefined p g h put (i + 1)
refinement_grows p g h put i rs here k v small there =
    elim (cases_eq k i) [
      | inl same ↦ subst (λ q. IsRefined p g h put q v) (sym same) (here v there)
      | inr apart ↦ rs k v (omega arith) there
    ]

-- ---- past the cut
module _ (p : ProgramEntries) (h : Graph) (safe : IsAccepted p) (good : IsGood p.limits h) (i : ℕ)
    (some : 2 ≤ i) where
  abbrev tail : Step
  tail = tail_step p h i

  tail_target_is : (v : ℕ) → v < vertices h → target_agg p tail (at (aggr p h (i - 1)) v) v
      ≡ at (aggr p h i) v
  tail_target_is v there =
      let amounts = (is_tail p h i).amounts in
      elim (is_sum p.combine) as (λ b. is_sum p.combine ≡ b
      → cond b (with_words p (adds_of p tail (items p tail)) (at (aggr p h (i - 1)) v) v)
      (gathered p h (row p h (i - 1)) v) ≡ at (aggr p h i) v) [
        | true ↦ λ t. ap (λ a. with_words p a (at (aggr p h (i - 1)) v) v) amounts
            ∙ sym (lane_by_lane p (at (aggr p h i) v)
            (λ l. int_wrap w64 (agg_at p h (i - 1) v l +ℤ cast_signed w64
            (sum_at (word p v l) (tail_adds p h i)))) (agg_long p h i v (omega arith) there)
            (λ l small. sym (tail_taken_sums_refined p h i safe (sum_if p.combine t) good v l some
            there small)))
        | false ↦ λ t. sym (aggr_is p h i v (omega arith) there)
      ] refl

  tail_agg_is : (v : ℕ) → v < vertices h → agg_again p tail (at (aggr p h (i - 1)) v) v
      ≡ at (aggr p h i) v
  tail_agg_is v there =
      elim (is_target p tail v) as (λ b. is_target p tail v ≡ b
      → cond b (target_agg p tail (at (aggr p h (i - 1)) v) v) (at (aggr p h (i - 1)) v)
      ≡ at (aggr p h i) v) [
        | true ↦ λ t. tail_target_is v there
        | false ↦ λ t. lane_by_lane p (at (aggr p h (i - 1)) v) (agg_at p h (i - 1) v)
            (agg_long p h (i - 1) v (omega arith) there) (λ l small. refl)
            ∙ sym (lane_by_lane p (at (aggr p h i) v) (agg_at p h (i - 1) v)
            (agg_long p h i v (omega arith) there)
            (λ l small. tail_aggregates_stay p h i good v l some there small
            (sym (same_target p h i v) ∙ t)))
      ] refl

  neither_or : (a b : Bool) → a ≡ false → b ≡ false → (a || b) ≡ false
  neither_or a b e f = rw (e, f) refl

  tail_value_is : (v : ℕ) → v < vertices h → value_again p tail (aggr p h i) v ≡ at (row p h i) v
  tail_value_is v there =
      elim (is_applied p tail v) as (λ b. is_applied p tail v ≡ b
      → cond b (applied p h (at (aggr p h i) v) (at (row p h (i - 1)) v) v)
      (at (row p h (i - 1)) v) ≡ at (row p h i) v) [
        | true ↦ λ t. sym (row_is p h i v (omega arith) there)
        | false ↦ λ t.
            let three = or_false (is_new h v || is_target p tail v || value_changed tail v)
            (attr_changed tail v) t in
            let two = or_false (is_new h v || is_target p tail v) (value_changed tail v) three.0 in
            let one = or_false (is_new h v) (is_target p tail v) two.0 in
            let calm = neither_or (is_tail_target p h i v) (is_active p h i v)
            (sym (same_target p h i v) ∙ one.1) two.1 in
            sym (ap (λ (e : Entry). e.1) (tail_entries_stay p h i good v some there calm))
      ] refl

  tail_aggs_are : aggs_again p tail (aggr p h (i - 1)) ≡ aggr p h i
  tail_aggs_are = sym (fill_by_all (λ v. agg_again p tail (at (aggr p h (i - 1)) v) v) (aggr p h i)
      (vertices h) [] (aggregates_whole p h i).each_vertex (λ v there. sym (tail_agg_is v there)))

  tail_values_are : values_again p tail (aggr p h i) ≡ row p h i
  tail_values_are = sym (fill_by_all (value_again p tail (aggr p h i)) (row p h i) (vertices h) []
      (values_whole p h i).each_vertex (λ v there. sym (tail_value_is v there)))

  pub tail_rows_go_on : (aggs vals before : Lists) → AreTailRows p h (i - 1) aggs vals before
      → AreTailRows p h i (aggs_again p (tail_seen h before vals) aggs)
      (values_again p (tail_seen h before vals) (aggs_again p (tail_seen h before vals) aggs))
      vals
  tail_rows_go_on aggs vals before r =
      let e : i - 1 - 1 ≡ i - 2 = omega arith in
      let first : before ≡ row p h (i - 2) = r.before ∙ ap (row p h) e in
      let s_is : tail_seen h before vals
      ≡ tail = λ j. record {
        old_graph = h;
        new_graph = h;
        old_row = first j;
        new_row = r.values j;
      } in
      let next : aggs_again p (tail_seen h before vals) aggs
      ≡ aggr p h i = (λ j. aggs_again p (s_is j) (r.aggregates j)) ∙ tail_aggs_are in
      record {
        aggregates = next;
        values = (λ j. values_again p (s_is j) (next j)) ∙ tail_values_are;
        before = r.values;
      }
