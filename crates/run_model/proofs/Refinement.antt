-- The laws of an iteration, up to the cut and past it.
use Rattle.std.proofs.Common.{◌≡◌, ℕ, ℤ, pos, zero, suc, ◌+◌, ◌-◌, ◌%◌, ◌^◌, ◌<◌, ◌≤◌, ◌+ℤ◌, Bool}
use Rattle.std.proofs.Common.{true, false, not, ◌||◌, ◌&&◌, cond, eqb, List, [], ◌∷◌, ◌++◌, length}
use Rattle.std.proofs.Common.{get_or, map, filter, refl, sym, ap, ◌∙◌, subst, arith, inl, inr}
use Rattle.std.proofs.Common.{FitsSigned, w64}
use Rattle.std.specs.Int.{cast_signed, int_wrap}
use Rattle.std.proofs.lemmas.Int.{wrapping_add-bits}
use Rattle.std.proofs.Math.Nat.{mod-lt}
use Rattle.std.specs.Ordering.{int_eq}
use Rattle.std.specs.Cmp.{signed_Decides}
use Rattle.std.specs.Cmp.Lexicographic.{pointwise}
use Rattle.std.specs.List.{flat_map, list_any, range_with_len}
use Rattle.std.proofs.lemmas.Bool.{eq-eqb, cases_lt}
use Rattle.std.proofs.lemmas.List.Concat.{flat_map-append}
use Rattle.bolt_base.specs.Change.{stayed, attr_at}
use Rattle.bolt_base.specs.Graph.{Graph, IsGood, edges, in_edges, vertices, outdeg}
use Rattle.bolt_base.specs.Residue.{Amount, residue, sum_at}
use Rattle.bolt_base.proofs.ResidueLemmas.{signed-residue, residue-lt}
use Rattle.bolt_base.proofs.SelfChange.{removed-self, added-self, stayed-self}
use Rattle.vertex_expr.specs.Meaning.{ev}
use Rattle.vertex_expr.specs.declared.program.Combine.TheVariants.{Sum}
use Rattle.vertex_expr.specs.declared.program.ProgramEntries.{ProgramEntries}
use Rattle.run_model.specs.Additions.{Item, removed_edge, added_edge, dirty_vertex, item_adds}
use Rattle.run_model.specs.Additions.{adds_of, items, was, now, word, adds, tail_adds, tail_adds_of}
use Rattle.run_model.specs.Additions.{tail_items}
use Rattle.run_model.specs.TailLaws.{IsTail}
use Rattle.range_check.specs.Gathered.{empty_of}
use Rattle.range_check.specs.Laws.{tree_at}
use Rattle.run_model.specs.Program.{lanes, params, by_lane, zeros}
use Rattle.run_model.specs.Rows.{at, row, aggr, agg_at, begun, gathered, gathered_over, applied}
use Rattle.run_model.specs.Rows.{contribution, entry}
use Rattle.range_check.specs.Breaks.{IsAccepted}
use Rattle.run_model.specs.Steps.{Step, step, tail_step, is_new, value_changed, degree_changed}
use Rattle.run_model.specs.Steps.{attr_changed, reads_outdeg, reads_attr, is_dirty, dirty}
use Rattle.run_model.specs.Steps.{is_target, is_applied, is_begun, old_agg, is_active, active}
use Rattle.run_model.specs.Steps.{is_tail_target, is_tail_applied}
use Rattle.run_model.proofs.InRange.{at_vertex}
use Rattle.run_model.proofs.Iteration.{aggr_is, agg_is, row_is, old_agg_is, stayed_within}
use Rattle.run_model.proofs.Iteration.{new_residue, new_is}
use Rattle.run_model.proofs.Others.{no_target_keeps}
use Rattle.run_model.proofs.RowLemmas.{aggregates_fit, values_whole}
use Rattle.run_model.proofs.Still.{or_false, not_new, same_value, same_attr}

pub there_if : (g : Graph) (v : ℕ) → is_new g v ≡ false → v < vertices g
there_if g v e = elim (cases_lt v (vertices g))
    [ inl h ↦ h | inr h ↦ let n = new_is g v h in absurd (cc) ]

-- ---- up to the cut
pub sums_refined : (p : ProgramEntries) (g h : Graph) → IsAccepted p → p.combine ≡ Sum
    → IsGood p.limits g → IsGood p.limits h
    → (i v l : ℕ) → 1 ≤ i → v < vertices h → l < lanes p
    → cast_signed w64 ((residue (old_agg p g i v l) + sum_at (word p v l) (adds p g h i)) % 2 ^ 64)
    ≡ agg_at p h i v l
sums_refined p g h safe sum good_g good_h i v l some there small =
    let is = agg_is p h i v l some there small in
    ap (λ z. cast_signed w64 ((residue z + sum_at (word p v l) (adds p g h i)) % 2 ^ 64))
    (old_agg_is p g i v l good_g some small)
    ∙ ap (cast_signed w64) (new_residue p (step p g h i) v l (stayed_within g h good_g.ends) sum
    small)
    ∙ signed-residue (gathered_over p (contribution p h (row p h (i - 1))) (in_edges h v) l)
    (subst (FitsSigned w64) is (aggregates_fit p h safe good_h i v l there small))
    ∙ sym is

-- adding what is taken from a word, with wrap-around
wrapped_residue : (a : ℤ) (n : ℕ) (z : ℤ) → FitsSigned w64 a → n < 2 ^ 64
    → cast_signed w64 ((residue a + n) % 2 ^ 64) ≡ z → int_wrap w64 (a +ℤ cast_signed w64 n) ≡ z
wrapped_residue a n z f small e =
    ap (λ b. int_wrap w64 (b +ℤ cast_signed w64 n)) (sym (signed-residue a f))
    ∙ sym (wrapping_add-bits w64 (residue a) n (residue-lt a) small) ∙ e

sum_at-lt : (w : ℕ) (amounts : List Amount) → sum_at w amounts < 2 ^ 64
sum_at-lt w amounts = mod-lt _ {m = 2 ^ 64} (omega arith)

old_agg_fits : (p : ProgramEntries) (g : Graph) → IsAccepted p → p.combine ≡ Sum
    → IsGood p.limits g → (i v l : ℕ) → l < lanes p → FitsSigned w64 (old_agg p g i v l)
old_agg_fits p g safe sum good i v l small =
    elim (cases_lt v (vertices g)) [
      | inl there ↦ subst (λ b. FitsSigned w64 (cond b (empty_of p.combine) (agg_at p g i v l)))
          (sym (not_new (vertices g) v there)) (aggregates_fit p g safe good i v l there small)
      | inr h ↦ subst (λ b. FitsSigned w64 (cond b (empty_of p.combine) (agg_at p g i v l)))
          (sym (new_is g v h))
          (subst (λ c. FitsSigned w64 (empty_of c)) (sym sum) (record { sfits = omega arith }))
    ]

pub taken_sums_refined : (p : ProgramEntries) (g h : Graph) → IsAccepted p → p.combine ≡ Sum
    → IsGood p.limits g → IsGood p.limits h
    → (i v l : ℕ) → 1 ≤ i → v < vertices h → l < lanes p
    → int_wrap w64 (old_agg p g i v l +ℤ cast_signed w64 (sum_at (word p v l) (adds p g h i)))
    ≡ agg_at p h i v l
taken_sums_refined p g h safe sum good_g good_h i v l some there small =
    wrapped_residue (old_agg p g i v l) (sum_at (word p v l) (adds p g h i)) (agg_at p h i v l)
    (old_agg_fits p g safe sum good_g i v l small) (sum_at-lt (word p v l) (adds p g h i))
    (sums_refined p g h safe sum good_g good_h i v l some there small)

pub aggregates_stay : (p : ProgramEntries) (g h : Graph) → IsGood p.limits g → (i v l : ℕ) → 1 ≤ i
    → v < vertices h → l < lanes p
    → is_target p (step p g h i) v ≡ false → agg_at p h i v l ≡ old_agg p g i v l
aggregates_stay p g h good i v l some there small none =
    agg_is p h i v l some there small
    ∙ no_target_keeps p (step p g h i) v l (stayed_within g h good.ends) none
    ∙ sym (old_agg_is p g i v l good some small)

pub entries_stay : (p : ProgramEntries) (g h : Graph) → IsGood p.limits g → (i v : ℕ) → 1 ≤ i
    → v < vertices h
    → is_applied p (step p g h i) v ≡ false → entry p h i v ≡ entry p g i v
entries_stay p g h good i v some there calm =
    let s : Step = step p g h i in
    let three = or_false (is_new g v || is_target p s v || value_changed s v) (attr_changed s v)
    calm in
    let two = or_false (is_new g v || is_target p s v) (value_changed s v) three.0 in
    let one = or_false (is_new g v) (is_target p s v) two.0 in
    let was_there = there_if g v one.0 in
    let agg : at (aggr p h i) v ≡ at (aggr p g i) v =
    aggr_is p h i v some there ∙ (λ j. by_lane p
    (λ l. no_target_keeps p s v l (stayed_within g h good.ends) one.1 j))
    ∙ sym (aggr_is p g i v some was_there) in
    let value : at (row p h (i - 1)) v ≡ at (row p g (i - 1)) v = same_value s v two.1 in
    let attr : attr_at h v ≡ attr_at g v = same_attr s v three.1 in
    let val : at (row p h i) v ≡ at (row p g i) v =
    row_is p h i v some there
    ∙ (λ j. by_lane p (λ l. ev (params p)
    (record {
      val = zeros p;
      agg = agg j;
      old = value j;
      outdeg = 0;
      weight = pos 0;
      attr = attr j;
      id = v;
    }) (tree_at p.apply l)))
    ∙ sym (row_is p g i v some was_there) in
    λ j. (agg j, val j)

pub beginnings_stay : (p : ProgramEntries) (g h : Graph) (i v : ℕ) → v < vertices h
    → is_begun (step p g h i) v ≡ false → entry p h 0 v ≡ entry p g 0 v
beginnings_stay p g h i v there calm =
    let s : Step = step p g h i in
    let one = or_false (is_new g v) (attr_changed s v) calm in
    let was_there = there_if g v one.0 in
    let attr : attr_at h v ≡ attr_at g v = same_attr s v one.1 in
    let agg : at (aggr p h 0) v ≡ at (aggr p g 0) v = at_vertex h (λ _. zeros p) v there
    ∙ sym (at_vertex g (λ _. zeros p) v was_there) in
    let val : at (row p h 0) v ≡ at (row p g 0) v =
    at_vertex h (begun p h) v there
    ∙ (λ j. by_lane p (λ l. ev (params p)
    (record {
      val = zeros p;
      agg = zeros p;
      old = zeros p;
      outdeg = 0;
      weight = pos 0;
      attr = attr j;
      id = v;
    }) (tree_at p.init l)))
    ∙ sym (at_vertex g (begun p g) v was_there) in
    λ j. (agg j, val j)

pub adds-append : (p : ProgramEntries) (s : Step) (xs ys : List Item)
    → adds_of p s (xs ++ ys) ≡ adds_of p s xs ++ adds_of p s ys
adds-append p s xs ys = flat_map-append
    (item_adds p (stayed s.old_graph s.new_graph) (was p s) (now p s)) xs ys

-- ---- past it
module _ (p : ProgramEntries) (h : Graph) (i : ℕ) where
  abbrev s : Step
  s = tail_step p h i

  only_value : (a c e : Bool) → (a || false && c || false && e) ≡ a
  only_value true c e = refl
  only_value false c e = refl

  none_beyond : (xs : List (List ℤ)) (u : ℕ) → length xs ≤ u → get_or xs u [] ≡ []
  none_beyond [] u l = refl
  none_beyond (x ∷ xs) zero l = absurd (omega arith)
  none_beyond (x ∷ xs) (suc u) l = none_beyond xs u (omega arith)

  same_dirt : (u : ℕ) → is_dirty p s u ≡ is_active p h i u
  same_dirt u =
      elim (cases_lt u (vertices h)) [
        | inl there ↦
            let degree : degree_changed s u
            ≡ false = ap not (eq-eqb (outdeg h u) (outdeg h u) refl) in
            let attr : attr_changed s u
            ≡ false = ap not ((signed_Decides (attr_at h u) (attr_at h u)).1 refl) in
            ap (λ b. not b && (value_changed s u || degree_changed s u && reads_outdeg p ||
            attr_changed s u && reads_attr p)) (not_new (vertices h) u there)
            ∙ (λ j. value_changed s u || degree j && reads_outdeg p || attr j && reads_attr p)
            ∙ only_value (value_changed s u) (reads_outdeg p) (reads_attr p)
        | inr l ↦
            let a = (values_whole p h (i - 2)).each_vertex in
            let b = (values_whole p h (i - 1)).each_vertex in
            ap (λ b. not b && (value_changed s u || degree_changed s u && reads_outdeg p ||
            attr_changed s u && reads_attr p)) (new_is h u l)
            ∙ sym (λ j. not (pointwise int_eq (none_beyond (row p h (i - 2)) u (omega arith) j)
            (none_beyond (row p h (i - 1)) u (omega arith) j)))
      ]

  same_dirty : dirty p s ≡ active p h i
  same_dirty = λ j. filter (λ u. same_dirt u j) (range_with_len 0 (vertices h))

  pub same_target : (v : ℕ) → is_target p s v ≡ is_tail_target p h i v
  same_target v = λ j. list_any (λ e. eqb e.dst v) (removed-self h j) || list_any
      (λ e. eqb e.dst v) (added-self h j) || list_any (λ e. eqb e.dst v && same_dirt e.src j)
      (edges h)

  same_items : items p s ≡ tail_items p h i
  same_items = λ j. map removed_edge (removed-self h j) ++ map added_edge (added-self h j)
      ++ map dirty_vertex (same_dirty j)

  same_adds : adds_of p s (items p s) ≡ tail_adds p h i
  same_adds = λ j. flat_map (item_adds p (stayed-self h j) (was p s) (now p s)) (same_items j)

  pub same_adds_of : (its : List Item) → adds_of p s its ≡ tail_adds_of p h i its
  same_adds_of its = λ j. flat_map (item_adds p (stayed-self h j) (was p s) (now p s)) its

  pub is_tail : IsTail p h i
  is_tail = record {
    sources = same_dirty;
    ends = λ j. filter (λ v. same_target v j) (range_with_len 0 (vertices h));
    work = same_items;
    amounts = same_adds;
  }

  two_back : (v l : ℕ) → 2 ≤ i → v < vertices h → l < lanes p
      → agg_at p h (i - 1) v l ≡ gathered_over p (was p s) (in_edges h v) l
  two_back v l some there small =
      let e : i - 1 - 1 ≡ i - 2 = omega arith in
      agg_is p h (i - 1) v l (omega arith) there small
      ∙ ap (λ k. gathered_over p (contribution p h (row p h k)) (in_edges h v) l) e

  pub tail_sums_refined : IsAccepted p → p.combine ≡ Sum → IsGood p.limits h → (v l : ℕ) → 2 ≤ i
      → v < vertices h → l < lanes p
      → cast_signed w64 ((residue (agg_at p h (i - 1) v l) + sum_at (word p v l) (tail_adds p h i))
      % 2 ^ 64) ≡ agg_at p h i v l
  tail_sums_refined safe sum good v l some there small =
      let is = agg_is p h i v l (omega arith) there small in
      (λ j. cast_signed w64 ((residue (two_back v l some there small j) + sum_at (word p v l)
      (sym same_adds j)) % 2 ^ 64))
      ∙ ap (cast_signed w64) (new_residue p s v l (stayed_within h h good.ends) sum small)
      ∙ signed-residue (gathered_over p (contribution p h (row p h (i - 1))) (in_edges h v) l)
      (subst (FitsSigned w64) is (aggregates_fit p h safe good i v l there small))
      ∙ sym is

  pub tail_taken_sums_refined : IsAccepted p → p.combine ≡ Sum → IsGood p.limits h → (v l : ℕ)
      → 2 ≤ i → v < vertices h → l < lanes p
      → int_wrap w64 (agg_at p h (i - 1) v l +ℤ cast_signed w64
      (sum_at (word p v l) (tail_adds p h i))) ≡ agg_at p h i v l
  tail_taken_sums_refined safe sum good v l some there small =
      wrapped_residue (agg_at p h (i - 1) v l) (sum_at (word p v l) (tail_adds p h i))
      (agg_at p h i v l) (aggregates_fit p h safe good (i - 1) v l there small)
      (sum_at-lt (word p v l) (tail_adds p h i))
      (tail_sums_refined safe sum good v l some there small)

  pub tail_aggregates_stay : IsGood p.limits h → (v l : ℕ) → 2 ≤ i → v < vertices h → l < lanes p
      → is_tail_target p h i v ≡ false → agg_at p h i v l ≡ agg_at p h (i - 1) v l
  tail_aggregates_stay good v l some there small none =
      agg_is p h i v l (omega arith) there small
      ∙ no_target_keeps p s v l (stayed_within h h good.ends) (same_target v ∙ none)
      ∙ sym (two_back v l some there small)

  pub tail_entries_stay : IsGood p.limits h → (v : ℕ) → 2 ≤ i → v < vertices h
      → is_tail_applied p h i v ≡ false → entry p h i v ≡ entry p h (i - 1) v
  tail_entries_stay good v some there calm =
      let one = or_false (is_tail_target p h i v) (is_active p h i v) calm in
      let e : i - 1 - 1 ≡ i - 2 = omega arith in
      let agg : at (aggr p h i) v ≡ at (aggr p h (i - 1)) v =
      aggr_is p h i v (omega arith) there
      ∙ (λ j. by_lane p (λ l. no_target_keeps p s v l (stayed_within h h good.ends)
      (same_target v ∙ one.0) j))
      ∙ sym (aggr_is p h (i - 1) v (omega arith) there ∙ ap (λ k. gathered p h (row p h k) v) e) in
      let value : at (row p h (i - 1)) v ≡ at (row p h (i - 2)) v = same_value s v one.1 in
      let val : at (row p h i) v ≡ at (row p h (i - 1)) v =
      row_is p h i v (omega arith) there ∙ (λ j. applied p h (agg j) (value j) v)
      ∙ sym (row_is p h (i - 1) v (omega arith) there
      ∙ ap (λ k. applied p h (at (aggr p h (i - 1)) v) (at (row p h k) v) v) e) in
      λ j. (agg j, val j)
