-- Edits and batches that are drawn one after another.
use Rattle.std.proofs.Common.{◌≡◌, ℕ, zero, suc, ◌+◌, ◌-◌, ◌<◌, ◌≤◌, List, [], ◌∷◌, ◌++◌, length}
use Rattle.std.proofs.Common.{refl, sym, ap, ◌∙◌, arith}
use Rattle.std.specs.List.{All}
use Rattle.std.proofs.lemmas.List.{append_assoc}
use Rattle.std.proofs.lemmas.List.Elements.{All-nil, All-cons}
use Rattle.bolt_base.specs.Graph.{Graph, Pair}
use Rattle.bolt_base.specs.Edits.{edited, after}
use Rattle.bolt_base.specs.declared.edge.Edit.{Edit}
use Rattle.bolt_make.specs.Generator.{turned, edit_pair, after_edit, edits_from, after_edits}
use Rattle.bolt_make.specs.Generator.{batches_from}

module _ (n : ℕ) (pairs : List Pair) where
  -- the first of the edits that are left
  edits_from-next : (count i : ℕ) (g : Graph) (x : ℕ) → i < count
      → edits_from n pairs (count - i) i g x
      ≡ turned g (edit_pair n pairs i x)
      ∷ edits_from n pairs (count - (i + 1)) (i + 1) (edited g (turned g (edit_pair n pairs i x)))
      (after_edit i x)
  edits_from-next count i g x l =
      let e : count - i ≡ suc (count - (i + 1)) = omega arith in
      ap (λ k. edits_from n pairs k i g x) e

  module _ (count i : ℕ) (g g' : Graph) (x x' : ℕ) (p : Pair) (e : Edit) (l : i < count)
      (pair : p ≡ edit_pair n pairs i x) (edit : e ≡ turned g p) (graph : g' ≡ edited g e)
      (state : x' ≡ after_edit i x) where
    left : List Edit
    left = edits_from n pairs (count - (i + 1)) (i + 1) g' x'

    edit_is_next : edits_from n pairs (count - i) i g x ≡ e ∷ left
    unfolding left
    edit_is_next =
        let made : turned g (edit_pair n pairs i x) ≡ e = ap (turned g) (sym pair) ∙ sym edit in
        let moved : edited g (turned g (edit_pair n pairs i x)) ≡ g' = ap (edited g) made
        ∙ sym graph in
        edits_from-next count i g x l
        ∙ (λ j. made j ∷ edits_from n pairs (count - (i + 1)) (i + 1) (moved j) (sym state j))

    -- an edit that is drawn goes over to the edits so far
    pub edits_so_far : (es fs : List Edit) → fs ≡ es ++ e ∷ []
        → fs ++ edits_from n pairs (count - (i + 1)) (i + 1) g' x' ≡ es
        ++ edits_from n pairs (count - i) i g x
    unfolding left
    edits_so_far es fs more =
        ap (λ zs. zs ++ left) more
        ∙ append_assoc es (e ∷ []) left
        ∙ ap (λ zs. es ++ zs) (sym edit_is_next)

    pub graph_so_far : after g' (edits_from n pairs (count - (i + 1)) (i + 1) g' x')
        ≡ after g (edits_from n pairs (count - i) i g x)
    unfolding left
    graph_so_far = ap (λ h. after h left) graph ∙ ap (after g) (sym edit_is_next)

  -- none are left at the end
  pub edits_at_end : (count i k : ℕ) (g : Graph) (x : ℕ) → count ≤ i
      → edits_from n pairs (count - i) k g x ≡ []
  edits_at_end count i k g x l = let e : count - i
      ≡ 0 = omega arith in ap (λ c. edits_from n pairs c k g x) e

  -- the first of the batches that are left
  batches_from-next : (size count i : ℕ) (g : Graph) (x : ℕ) → i < count
      → batches_from n pairs size (count - i) g x
      ≡ edits_from n pairs size 0 g x
      ∷ batches_from n pairs size (count - (i + 1)) (after g (edits_from n pairs size 0 g x))
      (after_edits size 0 x)
  batches_from-next size count i g x l =
      let e : count - i ≡ suc (count - (i + 1)) = omega arith in
      ap (λ k. batches_from n pairs size k g x) e

  -- a batch that is drawn goes over to the batches so far
  pub batches_so_far : (size count i : ℕ) (g g' : Graph) (x x' : ℕ) (b : List Edit)
      (bs cs : List (List Edit)) → i < count
      → b ≡ edits_from n pairs size 0 g x → g' ≡ after g (edits_from n pairs size 0 g x)
      → x' ≡ after_edits size 0 x → cs ≡ bs ++ b ∷ []
      → cs ++ batches_from n pairs size (count - (i + 1)) g' x' ≡ bs
      ++ batches_from n pairs size (count - i) g x
  batches_so_far size count i g g' x x' b bs cs l batch graph state more =
      let rest : List (List Edit) = batches_from n pairs size (count - (i + 1)) g' x' in
      ap (λ zs. zs ++ rest) more
      ∙ append_assoc bs (b ∷ []) rest
      ∙ (λ j. bs ++ batch j ∷ batches_from n pairs size (count - (i + 1)) (graph j) (state j))
      ∙ ap (λ zs. bs ++ zs) (sym (batches_from-next size count i g x l))

  pub batches_at_end : (size count i : ℕ) (g : Graph) (x : ℕ) → count ≤ i
      → batches_from n pairs size (count - i) g x ≡ []
  batches_at_end size count i g x l = let e : count - i
      ≡ 0 = omega arith in ap (λ c. batches_from n pairs size c g x) e

  -- each batch has its size
  length-edits_from : (count k : ℕ) (g : Graph) (x : ℕ) → length (edits_from n pairs count k g x)
      ≡ count
  length-edits_from zero k g x = refl
  length-edits_from (suc count) k g x =
      ap suc (length-edits_from count (k + 1) (edited g (turned g (edit_pair n pairs k x)))
      (after_edit k x))

  pub batches_have_size : (size count : ℕ) (g : Graph) (x : ℕ)
      → All (λ batch. length batch ≡ size) (batches_from n pairs size count g x)
  batches_have_size size zero g x = All-nil (λ (batch : List Edit). length batch ≡ size)
  batches_have_size size (suc count) g x =
      All-cons (λ (batch : List Edit). length batch ≡ size) (edits_from n pairs size 0 g x) _
      (length-edits_from size 0 g x)
      (batches_have_size size count (after g (edits_from n pairs size 0 g x))
      (after_edits size 0 x))

pub states_so_far : (count i x x' : ℕ) → i < count → x' ≡ after_edit i x
    → after_edits (count - (i + 1)) (i + 1) x' ≡ after_edits (count - i) i x
states_so_far count i x x' l state =
    let e : suc (count - (i + 1)) ≡ count - i = omega arith in
    ap (after_edits (count - (i + 1)) (i + 1)) state ∙ ap (λ k. after_edits k i x) e

pub states_at_end : (count i k x : ℕ) → count ≤ i → after_edits (count - i) k x ≡ x
states_at_end count i k x l = let e : count - i ≡ 0 = omega arith in ap (λ c. after_edits c k x) e
