-- What edits leave as it was, and edits in two lists.
use Rattle.std.proofs.Common.{◌≡◌, ◌≢◌, ℕ, ℤ, pos, ◌+◌, ◌≤◌, true, false, ◌&&◌, cond}
use Rattle.std.proofs.Common.{eqb, List, [], ◌∷◌, ◌++◌, length, get_or, set, refl, sym, ap, ◌∙◌}
use Rattle.std.proofs.Common.{arith, inl, inr, Some, None}
use Rattle.std.specs.Ordering.{eq_by_cmp}
use Rattle.std.specs.List.{list_any}
use Rattle.std.specs.FinMap as finite
use Rattle.std.proofs.lemmas.Bool.{cases_eq, cases_lt, eq-eqb, eqb-true, eqb-false}
use Rattle.std.proofs.lemmas.List.{get_or_append_left, get_or_past, get_or-set_other, length-append}
use Rattle.bolt_base.specs.Change.{attr_at}
use Rattle.bolt_base.specs.Graph.{Graph, Pair, pair_cmp, vertices}
use Rattle.bolt_base.specs.Edits.{edited, after, one, bad_or, bad_from, bad, with_attr}
use Rattle.bolt_base.specs.EditNames.{names_pair, names_vertex, bad_then}
use Rattle.bolt_base.specs.LawsOfEdits.{UnnamedPairsStay, UnnamedAttrsStay, NoVertexIsLost}
use Rattle.bolt_base.specs.LawsOfEdits.{BadAppends}
use Rattle.bolt_base.specs.declared.edge.Edit.{Edit}
use Rattle.bolt_base.specs.declared.edge.Edit.TheVariants.{Add, Cut, Attr}
use Rattle.bolt_base.specs.declared.limits.Limits.{Limits}
use Rattle.bolt_base.proofs.BadLemmas.{bad_from-append, bad_from-stays}
use Rattle.bolt_base.proofs.EdgeMap.{pairs_total}
use Rattle.bolt_base.proofs.EdgeParts.{or_false}
use Rattle.bolt_base.proofs.GoodLemmas.{length-with_attr}
use Rattle.bolt_base.proofs.PairOrder.{other_src, apart_dst}

-- ---- weights
pub pair_apart : (k : Pair) (s d : ℕ) → (eqb s k.0 && eqb d k.1) ≡ false
    → eq_by_cmp pair_cmp k (s, d) ≡ false
pair_apart k s d e = elim (cases_eq s k.0) [
  | inl same ↦ elim (cases_eq d k.1) [
    | inl last ↦ let all : (eqb s k.0 && eqb d k.1)
        ≡ true = λ j. eq-eqb s k.0 same j && eq-eqb d k.1 last j in absurd
        (let t : true ≡ false = sym all ∙ e in cc)
    | inr other ↦ apart_dst k.0 k.1 s d (λ q. other (sym q))
  ]
  | inr other ↦ other_src k.0 k.1 s d (λ q. other (sym q))
]

weight_stays : (g : Graph) (e : Edit) (k : Pair) → names_pair k e ≡ false
    → finite.get (edited g e).weights k ≡ finite.get g.weights k
weight_stays g (Add e) k h =
    finite.get-insert pairs_total g.weights (e.src, e.dst) e.weight k
    ∙ ap (λ b. cond b (Some e.weight) (finite.get g.weights k)) (pair_apart k e.src e.dst h)
weight_stays g (Cut s d) k h =
    finite.get-remove pairs_total g.weights (s, d) k
    ∙ ap (λ b. cond b None (finite.get g.weights k)) (pair_apart k s d h)
weight_stays g (Attr v a) k h = refl

pub unnamed_pairs_stay : UnnamedPairsStay
unnamed_pairs_stay g [] k h = refl
unnamed_pairs_stay g (e ∷ es) k h =
    let parts = or_false (names_pair k e) (list_any (names_pair k) es) h in
    unnamed_pairs_stay (edited g e) es k parts.1 ∙ weight_stays g e k parts.0

-- ---- attributes
attr_apart : (attrs : List ℤ) (v u : ℕ) (a : ℤ) → v ≢ u
    → get_or (with_attr attrs v a) u (pos 0) ≡ get_or attrs u (pos 0)
attr_apart attrs v u a apart = elim (cases_eq v (length attrs)) [
  | inl last ↦ ap (λ b. get_or (cond b (attrs ++ a ∷ []) (set attrs v a)) u (pos 0))
      (eq-eqb v (length attrs) last) ∙ elim (cases_lt u (length attrs)) [
        | inl below ↦ get_or_append_left attrs (a ∷ []) (pos 0) u below
        | inr past ↦ get_or_past (attrs ++ a ∷ []) u (pos 0)
            (let other : u ≢ v = λ q. apart (sym q) in let long = length-append attrs (a ∷ []) in
            above
            u (length attrs) past (λ q. other (q ∙ sym last)) long)
            ∙ sym (get_or_past attrs u (pos 0) past)
      ]
  | inr other ↦ ap (λ b. get_or (cond b (attrs ++ a ∷ []) (set attrs v a)) u (pos 0))
      (ne v (length attrs) other) ∙ get_or-set_other attrs v u a (pos 0) (λ q. apart (sym q))
]
  where
    above : (u n : ℕ) → n ≤ u → u ≢ n → length (attrs ++ a ∷ []) ≡ n + 1
        → length (attrs ++ a ∷ []) ≤ u
    above u n h apart long = elim (cases_lt n u)
        [ inl l ↦ omega arith | inr l ↦ absurd (apart (omega arith)) ]

    ne : (a b : ℕ) → a ≢ b → eqb a b ≡ false
    ne a b n = elim (eqb a b) as (λ t. eqb a b ≡ t → t ≡ false)
        [ true ↦ λ e. absurd (n (eqb-true a b e)) | false ↦ λ _. refl ] refl

attr_stays : (g : Graph) (e : Edit) (u : ℕ) → names_vertex u e ≡ false
    → attr_at (edited g e) u ≡ attr_at g u
attr_stays g (Add e) u h = refl
attr_stays g (Cut s d) u h = refl
attr_stays g (Attr v a) u h = attr_apart g.attrs v u a (eqb-false v u h)

pub unnamed_attrs_stay : UnnamedAttrsStay
unnamed_attrs_stay g [] v h = refl
unnamed_attrs_stay g (e ∷ es) v h =
    let parts = or_false (names_vertex v e) (list_any (names_vertex v) es) h in
    unnamed_attrs_stay (edited g e) es v parts.1 ∙ attr_stays g e v parts.0

-- ---- vertices
vertices_stay : (g : Graph) (e : Edit) → vertices g ≤ vertices (edited g e)
vertices_stay g (Add e) = omega arith
vertices_stay g (Cut s d) = omega arith
vertices_stay g (Attr v a) = omega (arith, length-with_attr g.attrs v a)

pub no_vertex_lost : NoVertexIsLost
no_vertex_lost g [] = omega arith
no_vertex_lost g (e ∷ es) = let here = vertices_stay g e in let rest = no_vertex_lost (edited g e)
    es in omega arith

-- ---- edits in two lists
-- counted from n edits later, the first bad edit stands n places later
pub bad_from-later : (l : Limits) (g : Graph) (n k : ℕ) (es : List Edit)
    → bad_from l g (n + k) es ≡ bad_then None n (bad_from l g k es)
bad_from-later l g n k [] = refl
bad_from-later l g n k (e ∷ es) =
    elim (one l g e) as (λ o. bad_or o (n + k) (bad_from l (edited g e) (n + k + 1) es)
    ≡ bad_then None n (bad_or o k (bad_from l (edited g e) (k + 1) es))) [
      | None ↦ ap (λ m. bad_from l (edited g e) m es)
          (let m : n + k + 1 ≡ n + (k + 1) = omega arith in m)
          ∙ bad_from-later l (edited g e) n (k + 1) es
      | Some cause ↦ refl
    ]

pub bad-append : BadAppends
bad-append l g xs ys =
    elim (bad l g xs) as (λ o. bad l g xs ≡ o → bad l g (xs ++ ys)
    ≡ bad_then o (length xs) (bad l (after g xs) ys)) [
      | None ↦ λ e. bad_from-append l g 0 xs ys e
          ∙ ap (λ m. bad_from l (after g xs) m ys)
          (let m : 0 + length xs ≡ length xs + 0 = omega arith in m)
          ∙ bad_from-later l (after g xs) (length xs) 0 ys
      | Some p ↦ λ e. bad_from-stays l g 0 xs ys p e
    ] refl
