-- The lists of edges with one edge more, and with one less.
use Rattle.std.proofs.Common.{◌≡◌, ℤ, Bool, true, false, cond, eqb, List, [], ◌∷◌, ◌++◌, map}
use Rattle.std.proofs.Common.{filter, refl, sym, ap, ◌∙◌, subst, Some, None}
use Rattle.std.specs.declared.cmp.Ordering.TheVariants.{Less, Equal, Greater}
use Rattle.std.specs.Ordering.{is_eq}
use Rattle.std.specs.FinMap as finite
use Rattle.std.specs.FinMap.Entries.{put, find, by_order}
use Rattle.std.proofs.lemmas.Bool.{eq-eqb, ne_eqb}
use Rattle.std.proofs.lemmas.List.Elements.{filter-append}
use Rattle.bolt_base.specs.Graph.{Graph, Pair, pair_cmp, edge, edges}
use Rattle.bolt_base.specs.Edits.{edited}
use Rattle.bolt_base.specs.EditNames.{IsInserted, IsOneMore}
use Rattle.bolt_base.specs.LawsOfEdits.{AdditionIsOneMore, CutIsOneLess}
use Rattle.bolt_base.specs.declared.edge.Edge.{Edge}
use Rattle.bolt_base.specs.declared.edge.Edit.TheVariants.{Add, Cut}
use Rattle.bolt_base.proofs.EdgeMap.{pairs_total}
use Rattle.bolt_base.proofs.EditLemmas.{absent_after_cut, cut_restored}

inserted_put : (k : Pair) (w : ℤ) (es : List (Pair × ℤ)) → find pair_cmp k es ≡ None
    → IsInserted (edge (k, w)) (map edge es) (map edge (put pair_cmp k w es))
inserted_put k w [] h = record { front = []; back = []; was = refl; is = refl }
inserted_put k w (e ∷ es) h =
    elim (pair_cmp k e.0) as (λ r. cond (is_eq r) (Some e.1) (find pair_cmp k es) ≡ None
    → IsInserted (edge (k, w)) (map edge (e ∷ es))
    (map edge (by_order r ((k, w) ∷ e ∷ es) ((e.0, w) ∷ es) (e ∷ put pair_cmp k w es)))) [
      | Less ↦ λ n. record { front = []; back = map edge (e ∷ es); was = refl; is = refl }
      | Equal ↦ λ n. absurd (cc)
      | Greater ↦ λ n.
          let rest = inserted_put k w es n in
          record {
            front = edge e ∷ rest.front;
            back = rest.back;
            was = ap (λ xs. edge e ∷ xs) rest.was;
            is = ap (λ xs. edge e ∷ xs) rest.is;
          }
    ] h

module _ (e : Edge) (old new : List Edge) (more : IsInserted e old new) (p : Edge → Bool) where
  -- the edge passes the test, or it doesn't
  kept_filter : filter p new ≡ filter p more.front
      ++ cond (p e) (e ∷ filter p more.back) (filter p more.back)
  kept_filter = ap (filter p) more.is ∙ filter-append p more.front (e ∷ more.back)

  inserted_filter : p e ≡ true → IsInserted e (filter p old) (filter p new)
  inserted_filter t = record {
    front = filter p more.front;
    back = filter p more.back;
    was = ap (filter p) more.was ∙ filter-append p more.front more.back;
    is = kept_filter ∙ ap (λ b. filter p more.front
        ++ cond b (e ∷ filter p more.back) (filter p more.back)) t;
  }

  same_filter : p e ≡ false → filter p new ≡ filter p old
  same_filter f =
      kept_filter ∙ ap (λ b. filter p more.front
      ++ cond b (e ∷ filter p more.back) (filter p more.back)) f
      ∙ sym (ap (filter p) more.was ∙ filter-append p more.front more.back)

one_more : (e : Edge) (lesser larger : Graph) → IsInserted e (edges lesser) (edges larger)
    → IsOneMore e lesser larger
one_more e lesser larger more = record {
  all = more;
  out = inserted_filter e (edges lesser) (edges larger) more (λ x. eqb x.src e.src)
      (eq-eqb e.src e.src refl);
  into = inserted_filter e (edges lesser) (edges larger) more (λ x. eqb x.dst e.dst)
      (eq-eqb e.dst e.dst refl);
  others_out = λ u apart. same_filter e (edges lesser) (edges larger) more (λ x. eqb x.src u)
      (ne_eqb e.src u (λ q. apart (sym q)));
  others_into = λ v apart. same_filter e (edges lesser) (edges larger) more (λ x. eqb x.dst v)
      (ne_eqb e.dst v (λ q. apart (sym q)));
}

pub addition_one_more : AdditionIsOneMore
addition_one_more g e absent =
    let none : find pair_cmp (e.src, e.dst) (finite.entries g.weights)
    ≡ None = sym (finite.get-entries g.weights (e.src, e.dst)) ∙ absent in
    one_more e g (edited g (Add e))
    (subst (IsInserted e (edges g)) (ap (map edge)
    (sym (finite.entries-insert pairs_total g.weights (e.src, e.dst) e.weight)))
    (inserted_put (e.src, e.dst) e.weight (finite.entries g.weights) none))

pub cut_one_less : CutIsOneLess
cut_one_less g s d w there =
    let e : Edge = record { src = s; dst = d; weight = w } in
    let lesser : Graph = edited g (Cut s d) in
    subst (IsOneMore e lesser) (cut_restored g s d w there)
    (addition_one_more lesser e (absent_after_cut g s d w there))
