-- What an operator, a comma, a comparison and a closing parenthesis do is spelled.
use Rattle.std.proofs.Common.{◌≡◌, ℕ, ◌+◌, true, List, [], ◌∷◌, ◌++◌, length, Option, Some, None}
use Rattle.std.proofs.Common.{Result, Ok, refl, sym, ◌∙◌, ap, subst, arith, suc}
use Rattle.std.proofs.lemmas.List.{append_assoc, append-nil}
use Rattle.std.specs.Prelude.{◌==◌}
use Rattle.vertex_expr.specs.Tree.{Tree, sums, products}
use Rattle.vertex_expr.specs.declared.expr.Compare.{Compare}
use Rattle.vertex_expr.specs.declared.expr.Compare.TheVariants.{Less, AtMost, Equal}
use Rattle.text_words.specs.Token.{Token, number, word, at_most, dash, mark}
use Rattle.expr_text.specs.declared.reading.Cause.{Cause}
use Rattle.expr_text.specs.declared.reading.Sign.{Sign}
use Rattle.expr_text.specs.declared.reading.Sign.TheVariants.{Plus, Minus}
use Rattle.expr_text.specs.declared.reading.Factor.{Factor}
use Rattle.expr_text.specs.declared.reading.Factor.TheVariants.{Times, Over}
use Rattle.expr_text.specs.declared.reading.Place.{Place}
use Rattle.expr_text.specs.declared.reading.Place.TheVariants.{Whole}
use Rattle.expr_text.specs.declared.reading.End.{End}
use Rattle.expr_text.specs.declared.reading.End.TheVariants.{Comma, Compare as Compare', Close}
use Rattle.expr_text.specs.declared.reading.Frame.{Frame}
use Rattle.expr_text.specs.declared.reading.Due.TheVariants.{Primary}
use Rattle.expr_text.specs.declared.reading.Reading.{Reading}
use Rattle.vertex_expr.specs.Writable.{Scope}
use Rattle.expr_text.specs.Reading.{taken, product_of, after_comma, after_compare, closed, moved}
use Rattle.expr_text.specs.Reading.{shut, at_operator, times_next, plus_next, ended}
use Rattle.expr_text.specs.Grammar.{IsSign, factor_mark, compare_mark, Spells}
use Rattle.expr_text.proofs.SpelledParts.{PlaceSpelled, OpenSpelled, IsRead, Follows, st, frame}
use Rattle.expr_text.proofs.SpelledOperands.{nat_eq_is, follows_either, counted_follows, sum_done}
use Rattle.expr_text.proofs.SpelledOperands.{taken_follows}
use Rattle.expr_text.proofs.SpelledPlaces.{NextSpelled, MadeSpelled, comma_spelled, compare_spelled}
use Rattle.expr_text.proofs.SpelledPlaces.{closed_spelled}

-- what was read before an operator, and the operator's token
pub whole_of : (s : Scope) (r : ℕ) (p : Place) (sm : Option (Sign × Tree)) (fs : List Frame)
    (x b c : List Token) → (h : OpenSpelled s r p sm None fs x)
    → (x ++ b) ++ c ≡ h.outer ++ ((h.left ++ b) ++ c)
whole_of s r p sm fs x b c h =
    ap (λ (l : List Token). (l ++ b) ++ c)
    (h.all ∙ ap (λ (l : List Token). h.outer ++ (h.left ++ l)) h.factor_spelled
    ∙ ap (λ (l : List Token). h.outer ++ l) (append-nil h.left))
    ∙ ap (λ (l : List Token). l ++ c) (append_assoc h.outer h.left b)
    ∙ append_assoc h.outer (h.left ++ b) c

pub append-regroup : (o a b z w : List Token)
    → (o ++ (a ++ (b ++ z))) ++ w ≡ o ++ (a ++ (b ++ (z ++ w)))
append-regroup o a b z w =
    append_assoc o (a ++ (b ++ z)) w
    ∙ ap (λ (l : List Token). o ++ l)
    (append_assoc a (b ++ z) w ∙ ap (λ (l : List Token). a ++ l) (append_assoc b z w))

pub append-inner : (o a b w : List Token) → o ++ (a ++ (b ++ w)) ≡ (o ++ (a ++ b)) ++ w
append-inner o a b w =
    sym (append_assoc o (a ++ b) w ∙ ap (λ (l : List Token). o ++ l) (append_assoc a b w))

pub moved_follows : (s : Scope) (r n : ℕ) (p : Place) (sm : Option (Sign × Tree)) (fs : List Frame)
    (x b : List Token) (k : Token) (t : Tree) (next : Option Place) → length fs + r ≡ 32
    → OpenSpelled s r p sm None fs x → Spells s r products t b
    → ((z v : List Token) → PlaceSpelled s r p z → Spells s r sums (product_of sm t) v
    → NextSpelled s r next (z ++ (v ++ k ∷ [])))
    → (p ≡ Whole → next ≡ None) → Follows s ((x ++ b) ++ k ∷ [])
    (moved (st n (frame p sm None) fs Primary) next)
moved_follows s r n p sm fs x b k t None deep h d put whole = tt
moved_follows s r n p sm [] x b k t (Some q) deep h d put whole =
    let no : Some q ≡ None = whole h.outer_spelled.0 in absurd (cc)
moved_follows s r n p sm (g ∷ gs) x b k t (Some q) deep h d put whole =
    let e = h.outer_spelled in
    let z' : List Token = e.3 ++ ((h.left ++ b) ++ k ∷ []) in
    let outer' : List Token = e.0 ++ (e.1 ++ (e.2 ++ z')) in
    record {
      room = r;
      deep = deep;
      before = outer' ++ ([] ++ []);
      begun = [];
      opening = record {
        outer = outer';
        left = [];
        factor = [];
        outer_spelled = (
          e.0,
          e.1,
          e.2,
          z',
          e.4,
          e.5,
          e.6,
          put e.3 (h.left ++ b) e.7
              (sum_done s r sm h.left b t h.left_spelled d),
          refl,
        );
        left_spelled = refl;
        factor_spelled = refl;
        all = refl;
      };
      due = refl;
      clear = tt;
      all =
          whole_of s r p sm (g ∷ gs) x b (k ∷ []) h
          ∙ ap (λ (l : List Token). l ++ ((h.left ++ b) ++ k ∷ [])) e.8
          ∙ append-regroup e.0 e.1 e.2 e.3 ((h.left ++ b) ++ k ∷ [])
          ∙ sym (append-nil outer') ∙ sym (append-nil (outer' ++ []));
    }

pub shut_follows : (s : Scope) (r n : ℕ) (p : Place) (sm : Option (Sign × Tree)) (fs : List Frame)
    (x b : List Token) (k : Token) (t : Tree) (made : Option Tree) → length fs + r ≡ 32
    → OpenSpelled s r p sm None fs x → Spells s r products t b
    → ((z v : List Token) → PlaceSpelled s r p z → Spells s r sums (product_of sm t) v
    → MadeSpelled s (suc r) made (z ++ (v ++ k ∷ [])))
    → Follows s ((x ++ b) ++ k ∷ []) (shut (st n (frame p sm None) fs Primary) made)
shut_follows s r n p sm fs x b k t None deep h d put = tt
shut_follows s r n p sm [] x b k t (Some u) deep h d put = tt
shut_follows s r n p sm (g ∷ gs) x b k t (Some u) deep h d put =
    let e = h.outer_spelled in
    let w : List Token = (h.left ++ b) ++ k ∷ [] in
    let own : OpenSpelled s (suc r) g.place g.sum g.product gs (e.0 ++ (e.1 ++ e.2)) =
    record {
      outer = e.0;
      left = e.1;
      factor = e.2;
      outer_spelled = e.4;
      left_spelled = e.5;
      factor_spelled = e.6;
      all = refl;
    } in
    let where_it_is : (x ++ b) ++ k ∷ [] ≡ (e.0 ++ (e.1 ++ e.2)) ++ (e.3 ++ w) =
    whole_of s r p sm (g ∷ gs) x b (k ∷ []) h ∙ ap (λ (l : List Token). l ++ w) e.8
    ∙ append-regroup e.0 e.1 e.2 e.3 w ∙ append-inner e.0 e.1 e.2 (e.3 ++ w) in
    subst (IsRead s (taken (st n (frame g.place g.sum g.product) gs Primary) u)) (sym where_it_is)
    (taken_follows s (suc r) n g.place g.sum g.product gs (e.0 ++ (e.1 ++ e.2)) (e.3 ++ w) u
    (omega arith) own (put e.3 (h.left ++ b) e.7 (sum_done s r sm h.left b t h.left_spelled d)))

pub plus_follows : (s : Scope) (r n : ℕ) (p : Place) (sm : Option (Sign × Tree)) (fs : List Frame)
    (x b : List Token) (k : Token) (o : Sign) (t : Tree) → length fs + r ≡ 32
    → OpenSpelled s r p sm None fs x → Spells s r products t b → IsSign o k
    → Follows s ((x ++ b) ++ k ∷ []) (plus_next (st n (frame p sm None) fs Primary) o t)
plus_follows s r n p sm fs x b k o t deep h d sign =
    counted_follows s ((x ++ b) ++ k ∷ []) (st n (frame p sm None) fs Primary)
    (λ q. Ok (record q {
      top = record q.top { sum = Some (o, product_of q.top.sum t) };
      due = Primary;
    })) (record {
      room = r;
      deep = deep;
      before = h.outer ++ (((h.left ++ b) ++ k ∷ []) ++ []);
      begun = [];
      opening = record {
        outer = h.outer;
        left = (h.left ++ b) ++ k ∷ [];
        factor = [];
        outer_spelled = h.outer_spelled;
        left_spelled = (h.left ++ b, k, sign, sum_done s r sm h.left b t h.left_spelled d, refl);
        factor_spelled = refl;
        all = refl;
      };
      due = refl;
      clear = tt;
      all =
          whole_of s r p sm fs x b (k ∷ []) h
          ∙ ap (λ (l : List Token). h.outer ++ l) (sym (append-nil ((h.left ++ b) ++ k ∷ [])))
          ∙ sym (append-nil (h.outer ++ (((h.left ++ b) ++ k ∷ []) ++ [])));
    })

pub times_follows : (s : Scope) (r n : ℕ) (p : Place) (sm : Option (Sign × Tree)) (fs : List Frame)
    (x b : List Token) (k : Token) (o : Factor) (t : Tree) → length fs + r ≡ 32
    → OpenSpelled s r p sm None fs x → Spells s r products t b → k ≡ factor_mark o
    → Follows s ((x ++ b) ++ k ∷ []) (times_next (st n (frame p sm None) fs Primary) o t)
times_follows s r n p sm fs x b k o t deep h d is =
    counted_follows s ((x ++ b) ++ k ∷ []) (st n (frame p sm None) fs Primary)
    (λ q. Ok (record q { top = record q.top { product = Some (o, t) }; due = Primary }))
    (record {
      room = r;
      deep = deep;
      before = h.outer ++ (h.left ++ (b ++ k ∷ []));
      begun = [];
      opening = record {
        outer = h.outer;
        left = h.left;
        factor = b ++ k ∷ [];
        outer_spelled = h.outer_spelled;
        left_spelled = h.left_spelled;
        factor_spelled = (b, d, ap (λ (q : Token). b ++ q ∷ []) is);
        all = refl;
      };
      due = refl;
      clear = tt;
      all =
          whole_of s r p sm fs x b (k ∷ []) h
          ∙ ap (λ (l : List Token). h.outer ++ l) (append_assoc h.left b (k ∷ []))
          ∙ sym (append-nil (h.outer ++ (h.left ++ (b ++ k ∷ []))));
    })

pub comma_whole : (t : Tree) (p : Place) → p ≡ Whole → after_comma p t ≡ None
comma_whole t p e = ap (λ (q : Place). after_comma q t) e

pub compare_whole : (o : Compare) (t : Tree) (p : Place) → p ≡ Whole → after_compare o p t ≡ None
compare_whole o t p e = ap (λ (q : Place). after_compare o q t) e

abbrev pub end_mark : End → Token
end_mark Comma = mark 44
end_mark (Compare' o) = compare_mark o
end_mark Close = mark 41

pub ended_follows : (s : Scope) (r n : ℕ) (p : Place) (sm : Option (Sign × Tree)) (fs : List Frame)
    (x b : List Token) (t : Tree) (e : End) → length fs + r ≡ 32
    → OpenSpelled s r p sm None fs x → Spells s r products t b
    → Follows s ((x ++ b) ++ end_mark e ∷ []) (ended (st n (frame p sm None) fs Primary) t e)
ended_follows s r n p sm fs x b t Comma deep h d =
    moved_follows s r n p sm fs x b (mark 44) t (after_comma p (product_of sm t)) deep h d
    (λ z v. comma_spelled s r p (product_of sm t) z v) (comma_whole (product_of sm t) p)
ended_follows s r n p sm fs x b t (Compare' o) deep h d =
    moved_follows s r n p sm fs x b (compare_mark o) t (after_compare o p (product_of sm t)) deep h
    d (λ z v. compare_spelled s r o p (product_of sm t) z v)
    (compare_whole o (product_of sm t) p)
ended_follows s r n p sm fs x b t Close deep h d =
    shut_follows s r n p sm fs x b (mark 41) t (closed p (product_of sm t)) deep h d
    (λ z v. closed_spelled s r p (product_of sm t) z v)

-- the same at another spelling of the token
pub at_token : (s : Scope) (y : List Token) (j k : Token) (q : Result Reading Cause) → j ≡ k
    → Follows s (y ++ k ∷ []) q → Follows s (y ++ j ∷ []) q
at_token s y j k q e f = subst (λ (i : Token). Follows s (y ++ i ∷ []) q) (sym e) f

pub mark_is : (b m : ℕ) → (b == m) ≡ true → mark b ≡ mark m
mark_is b m e = ap mark (nat_eq_is b m e)

pub at_operator_follows : (s : Scope) (r n : ℕ) (p : Place) (sm : Option (Sign × Tree))
    (fs : List Frame) (x b : List Token) (t : Tree) (k : Token) → length fs + r ≡ 32
    → OpenSpelled s r p sm None fs x → Spells s r products t b
    → Follows s ((x ++ b) ++ k ∷ []) (at_operator (st n (frame p sm None) fs Primary) t k)
at_operator_follows s r n p sm fs x b t (number m) deep h d = tt
at_operator_follows s r n p sm fs x b t (word w) deep h d = tt
at_operator_follows s r n p sm fs x b t at_most deep h d =
    ended_follows s r n p sm fs x b t (Compare' AtMost) deep h d
at_operator_follows s r n p sm fs x b t (dash m) deep h d =
    plus_follows s r n p sm fs x b (dash m) Minus t deep h d (m, refl)
at_operator_follows s r n p sm fs x b t (mark c) deep h d =
    let y : List Token = x ++ b in
    follows_either s _ (c == 43) _ _
    (λ e. plus_follows s r n p sm fs x b (mark c) Plus t deep h d (mark_is c 43 e))
    (follows_either s _ (c == 42) _ _
    (λ e. times_follows s r n p sm fs x b (mark c) Times t deep h d (mark_is c 42 e))
    (follows_either s _ (c == 47) _ _
    (λ e. times_follows s r n p sm fs x b (mark c) Over t deep h d (mark_is c 47 e))
    (follows_either s _ (c == 44) _ _
    (λ e. at_token s y (mark c) (mark 44) _ (mark_is c 44 e)
    (ended_follows s r n p sm fs x b t Comma deep h d))
    (follows_either s _ (c == 41) _ _
    (λ e. at_token s y (mark c) (mark 41) _ (mark_is c 41 e)
    (ended_follows s r n p sm fs x b t Close deep h d))
    (follows_either s _ (c == 60) _ _
    (λ e. at_token s y (mark c) (mark 60) _ (mark_is c 60 e)
    (ended_follows s r n p sm fs x b t (Compare' Less) deep h d))
    (follows_either s _ (c == 61) _ _
    (λ e. at_token s y (mark c) (mark 61) _ (mark_is c 61 e)
    (ended_follows s r n p sm fs x b t (Compare' Equal) deep h d)) tt))))))
