-- An operand of a call, with what stands before it, is spelled.
use Rattle.std.proofs.Common.{ℕ, List, [], ◌∷◌, ◌++◌, Option, Some, None, sym, ◌∙◌, ap, subst}
use Rattle.std.proofs.Common.{arith, suc}
use Rattle.std.proofs.lemmas.List.{append_assoc}
use Rattle.vertex_expr.specs.Tree.{Tree, least, greatest, clamp, choose, sums, operands}
use Rattle.vertex_expr.specs.declared.expr.Compare.{Compare}
use Rattle.text_words.specs.Token.{Token, word, mark}
use Rattle.expr_text.specs.declared.reading.Place.{Place}
use Rattle.expr_text.specs.declared.reading.Place.TheVariants.{Whole, Group, MinFirst, MinSecond}
use Rattle.expr_text.specs.declared.reading.Place.TheVariants.{MaxFirst, MaxSecond, ClampFirst}
use Rattle.expr_text.specs.declared.reading.Place.TheVariants.{ClampSecond, ClampThird, IfFirst}
use Rattle.expr_text.specs.declared.reading.Place.TheVariants.{IfSecond, IfThird, IfFourth}
use Rattle.vertex_expr.specs.Writable.{Scope}
use Rattle.expr_text.specs.Reading.{after_comma, after_compare, closed}
use Rattle.expr_text.specs.Grammar.{compare_mark, Spells, group, least_call, greatest_call}
use Rattle.expr_text.specs.Grammar.{clamp_call, choice}
use Rattle.expr_text.proofs.SpelledParts.{PlaceSpelled}

-- the operand before a comma, a comparison and a closing parenthesis is put to what stands before
-- it
abbrev pub NextSpelled : Scope → ℕ → Option Place → List Token → Type 0
NextSpelled s r None x = Unit {0}
NextSpelled s r (Some p) x = PlaceSpelled s r p x

abbrev pub MadeSpelled : Scope → ℕ → Option Tree → List Token → Type 0
MadeSpelled s r None x = Unit {0}
MadeSpelled s r (Some t) x = Spells s r operands t x

pub comma_spelled : (s : Scope) (r : ℕ) (p : Place) (t : Tree) (z x : List Token)
    → PlaceSpelled s r p z → Spells s r sums t x
    → NextSpelled s r (after_comma p t) (z ++ (x ++ mark 44 ∷ []))
comma_spelled s r Whole t z x h d = tt
comma_spelled s r Group t z x h d = tt
comma_spelled s r MinFirst t z x h d =
    (h.0, h.1, x, d, ap (λ (l : List Token). l ++ (x ++ mark 44 ∷ [])) h.2)
comma_spelled s r (MinSecond a) t z x h d = tt
comma_spelled s r MaxFirst t z x h d =
    (h.0, h.1, x, d, ap (λ (l : List Token). l ++ (x ++ mark 44 ∷ [])) h.2)
comma_spelled s r (MaxSecond a) t z x h d = tt
comma_spelled s r ClampFirst t z x h d =
    (h.0, h.1, x, d, ap (λ (l : List Token). l ++ (x ++ mark 44 ∷ [])) h.2)
comma_spelled s r (ClampSecond a) t z x h d = (
  h.0,
  h.1,
  h.2,
  h.3,
  x,
  d,
  ap (λ (l : List Token). l ++ (x ++ mark 44 ∷ [])) h.4
      ∙ ap (λ (l : List Token). word h.0 ∷ mark 40 ∷ l)
      (append_assoc h.2 (mark 44 ∷ []) (x ++ mark 44 ∷ [])),
)
comma_spelled s r (ClampThird a b) t z x h d = tt
comma_spelled s r IfFirst t z x h d = tt
comma_spelled s r (IfSecond o a) t z x h d = (
  h.0,
  h.1,
  h.2,
  h.3,
  x,
  d,
  ap (λ (l : List Token). l ++ (x ++ mark 44 ∷ [])) h.4
      ∙ ap (λ (l : List Token). word h.0 ∷ mark 40 ∷ l)
      (append_assoc h.2 (compare_mark o ∷ []) (x ++ mark 44 ∷ [])),
)
comma_spelled s r (IfThird o a b) t z x h d = (
  h.0,
  h.1,
  h.2,
  h.3,
  h.4,
  h.5,
  x,
  d,
  ap (λ (l : List Token). l ++ (x ++ mark 44 ∷ [])) h.6
      ∙ ap (λ (l : List Token). word h.0 ∷ mark 40 ∷ l)
      (append_assoc h.2 (compare_mark o ∷ (h.4 ++ mark 44 ∷ [])) (x ++ mark 44 ∷ [])
      ∙ ap (λ (l : List Token). h.2 ++ compare_mark o ∷ l)
      (append_assoc h.4 (mark 44 ∷ []) (x ++ mark 44 ∷ []))),
)
comma_spelled s r (IfFourth o a b c) t z x h d = tt

pub compare_spelled : (s : Scope) (r : ℕ) (o : Compare) (p : Place) (t : Tree) (z x : List Token)
    → PlaceSpelled s r p z → Spells s r sums t x
    → NextSpelled s r (after_compare o p t) (z ++ (x ++ compare_mark o ∷ []))
compare_spelled s r o IfFirst t z x h d =
    (h.0, h.1, x, d, ap (λ (l : List Token). l ++ (x ++ compare_mark o ∷ [])) h.2)
compare_spelled s r o Whole t z x h d = tt
compare_spelled s r o Group t z x h d = tt
compare_spelled s r o MinFirst t z x h d = tt
compare_spelled s r o (MinSecond a) t z x h d = tt
compare_spelled s r o MaxFirst t z x h d = tt
compare_spelled s r o (MaxSecond a) t z x h d = tt
compare_spelled s r o ClampFirst t z x h d = tt
compare_spelled s r o (ClampSecond a) t z x h d = tt
compare_spelled s r o (ClampThird a b) t z x h d = tt
compare_spelled s r o (IfSecond c a) t z x h d = tt
compare_spelled s r o (IfThird c a b) t z x h d = tt
compare_spelled s r o (IfFourth c a b e) t z x h d = tt

pub closed_spelled : (s : Scope) (r : ℕ) (p : Place) (t : Tree) (z x : List Token)
    → PlaceSpelled s r p z → Spells s r sums t x
    → MadeSpelled s (suc r) (closed p t) (z ++ (x ++ mark 41 ∷ []))
closed_spelled s r Whole t z x h d = tt
closed_spelled s r Group t z x h d =
    subst (λ (l : List Token). Spells s (suc r) operands t (l ++ (x ++ mark 41 ∷ []))) (sym h)
    (group r (suc r) t x (omega arith) d)
closed_spelled s r MinFirst t z x h d = tt
closed_spelled s r (MinSecond a) t z x h d =
    subst (Spells s (suc r) operands (least a t))
    (sym (ap (λ (l : List Token). l ++ (x ++ mark 41 ∷ [])) h.4
    ∙ ap (λ (l : List Token). word h.0 ∷ mark 40 ∷ l)
    (append_assoc h.2 (mark 44 ∷ []) (x ++ mark 41 ∷ []))))
    (least_call r (suc r) h.0 a t h.2 x (omega arith) h.1 h.3 d)
closed_spelled s r MaxFirst t z x h d = tt
closed_spelled s r (MaxSecond a) t z x h d =
    subst (Spells s (suc r) operands (greatest a t))
    (sym (ap (λ (l : List Token). l ++ (x ++ mark 41 ∷ [])) h.4
    ∙ ap (λ (l : List Token). word h.0 ∷ mark 40 ∷ l)
    (append_assoc h.2 (mark 44 ∷ []) (x ++ mark 41 ∷ []))))
    (greatest_call r (suc r) h.0 a t h.2 x (omega arith) h.1 h.3 d)
closed_spelled s r ClampFirst t z x h d = tt
closed_spelled s r (ClampSecond a) t z x h d = tt
closed_spelled s r (ClampThird a b) t z x h d =
    subst (Spells s (suc r) operands (clamp a b t))
    (sym (ap (λ (l : List Token). l ++ (x ++ mark 41 ∷ [])) h.6
    ∙ ap (λ (l : List Token). word h.0 ∷ mark 40 ∷ l)
    (append_assoc h.2 (mark 44 ∷ (h.4 ++ mark 44 ∷ [])) (x ++ mark 41 ∷ [])
    ∙ ap (λ (l : List Token). h.2 ++ mark 44 ∷ l)
    (append_assoc h.4 (mark 44 ∷ []) (x ++ mark 41 ∷ [])))))
    (clamp_call r (suc r) h.0 a b t h.2 h.4 x (omega arith) h.1 h.3 h.5 d)
closed_spelled s r IfFirst t z x h d = tt
closed_spelled s r (IfSecond o a) t z x h d = tt
closed_spelled s r (IfThird o a b) t z x h d = tt
closed_spelled s r (IfFourth o a b c) t z x h d =
    subst (Spells s (suc r) operands (choose o a b c t))
    (sym (ap (λ (l : List Token). l ++ (x ++ mark 41 ∷ [])) h.8
    ∙ ap (λ (l : List Token). word h.0 ∷ mark 40 ∷ l)
    (append_assoc h.2 (compare_mark o ∷ (h.4 ++ mark 44 ∷ (h.6 ++ mark 44 ∷ [])))
    (x ++ mark 41 ∷ [])
    ∙ ap (λ (l : List Token). h.2 ++ compare_mark o ∷ l)
    (append_assoc h.4 (mark 44 ∷ (h.6 ++ mark 44 ∷ [])) (x ++ mark 41 ∷ [])
    ∙ ap (λ (l : List Token). h.4 ++ mark 44 ∷ l)
    (append_assoc h.6 (mark 44 ∷ []) (x ++ mark 41 ∷ []))))))
    (choice r (suc r) h.0 o a b c t h.2 h.4 h.6 x (omega arith) h.1 h.3 h.5 h.7 d)
