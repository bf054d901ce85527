-- Each step keeps what is read spelled.
use Rattle.std.proofs.Common.{◌≡◌, ℕ, ◌+◌, true, cond, List, [], ◌∷◌, ◌++◌, length, Option, Some}
use Rattle.std.proofs.Common.{None, Ok, Err, refl, sym, ◌∙◌, ap, subst, pos}
use Rattle.std.proofs.lemmas.List.{append_assoc}
use Rattle.std.specs.Prelude.{◌==◌, nat_lt, nat_le, neg_ℤ, ◌^◌}
use Rattle.vertex_expr.specs.Tree.{Tree, literal, operands}
use Rattle.text_words.specs.Token.{Token, number, word, at_most, dash, mark}
use Rattle.expr_text.specs.declared.reading.Cause.TheVariants.{TooBig}
use Rattle.expr_text.specs.declared.reading.Sign.{Sign}
use Rattle.expr_text.specs.declared.reading.Factor.{Factor}
use Rattle.expr_text.specs.declared.reading.Call.{Call}
use Rattle.expr_text.specs.declared.reading.Call.TheVariants.{Min, Max, Clamp, If}
use Rattle.expr_text.specs.declared.reading.Lane.{Lane}
use Rattle.expr_text.specs.declared.reading.Place.{Place}
use Rattle.expr_text.specs.declared.reading.Place.TheVariants.{Group}
use Rattle.expr_text.specs.declared.reading.Frame.{Frame}
use Rattle.expr_text.specs.declared.reading.Due.{Due}
use Rattle.expr_text.specs.declared.reading.Due.TheVariants.{Primary, Digits, OpenParen}
use Rattle.expr_text.specs.declared.reading.Due.TheVariants.{OpenBracket, Index, CloseBracket}
use Rattle.expr_text.specs.declared.reading.Due.TheVariants.{Operator}
use Rattle.expr_text.specs.declared.reading.Reading.{Reading}
use Rattle.vertex_expr.specs.Writable.{Scope}
use Rattle.expr_text.specs.Reading.{Meaning, meaning_of, leaf, lane, call, nothing, opened, taken}
use Rattle.expr_text.specs.Reading.{first_of, step, named, lane_of, at_operand, due_step, is_mark}
use Rattle.expr_text.specs.Reading.{at_index}
use Rattle.expr_text.specs.Grammar.{Spells, numeral, negative, name, indexed}
use Rattle.expr_text.proofs.KeptParts.{nat_lt_below}
use Rattle.expr_text.proofs.KeptParts.{MeaningFits, meaning_fits}
use Rattle.expr_text.proofs.TokenLists.{AreTokens}
use Rattle.expr_text.proofs.SpelledParts.{PlaceSpelled, OpenSpelled, DueSpelled, IsClear, IsRead}
use Rattle.expr_text.proofs.SpelledParts.{Follows, st, frame}
use Rattle.expr_text.proofs.SpelledOperands.{at_most_of, follows_either, counted_follows}
use Rattle.expr_text.proofs.SpelledOperands.{taken_with, waiting_is_read, opened_follows}
use Rattle.expr_text.proofs.SpelledOperators.{mark_is, at_operator_follows}

-- where an operand is due
pub named_follows : (s : Scope) (r n : ℕ) (p : Place) (sm : Option (Sign × Tree))
    (pr : Option (Factor × Tree)) (fs : List Frame) (x : List Token) (w : List ℕ) (m : Meaning)
    → length fs + r ≡ 32
    → OpenSpelled s r p sm pr fs x → meaning_of s w ≡ m → MeaningFits s m
    → Follows s ((x ++ []) ++ word w ∷ []) (named (st n (frame p sm pr) fs Primary) m)
named_follows s r n p sm pr fs x w (leaf t) deep h is fits =
    counted_follows s _ (st n (frame p sm pr) fs Primary) (λ q. Ok (taken q t))
    (taken_with s r (n + 1) p sm pr fs x [] (word w) t deep h (name r w t fits.1 is))
named_follows s r n p sm pr fs x w (lane l) deep h is fits =
    counted_follows s _ (st n (frame p sm pr) fs Primary)
    (λ q. Ok (record q { due = OpenBracket l }))
    (waiting_is_read s r (n + 1) p sm pr fs x [] (word w) (OpenBracket l) deep h (w, is, refl)
    tt)
named_follows s r n p sm pr fs x w (call c) deep h is fits =
    counted_follows s _ (st n (frame p sm pr) fs Primary) (λ q. Ok (record q { due = OpenParen c }))
    (waiting_is_read s r (n + 1) p sm pr fs x [] (word w) (OpenParen c) deep h (w, is, refl) tt)
named_follows s r n p sm pr fs x w nothing deep h is fits = tt

pub at_operand_follows : (s : Scope) (r n : ℕ) (p : Place) (sm : Option (Sign × Tree))
    (pr : Option (Factor × Tree)) (fs : List Frame) (x : List Token) (k : Token)
    → length fs + r ≡ 32
    → OpenSpelled s r p sm pr fs x → Follows s ((x ++ []) ++ k ∷ [])
    (at_operand s (st n (frame p sm pr) fs Primary) k)
at_operand_follows s r n p sm pr fs x (number m) deep h =
    counted_follows s _ (st n (frame p sm pr) fs Primary)
    (λ q. cond (nat_lt m (2 ^ 63)) (Ok (taken q (literal (pos m)))) (Err TooBig))
    (follows_either s _ (nat_lt m (2 ^ 63)) _ _
    (λ e. taken_with s r (n + 1) p sm pr fs x [] (number m) (literal (pos m)) deep h
    (numeral r m (nat_lt_below m (2 ^ 63) e))) tt)
at_operand_follows s r n p sm pr fs x (dash None) deep h = tt
at_operand_follows s r n p sm pr fs x (dash (Some m)) deep h =
    counted_follows s _ (st n (frame p sm pr) fs Primary)
    (λ q. cond (nat_le m (2 ^ 63)) (Ok (record q { due = Digits (literal (neg_ℤ (pos m))) }))
    (Err TooBig))
    (follows_either s _ (nat_le m (2 ^ 63)) _ _
    (λ e. waiting_is_read s r (n + 1) p sm pr fs x [] (dash (Some m))
    (Digits (literal (neg_ℤ (pos m)))) deep h (m, at_most_of m (2 ^ 63) e, refl, refl) tt) tt)
at_operand_follows s r n p sm pr fs x (word w) deep h =
    named_follows s r n p sm pr fs x w (meaning_of s w) deep h refl (meaning_fits s w)
at_operand_follows s r n p sm pr fs x at_most deep h = tt
at_operand_follows s r n p sm pr fs x (mark b) deep h =
    follows_either s _ (b == 40) _ _
    (λ e. subst (λ (l : List Token). Follows s l
    (opened (st n (frame p sm pr) fs Primary) Group))
    (sym (append_assoc x [] (mark b ∷ []) ∙ ap (λ (i : Token). x ++ i ∷ []) (mark_is b 40 e)))
    (opened_follows s r n p sm pr fs Group x (mark 40 ∷ []) deep h (λ m. refl))) tt

pub digits_follow : (x : List Token) (n : ℕ) (k : Token) (ks : List Token)
    → AreTokens (x ++ dash (Some n) ∷ k ∷ ks) → k ≡ number n
digits_follow [] n k ks h = h.0
digits_follow (dash (Some m) ∷ x) n k ks h = digits_follow x n k ks h.1
digits_follow (dash None ∷ x) n k ks h = digits_follow x n k ks h
digits_follow (number m ∷ x) n k ks h = digits_follow x n k ks h
digits_follow (word w ∷ x) n k ks h = digits_follow x n k ks h
digits_follow (at_most ∷ x) n k ks h = digits_follow x n k ks h
digits_follow (mark b ∷ x) n k ks h = digits_follow x n k ks h

pub is_mark_is : (m : ℕ) (k : Token) → is_mark m k ≡ true → k ≡ mark m
is_mark_is m (mark b) e = mark_is b m e
is_mark_is m (number n) e = absurd (cc)
is_mark_is m (word w) e = absurd (cc)
is_mark_is m at_most e = absurd (cc)
is_mark_is m (dash n) e = absurd (cc)

pub first_spelled : (s : Scope) (r : ℕ) (c : Call) (w : List ℕ) (z : List Token)
    → meaning_of s w ≡ call c → z ≡ word w ∷ mark 40 ∷ [] → PlaceSpelled s r (first_of c) z
first_spelled s r Min w z e f = (w, e, f)
first_spelled s r Max w z e f = (w, e, f)
first_spelled s r Clamp w z e f = (w, e, f)
first_spelled s r If w z e f = (w, e, f)

pub index_follows : (s : Scope) (r n : ℕ) (p : Place) (sm : Option (Sign × Tree))
    (pr : Option (Factor × Tree)) (fs : List Frame) (x b : List Token) (l : Lane) (k : Token)
    → length fs + r ≡ 32
    → OpenSpelled s r p sm pr fs x → DueSpelled s r (Index l) b
    → Follows s ((x ++ b) ++ k ∷ []) (at_index s (st n (frame p sm pr) fs Primary) l k)
index_follows s r n p sm pr fs x b l (number m) deep h d =
    follows_either s _ (nat_lt m s.lanes) _ _
    (λ e. waiting_is_read s r n p sm pr fs x b (number m) (CloseBracket (lane_of l m)) deep h (
      d.0,
      l,
      m,
      d.1,
      nat_lt_below m s.lanes e,
      refl,
      ap (λ (i : List Token). i ++ number m ∷ [])
          d.2,
    ) tt) tt
index_follows s r n p sm pr fs x b l (word w) deep h d = tt
index_follows s r n p sm pr fs x b l at_most deep h d = tt
index_follows s r n p sm pr fs x b l (dash m) deep h d = tt
index_follows s r n p sm pr fs x b l (mark c) deep h d = tt

pub due_follows : (s : Scope) (r n : ℕ) (p : Place) (sm : Option (Sign × Tree))
    (pr : Option (Factor × Tree)) (fs : List Frame) (d : Due) (x b : List Token) (k : Token)
    (ks : List Token) → length fs + r ≡ 32
    → OpenSpelled s r p sm pr fs x → DueSpelled s r d b → IsClear d pr
    → AreTokens ((x ++ b) ++ k ∷ ks)
    → Follows s ((x ++ b) ++ k ∷ []) (due_step s (st n (frame p sm pr) fs Primary) d k)
due_follows s r n p sm pr fs Primary x b k ks deep h d clear good =
    subst (λ (l : List Token). Follows s ((x ++ l) ++ k ∷ [])
    (at_operand s (st n (frame p sm pr) fs Primary) k)) (sym d)
    (at_operand_follows s r n p sm pr fs x k deep h)
due_follows s r n p sm pr fs (Digits t) x b k ks deep h d clear good =
    let list : (x ++ b) ++ k ∷ ks ≡ x ++ dash (Some d.0) ∷ k ∷ ks =
    ap (λ (l : List Token). (x ++ l) ++ k ∷ ks) d.3
    ∙ append_assoc x (dash (Some d.0) ∷ []) (k ∷ ks) in
    let digits : k ≡ number d.0 = digits_follow x d.0 k ks (subst AreTokens list good) in
    let spelled : Spells s r operands (literal (neg_ℤ (pos d.0))) (b ++ k ∷ []) =
    subst (Spells s r operands (literal (neg_ℤ (pos d.0))))
    (sym (ap (λ (l : List Token). l ++ k ∷ []) d.3
    ∙ ap (λ (i : Token). dash (Some d.0) ∷ i ∷ []) digits)) (negative r d.0 d.1) in
    taken_with s r n p sm pr fs x b k t deep h
    (subst (λ (u : Tree). Spells s r operands u (b ++ k ∷ [])) (sym d.2) spelled)
due_follows s r n p sm pr fs (OpenParen c) x b k ks deep h d clear good =
    follows_either s _ (is_mark 40 k) _ _
    (λ e. subst (λ (l : List Token). Follows s l
    (opened (st n (frame p sm pr) fs Primary) (first_of c))) (sym (append_assoc x b (k ∷ [])))
    (opened_follows s r n p sm pr fs (first_of c) x (b ++ k ∷ []) deep h
    (λ m. first_spelled s m c d.0 (b ++ k ∷ []) d.1
    (ap (λ (l : List Token). l ++ k ∷ []) d.2
    ∙ ap (λ (i : Token). word d.0 ∷ i ∷ []) (is_mark_is 40 k e))))) tt
due_follows s r n p sm pr fs (OpenBracket l) x b k ks deep h d clear good =
    follows_either s _ (is_mark 91 k) _ _
    (λ e. waiting_is_read s r n p sm pr fs x b k (Index l) deep h (
      d.0,
      d.1,
      ap (λ (i : List Token). i ++ k ∷ []) d.2
          ∙ ap (λ (i : Token). word d.0 ∷ i ∷ []) (is_mark_is 91 k e),
    ) tt) tt
due_follows s r n p sm pr fs (Index l) x b k ks deep h d clear good =
    index_follows s r n p sm pr fs x b l k deep h d
due_follows s r n p sm pr fs (CloseBracket t) x b k ks deep h d clear good =
    follows_either s _ (is_mark 93 k) _ _ (λ e.
    let spelled : Spells s r operands (lane_of d.1 d.2) (b ++ k ∷ []) =
    subst (Spells s r operands (lane_of d.1 d.2))
    (sym (ap (λ (l : List Token). l ++ k ∷ []) d.6
    ∙ ap (λ (i : Token). word d.0 ∷ mark 91 ∷ number d.2 ∷ i ∷ []) (is_mark_is 93 k e)))
    (indexed r d.0 d.1 d.2 d.3 d.4) in
    taken_with s r n p sm pr fs x b k t deep h
    (subst (λ (u : Tree). Spells s r operands u (b ++ k ∷ [])) (sym d.5) spelled)) tt
due_follows s r n p sm None fs (Operator t) x b k ks deep h d clear good =
    at_operator_follows s r n p sm fs x b t k deep h d
due_follows s r n p sm (Some q) fs (Operator t) x b k ks deep h d clear good =
    absurd (let no : ⊥ = cc in no)

-- a step
pub step_follows : (s : Scope) (r : Reading) (x : List Token) (k : Token) (ks : List Token)
    → IsRead s r x → AreTokens (x ++ k ∷ ks) → Follows s (x ++ k ∷ []) (step s r k)
unfolding step
step_follows s r x k ks h good =
    subst (λ (l : List Token). Follows s (l ++ k ∷ [])
    (due_step s (record r { due = Primary }) r.due k)) (sym h.all)
    (due_follows s h.room r.nodes r.top.place r.top.sum r.top.product r.below r.due h.before h.begun
    k ks h.deep h.opening h.due h.clear
    (subst (λ (l : List Token). AreTokens (l ++ k ∷ ks)) h.all good))
