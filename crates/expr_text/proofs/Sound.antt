-- What is read is in the grammar.
use Rattle.std.proofs.Common.{◌≡◌, ℕ, Bool, true, false, cond, List, [], ◌∷◌, ◌++◌, map, Option}
use Rattle.std.proofs.Common.{Some, None, Result, Ok, Err, refl, sym, ◌∙◌, ap, subst, arith}
use Rattle.std.proofs.lemmas.List.{append_assoc, append-nil}
use Rattle.std.specs.Prelude.{nat_le}
use Rattle.vertex_expr.specs.Tree.{Tree, sums, depth}
use Rattle.text_words.specs.Token.{Token}
use Rattle.expr_text.specs.declared.reading.Cause.{Cause}
use Rattle.expr_text.specs.declared.reading.Factor.{Factor}
use Rattle.expr_text.specs.declared.reading.Frame.{Frame}
use Rattle.expr_text.specs.declared.reading.Due.{Due}
use Rattle.expr_text.specs.declared.reading.Due.TheVariants.{Primary, Digits, OpenParen}
use Rattle.expr_text.specs.declared.reading.Due.TheVariants.{OpenBracket, Index, CloseBracket}
use Rattle.expr_text.specs.declared.reading.Due.TheVariants.{Operator}
use Rattle.expr_text.specs.declared.reading.Reading.{Reading}
use Rattle.vertex_expr.specs.Writable.{Scope}
use Rattle.expr_text.specs.Reading.{step, product_of, start}
use Rattle.expr_text.specs.Grammar.{Spells}
use Rattle.expr_text.specs.Expressions.{expression, read_tokens, goes_on, closed_whole, shallow}
use Rattle.expr_text.specs.Expressions.{first_place}
use Rattle.text_words.specs.declared.error.LangError.{LangError}
use Rattle.text_words.specs.declared.error.LangError.TheVariants.{TooBig as TooBigAt}
use Rattle.expr_text.proofs.TokenLists.{AreTokens}
use Rattle.expr_text.proofs.SpelledParts.{SumSpelled, ProductSpelled, IsRead, Follows, st}
use Rattle.expr_text.proofs.SpelledOperands.{sum_done}
use Rattle.expr_text.proofs.SpelledSteps.{step_follows}

-- what was read
abbrev pub tree_or : Tree → Result Tree LangError → Tree
tree_or t (Ok u) = u
tree_or t (Err e) = t

pub ok_is : (t u : Tree) → (let r : Result Tree LangError = Ok u in r) ≡ Ok t → u ≡ t
ok_is t u e = ap (tree_or t) e

-- the end of the line
pub end_spells : (s : Scope) (f : Frame) (fs : List Frame) (d : Due) (n at : ℕ) (x : List Token)
    (t : Tree) → IsRead s (st n f fs d) x → closed_whole f fs d at ≡ Ok t → Spells s 32 sums t x
end_spells s f [] (Operator u) n at x t h e =
    let o = h.opening in
    let r32 : h.room ≡ 32 = omega (arith, h.deep) in
    let is_tree : product_of f.sum u ≡ t = ok_is t (product_of f.sum u) e in
    let left : SumSpelled s h.room f.sum o.left = o.left_spelled in
    let whole : Spells s h.room sums (product_of f.sum u) (o.left ++ h.begun) =
    sum_done s h.room f.sum o.left h.begun u left h.due in
    let none : o.factor ≡ [] = clear_factor f.product o.factor h.clear o.factor_spelled in
    let list : x ≡ o.left ++ h.begun =
    h.all ∙ ap (λ (l : List Token). l ++ h.begun)
    (o.all ∙ ap (λ (l : List Token). l ++ (o.left ++ o.factor)) o.outer_spelled.1
    ∙ ap (λ (l : List Token). o.left ++ l) none ∙ append-nil o.left) in
    subst (λ (l : List Token). Spells s 32 sums t l) (sym list)
    (subst (λ (m : ℕ). Spells s m sums t (o.left ++ h.begun)) r32
    (subst (λ (v : Tree). Spells s h.room sums v (o.left ++ h.begun)) is_tree whole))
  where
    clear_factor : (pr : Option (Factor × Tree)) (y : List Token) → pr ≡ None
        → ProductSpelled s h.room pr y → y ≡ []
    clear_factor None y c p = p
    clear_factor (Some q) y c p = absurd (let no : ⊥ = cc in no)
end_spells s f [] Primary n at x t h e = absurd (cc)
end_spells s f [] (Digits u) n at x t h e = absurd (cc)
end_spells s f [] (OpenParen c) n at x t h e = absurd (cc)
end_spells s f [] (OpenBracket l) n at x t h e = absurd (cc)
end_spells s f [] (Index l) n at x t h e = absurd (cc)
end_spells s f [] (CloseBracket u) n at x t h e = absurd (cc)
end_spells s f (g ∷ gs) Primary n at x t h e = absurd (cc)
end_spells s f (g ∷ gs) (Digits u) n at x t h e = absurd (cc)
end_spells s f (g ∷ gs) (OpenParen c) n at x t h e = absurd (cc)
end_spells s f (g ∷ gs) (OpenBracket l) n at x t h e = absurd (cc)
end_spells s f (g ∷ gs) (Index l) n at x t h e = absurd (cc)
end_spells s f (g ∷ gs) (CloseBracket u) n at x t h e = absurd (cc)
end_spells s f (g ∷ gs) (Operator u) n at x t h e = absurd (cc)

-- a step and the run behind it
pub step_spells : (s : Scope) (at place : ℕ) (x : List Token) (ks : List (Token × ℕ)) (t : Tree)
    → ((q : Reading) → IsRead s q x → AreTokens (x ++ map (λ (p : Token × ℕ). p.0) ks)
    → read_tokens s at q ks ≡ Ok t → Spells s 32 sums t (x ++ map (λ (p : Token × ℕ). p.0) ks))
    → (o : Result Reading Cause) → Follows s x o → AreTokens (x ++ map (λ (p : Token × ℕ). p.0) ks)
    → goes_on place o (λ q. read_tokens s at q ks) ≡ Ok t
    → Spells s 32 sums t (x ++ map (λ (p : Token × ℕ). p.0) ks)
step_spells s at place x ks t run (Ok q) f g e = run q f g e
step_spells s at place x ks t run (Err c) f g e = absurd (cc)

-- a run to the end of the line
pub run_spells : (s : Scope) (at : ℕ) (r : Reading) (x : List Token) (ks : List (Token × ℕ))
    (t : Tree) → IsRead s r x → AreTokens (x ++ map (λ (p : Token × ℕ). p.0) ks)
    → read_tokens s at r ks ≡ Ok t
    → Spells s 32 sums t (x ++ map (λ (p : Token × ℕ). p.0) ks)
run_spells s at r x [] t h good e =
    subst (Spells s 32 sums t) (sym (append-nil x))
    (end_spells s r.top r.below r.due r.nodes at x t h e)
run_spells s at r x (k ∷ ks) t h good e =
    let rest : List Token = map (λ (p : Token × ℕ). p.0) ks in
    let list : (x ++ k.0 ∷ []) ++ rest ≡ x ++ k.0 ∷ rest = append_assoc x (k.0 ∷ []) rest in
    subst (Spells s 32 sums t) list
    (step_spells s at k.1 (x ++ k.0 ∷ []) ks t (λ q f g. run_spells s at q (x ++ k.0 ∷ []) ks t f g)
    (step s r k.0) (step_follows s r x k.0 rest h good) (subst AreTokens (sym list) good) e)

-- nothing was read yet
pub start_is_read : (s : Scope) → IsRead s start []
start_is_read s = record {
  room = 32;
  deep = refl;
  before = [];
  begun = [];
  opening =
      record {
        outer = [];
        left = [];
        factor = [];
        outer_spelled = (refl, refl);
        left_spelled = refl;
        factor_spelled = refl;
        all = refl;
      };
  due = refl;
  clear = tt;
  all = refl;
}

pub read_spelled : (s : Scope) (at : ℕ) (ks : List (Token × ℕ)) (t : Tree)
    → AreTokens (map (λ (p : Token × ℕ). p.0) ks) → read_tokens s at start ks ≡ Ok t
    → Spells s 32 sums t (map (λ (p : Token × ℕ). p.0) ks)
read_spelled s at ks t good e = run_spells s at start [] ks t (start_is_read s) good e

pub expression_spelled : (s : Scope) (at : ℕ) (ks : List (Token × ℕ)) (t : Tree)
    → AreTokens (map (λ (p : Token × ℕ). p.0) ks) → expression s at ks ≡ Ok t
    → Spells s 32 sums t (map (λ (p : Token × ℕ). p.0) ks)
unfolding expression
expression_spelled s at ks t good e =
    read_spelled s at ks t good (deep_enough (read_tokens s at start ks) e)
  where
    either : (b : Bool) (u v : Result Tree LangError) (c : LangError) → v ≡ Err c
        → cond b u v ≡ Ok t → u ≡ Ok t
    either true u v c f e = e
    either false u v c f e = absurd (cc)

    deep_enough : (o : Result Tree LangError) → shallow (first_place at ks) o ≡ Ok t → o ≡ Ok t
    deep_enough (Ok u) e =
        either (nat_le (depth u) 32) (Ok u) (Err (TooBigAt (first_place at ks)))
        (TooBigAt (first_place at ks)) refl e
    deep_enough (Err c) e = e
