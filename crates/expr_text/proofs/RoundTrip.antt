-- What is printed is read again.
use Rattle.std.proofs.Common.{◌≡◌, ℕ, ◌+◌, ◌≤◌, true, cond, List, [], ◌∷◌, length, drop, Result, Ok}
use Rattle.std.proofs.Common.{Err, sym, ◌∙◌, ap, subst, arith}
use Rattle.std.specs.Prelude.{nat_le}
use Rattle.std.proofs.lemmas.Bool.Decides.{nat_tests}
use Rattle.std.proofs.lemmas.List.{append-nil}
use Rattle.vertex_expr.specs.Tree.{Tree, nodes, depth, sums, level}
use Rattle.text_words.specs.Token.{Token}
use Rattle.text_words.specs.Tokens.{tokens_from}
use Rattle.expr_text.specs.Grammar.{go, Spells}
use Rattle.expr_text.specs.Printing.{tokens_of, text_of}
use Rattle.vertex_expr.specs.Writable.{IsTextTree, Scope}
use Rattle.expr_text.specs.Reading.{start, step, ◌>>=◌}
use Rattle.expr_text.specs.declared.reading.Cause.{Cause}
use Rattle.text_words.specs.declared.error.LangError.{LangError}
use Rattle.text_words.specs.declared.error.LangError.TheVariants.{TooBig}
use Rattle.expr_text.specs.declared.reading.Reading.{Reading}
use Rattle.expr_text.specs.declared.reading.Place.TheVariants.{Whole}
use Rattle.expr_text.specs.Expressions.{read_tokens, closed_whole, goes_on, expression}
use Rattle.expr_text.specs.Expressions.{expression_at, first_place, shallow}
use Rattle.expr_text.proofs.Complete.{spelled_lands}
use Rattle.expr_text.proofs.Canonical.{HasNames, canonical_spelled, as_sum}
use Rattle.text_words.proofs.Lexing.{plain}
use Rattle.expr_text.proofs.Lexed.{HasForms, text_lexes}

-- reading tokens with places is running over the tokens
read_tokens-go : (s : Scope) (end : ℕ) (r q : Reading) (ks : List (Token × ℕ))
    → go s r (plain ks) ≡ Ok q → read_tokens s end r ks ≡ closed_whole q.top q.below q.due end
read_tokens-go s end r q [] e =
    let same : r ≡ q = cc in ap (λ (p : Reading). closed_whole p.top p.below p.due end) same
read_tokens-go s end r q (k ∷ ks) e = next (step s r k.0) e (λ p. read_tokens-go s end p q ks)
  where
    next : (o : Result Reading Cause) → (o >>= λ p. go s p (plain ks)) ≡ Ok q
        → ((p : Reading) → go s p (plain ks) ≡ Ok q
        → read_tokens s end p ks ≡ closed_whole q.top q.below q.due end)
        → goes_on k.1 o (λ p. read_tokens s end p ks) ≡ closed_whole q.top q.below q.due end
    next (Ok p) e more = more p e
    next (Err c) e more = absurd (let h : ⊥ = cc in h)

-- what the grammar spells is the expression, within the limits
pub spelled_is_read : (s : Scope) (end : ℕ) (t : Tree) (ks : List (Token × ℕ))
    → Spells s 32 sums t (plain ks) → nodes t ≤ 256 → depth t ≤ 32 → expression s end ks ≡ Ok t
unfolding expression
spelled_is_read s end t ks spells few deep =
    let run = spelled_lands s 32 sums t (plain ks) spells 0 Whole [] (omega arith) (omega arith) in
    ap (shallow (first_place end ks))
    (read_tokens-go s end start _ ks run.run
    ∙ ap (λ (u : Tree). let o : Result Tree LangError = Ok u in o) run.is)
    ∙ ap (λ b. cond b (Ok t) (Err (TooBig (first_place end ks)))) (on (depth t) deep)
  where
    on : (n : ℕ) → n ≤ 32 → nat_le n 32 ≡ true
    on n small = grind (arith, nat_tests)

-- the canonical text is read as its tree, at whatever place it stands
pub reads_at : (s : Scope) (t : Tree) (end at : ℕ) → HasNames s → HasForms s → IsTextTree s t
    → expression s end (tokens_from 0 at (text_of s.params t)) ≡ Ok t
reads_at s t end at names forms tree =
    let ks = tokens_from 0 at (text_of s.params t) in
    let same : plain ks ≡ tokens_of s.params t =
    ap (λ (l : List ℕ). plain (tokens_from 0 at l)) (sym (append-nil (text_of s.params t)))
    ∙ text_lexes s t forms tree.fits at [] tt ∙ append-nil (tokens_of s.params t) in
    let P : List Token → Type 0 = λ l. Spells s 32 sums t l in
    let deep = tree.shallow in
    spelled_is_read s end t ks (subst P (sym same)
    (as_sum (level t) 32 t (tokens_of s.params t)
    (canonical_spelled s t names tree.fits 32 (omega arith)))) tree.few deep

pub round_trip : (s : Scope) (t : Tree) (line : List ℕ) (from : ℕ) → HasNames s → HasForms s
    → IsTextTree s t → drop from line ≡ text_of s.params t → expression_at s line from ≡ Ok t
unfolding expression_at
round_trip s t line from names forms tree cut =
    ap (λ (l : List ℕ). expression s (length line) (tokens_from 0 from l)) cut
    ∙ reads_at s t (length line) from names forms tree

-- the same behind a space
pub behind_space : (s : Scope) (t : Tree) (line : List ℕ) (from : ℕ) → HasNames s → HasForms s
    → IsTextTree s t → drop from line ≡ 32 ∷ text_of s.params t → expression_at s line from ≡ Ok t
unfolding expression_at
behind_space s t line from names forms tree cut =
    ap (λ (l : List ℕ). expression s (length line) (tokens_from 0 from l)) cut
    ∙ reads_at s t (length line) (from + 1) names forms tree
