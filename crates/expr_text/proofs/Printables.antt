-- What an expression that was read is like.
use Rattle.std.proofs.Common.{◌≡◌, ℕ, ◌≤◌, Bool, true, false, cond, List, [], ◌∷◌, length}
use Rattle.std.proofs.Common.{drop, Result, Ok, Err, refl, arith}
use Rattle.std.specs.Prelude.{nat_le}
use Rattle.std.proofs.lemmas.Bool.Decides.{nat_tests}
use Rattle.vertex_expr.specs.Tree.{Tree, nodes, depth}
use Rattle.text_words.specs.Token.{Token}
use Rattle.vertex_expr.specs.Writable.{Scope, IsPrintable, IsTextTree}
use Rattle.expr_text.specs.Reading.{start, step}
use Rattle.expr_text.specs.declared.reading.Cause.{Cause}
use Rattle.text_words.specs.declared.error.LangError.{LangError}
use Rattle.text_words.specs.declared.error.LangError.TheVariants.{TooBig}
use Rattle.expr_text.specs.declared.reading.Due.{Due}
use Rattle.expr_text.specs.declared.reading.Due.TheVariants.{Primary, Digits, OpenParen}
use Rattle.expr_text.specs.declared.reading.Due.TheVariants.{OpenBracket, Index, CloseBracket}
use Rattle.expr_text.specs.declared.reading.Due.TheVariants.{Operator}
use Rattle.expr_text.specs.declared.reading.Frame.{Frame}
use Rattle.expr_text.specs.declared.reading.Reading.{Reading}
use Rattle.text_words.specs.Tokens.{tokens_from}
use Rattle.expr_text.specs.Expressions.{expression_at, read_tokens, closed_whole, goes_on}
use Rattle.expr_text.specs.Expressions.{expression, first_place, shallow}
use Rattle.expr_text.proofs.KeptParts.{Good, Kept}
use Rattle.expr_text.proofs.Kept.{step_kept, product_fits, product_nodes}

-- a tree that a text can have in this place
pub record IsRead (s : Scope) (t : Tree) : Type 0 where
  pub fits : IsPrintable s t
  pub few : nodes t ≤ 256

abbrev pub TreeKept : Scope → Result Tree LangError → Type 0
TreeKept s (Ok t) = IsRead s t
TreeKept s (Err e) = Unit {0}

closed_kept : (s : Scope) (n : ℕ) (f : Frame) (fs : List Frame) (d : Due) (end : ℕ)
    → Good s (record { nodes = n; top = f; below = fs; due = d })
    → TreeKept s (closed_whole f fs d end)
closed_kept s n f [] (Operator t) end g =
    record {
      fits = product_fits s f.sum t g.held.top.sum g.due;
      few = omega
          (arith, product_nodes f.sum t, g.held.count, g.held.few);
    }
closed_kept s n f [] Primary end g = tt
closed_kept s n f [] (Digits t) end g = tt
closed_kept s n f [] (OpenParen c) end g = tt
closed_kept s n f [] (OpenBracket l) end g = tt
closed_kept s n f [] (Index l) end g = tt
closed_kept s n f [] (CloseBracket t) end g = tt
closed_kept s n f (h ∷ hs) d end g = tt

read_kept : (s : Scope) (end : ℕ) (r : Reading) (ks : List (Token × ℕ)) → Good s r
    → TreeKept s (read_tokens s end r ks)
read_kept s end r [] g = closed_kept s r.nodes r.top r.below r.due end g
read_kept s end r (k ∷ ks) g =
    next (step s r k.0) (step_kept s r k.0 g) (λ q h. read_kept s end q ks h)
  where
    next : (o : Result Reading Cause) → Kept s o
        → ((q : Reading) → Good s q → TreeKept s (read_tokens s end q ks))
        → TreeKept s (goes_on k.1 o (λ q. read_tokens s end q ks))
    next (Ok q) h more = more q h
    next (Err c) h more = tt

start_good : (s : Scope) → Good s start
start_good s =
    record {
      held = record {
        top = record { place = tt; sum = tt; product = tt };
        rest = tt;
        count = omega arith;
        few = omega arith;
      };
      due = tt;
      clear = tt;
    }

-- the expression is one that prints
pub expression_kept : (s : Scope) (end : ℕ) (ks : List (Token × ℕ)) (t : Tree)
    → expression s end ks ≡ Ok t → IsRead s t × (depth t ≤ 32)
unfolding expression
expression_kept s end ks t e =
    whole (read_tokens s end start ks) (read_kept s end start ks (start_good s)) e
  where
    low : (n : ℕ) → nat_le n 32 ≡ true → n ≤ 32
    low n on = grind (arith, nat_tests)

    test : (u : Tree) (b : Bool) → nat_le (depth u) 32 ≡ b → IsRead s u
        → let o : Result Tree LangError = cond b (Ok u) (Err (TooBig (first_place end ks))) in
        (o ≡ Ok t) → IsRead s t × (depth t ≤ 32)
    test u true on h same =
        let eq : u ≡ t = cc in
        let P : Tree → Type 0 = λ x. IsRead s x × (depth x ≤ 32) in
        Rattle.std.proofs.Common.subst P eq (h, low (depth u) on)
    test u false on h same = absurd (let no : ⊥ = cc in no)

    whole : (o : Result Tree LangError) → TreeKept s o → shallow (first_place end ks) o ≡ Ok t
        → IsRead s t × (depth t ≤ 32)
    whole (Ok u) h same = test u (nat_le (depth u) 32) refl h same
    whole (Err x) h same = absurd (let no : ⊥ = cc in no)

pub text_tree : (s : Scope) (end : ℕ) (ks : List (Token × ℕ)) (t : Tree)
    → read_tokens s end start ks ≡ Ok t → nat_le (depth t) 32 ≡ true → IsTextTree s t
text_tree s end ks t e on =
    let P : Result Tree LangError → Type 0 = λ o. TreeKept s o in
    let h : IsRead s t =
    Rattle.std.proofs.Common.subst P e (read_kept s end start ks (start_good s)) in
    record { fits = h.fits; few = h.few; shallow = low (depth t) on }
  where
    low : (n : ℕ) → nat_le n 32 ≡ true → n ≤ 32
    low n on = grind (arith, nat_tests)

-- what is read in a line is a tree that a text can have there
pub expression_fits : (s : Scope) (line : List ℕ) (from : ℕ) (t : Tree)
    → expression_at s line from ≡ Ok t → IsTextTree s t
unfolding expression_at
expression_fits s line from t e =
    let h = expression_kept s (length line) (tokens_from 0 from (drop from line)) t e in
    record { fits = h.0.fits; few = h.0.few; shallow = h.1 }
