-- Steps and runs.
use Rattle.std.proofs.Common.{◌≡◌, ℕ, ◌+◌, ◌<◌, true, cond, List, [], ◌∷◌, ◌++◌, length, Result, Ok}
use Rattle.std.proofs.Common.{Err, refl, sym, ◌∙◌, ap, arith}
use Rattle.std.specs.Prelude.{nat_lt}
use Rattle.std.proofs.lemmas.Bool.Decides.{nat_tests}
use Rattle.text_words.specs.Token.{Token}
use Rattle.expr_text.specs.declared.reading.Cause.{Cause}
use Rattle.expr_text.specs.declared.reading.Cause.TheVariants.{TooBig}
use Rattle.expr_text.specs.declared.reading.Place.{Place}
use Rattle.expr_text.specs.declared.reading.Due.TheVariants.{Primary}
use Rattle.expr_text.specs.declared.reading.Reading.{Reading}
use Rattle.vertex_expr.specs.Writable.{Scope}
use Rattle.expr_text.specs.Reading.{counted, opened, fresh, step, ◌>>=◌}
use Rattle.expr_text.specs.Grammar.{go}

bind_assoc : (r : Result Reading Cause) (f g : Reading → Result Reading Cause)
    → ((r >>= f) >>= g) ≡ (r >>= λ q. f q >>= g)
bind_assoc (Ok x) f g = refl
bind_assoc (Err e) f g = refl

pub go-append : (s : Scope) (r : Reading) (xs ys : List Token)
    → go s r (xs ++ ys) ≡ (go s r xs >>= λ q. go s q ys)
go-append s r [] ys = refl
go-append s r (x ∷ xs) ys =
    let f : Reading → Result Reading Cause = λ q. go s q (xs ++ ys) in
    bind_ap (step s r x) f (λ q. go s q xs >>= λ p. go s p ys) (λ q. go-append s q xs ys)
    ∙ sym (bind_assoc (step s r x) (λ q. go s q xs) (λ q. go s q ys))
  where
    bind_ap : (r : Result Reading Cause) (f g : Reading → Result Reading Cause)
        → ((q : Reading) → f q ≡ g q) → (r >>= f) ≡ (r >>= g)
    bind_ap (Ok x) f g e = e x
    bind_ap (Err x) f g e = refl

-- a run and then another
pub go-append_to : (s : Scope) (r q : Reading) (xs ys : List Token) (z : Result Reading Cause)
    → go s r xs ≡ Ok q → go s q ys ≡ z → go s r (xs ++ ys) ≡ z
go-append_to s r q xs ys z e f =
    go-append s r xs ys ∙ ap (λ (o : Result Reading Cause). o >>= λ p. go s p ys) e ∙ f

-- a step and then a run
pub go-cons : (s : Scope) (r q : Reading) (k : Token) (ks : List Token) (z : Result Reading Cause)
    → step s r k ≡ Ok q → go s q ks ≡ z → go s r (k ∷ ks) ≡ z
go-cons s r q k ks z e f = ap (λ (o : Result Reading Cause). o >>= λ p. go s p ks) e ∙ f

below_limit : (n m : ℕ) → n < m → nat_lt n m ≡ true
below_limit n m few = grind (arith, nat_tests)

pub counted_ok : (r : Reading) → r.nodes < 256 → counted r ≡ Ok (record r { nodes = r.nodes + 1 })
unfolding counted
counted_ok r few =
    ap (λ b. cond b (Ok (record r { nodes = r.nodes + 1 })) (Err TooBig))
    (below_limit r.nodes 256 few)

pub opened_ok : (r : Reading) (p : Place) → length r.below < 32
    → opened r p ≡ Ok (record r { below = r.top ∷ r.below; top = fresh p; due = Primary })
unfolding opened
opened_ok r p few =
    ap (λ b. cond b (Ok (record r { below = r.top ∷ r.below; top = fresh p; due = Primary }))
    (Err TooBig)) (below_limit (length r.below) 32 few)
