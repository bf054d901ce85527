-- Params by their names, and the names alone.
use Rattle.std.proofs.Common.{◌≡◌, ℕ, ◌+◌, Bool, cond, List, [], ◌∷◌, length, Some, None, refl, ap}
use Rattle.std.proofs.Common.{arith}
use Rattle.std.specs.Prelude.{◌||◌, not, nat_lt, position}
use Rattle.std.specs.List.{prefix_len, list_any}
use Rattle.std.specs.Str.{bytes_eq}
use Rattle.vertex_expr.specs.Writable.{names_of}
use Rattle.vertex_expr.specs.declared.program.NamedParam.{NamedParam}

length-names : (ps : List NamedParam) → length ps ≡ length (names_of ps)
length-names [] = refl
length-names (p ∷ ps) = let h = length-names ps in omega arith

prefix_len-names : (q : List ℕ → Bool) (ps : List NamedParam)
    → prefix_len (λ p. q p.name) ps ≡ prefix_len q (names_of ps)
prefix_len-names q [] = refl
prefix_len-names q (p ∷ ps) = ap (λ n. cond (q p.name) (1 + n) 0) (prefix_len-names q ps)

pub position-names : (w : List ℕ) (ps : List NamedParam)
    → position (λ p. bytes_eq p.name w) ps ≡ position (λ n. bytes_eq n w) (names_of ps)
position-names w ps =
    let e = prefix_len-names (λ n. not (bytes_eq n w)) ps in
    let f = length-names ps in
    λ i. cond (nat_lt (e i) (f i)) (Some (e i)) None

pub list_any-names : (w : List ℕ) (ps : List NamedParam)
    → list_any (λ p. bytes_eq p.name w) ps ≡ list_any (λ n. bytes_eq n w) (names_of ps)
list_any-names w [] = refl
list_any-names w (p ∷ ps) = ap (λ b. bytes_eq p.name w || b) (list_any-names w ps)
