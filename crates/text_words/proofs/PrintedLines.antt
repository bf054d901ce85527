-- Printed lines.
use Rattle.std.proofs.Common.{◌≡◌, w64, ℕ, zero, suc, ◌-◌, ◌^◌, ◌<◌, Bool, true, false, cond, List}
use Rattle.std.proofs.Common.{[], ◌∷◌, ◌++◌, length, take, refl, sym, ◌∙◌, ap, arith, length-append}
use Rattle.std.specs.Prelude.{◌==◌, ◌&&◌, not, nat_lt, slice_index, decimal, ℤ, pos, negsuc}
use Rattle.std.specs.Prelude.{FitsSigned}
use Rattle.std.specs.Fmt.{signed_decimal}
use Rattle.std.specs.Char.{is_ascii_digit}
use Rattle.std.specs.List.{prefix_len, take_while}
use Rattle.std.proofs.lemmas.Bool.Decides.{nat_tests}
use Rattle.std.proofs.lemmas.List.{take_at, append-nil}
use Rattle.vertex_expr.specs.Names.{is_name, is_name_byte}
use Rattle.lexical.specs.Bytes.{is_no_line_feed, is_no_hash, without_carriage_return}
use Rattle.lexical.specs.Lines.{line_length, front_line}
use Rattle.text_words.proofs.Lexing.{Passes, pass_all, decimal_is}
use Rattle.text_words.proofs.FieldLemmas.{name_bytes}

-- a byte that canonical lines have: no control byte and no `#`
abbrev pub is_printed : ℕ → Bool
is_printed b = nat_lt 31 b && not (b == 35)

no_line_feed : (x : List ℕ) → Passes is_printed x → Passes is_no_line_feed x
no_line_feed [] p = tt
no_line_feed (b ∷ bs) p = (one b p.0, no_line_feed bs p.1)
  where
    one : (d : ℕ) → is_printed d ≡ true → is_no_line_feed d ≡ true
    one d e = grind (arith, nat_tests)

no_hash : (x : List ℕ) → Passes is_printed x → Passes is_no_hash x
no_hash [] p = tt
no_hash (b ∷ bs) p = (one b p.0, no_hash bs p.1)
  where
    one : (d : ℕ) → is_printed d ≡ true → is_no_hash d ≡ true
    one d e = grind (arith, nat_tests)

-- no byte of it is a carriage return
none_is : (x : List ℕ) (k : ℕ) → Passes is_printed x → (slice_index x k == 13) ≡ false
none_is [] k p = refl
none_is (b ∷ bs) zero p = one b p.0
  where
    one : (d : ℕ) → is_printed d ≡ true → (d == 13) ≡ false
    one d e = grind (arith, nat_tests)
none_is (b ∷ bs) (suc k) p = none_is bs k p.1

kept_whole : (x : List ℕ) → Passes is_printed x → without_carriage_return x ≡ x
kept_whole x p = ap (λ b. cond b (take (length x - 1) x) x) (none_is x (length x - 1) p)

-- it goes up to its line feed
pub line_stop : (x rest : List ℕ) → Passes is_printed x
    → prefix_len is_no_line_feed (x ++ 10 ∷ rest) ≡ length x
line_stop x rest h = pass_all is_no_line_feed x (10 ∷ rest) (no_line_feed x h) refl

-- the line in front of a text
pub front_of : (x rest : List ℕ) → Passes is_printed x → line_length (x ++ 10 ∷ rest) ≡ length x
unfolding line_length front_line
front_of x rest h =
    let n : prefix_len is_no_line_feed (x ++ 10 ∷ rest) ≡ length x = line_stop x rest h in
    let other : (prefix_len is_no_line_feed (x ++ 10 ∷ rest) == length (x ++ 10 ∷ rest)) ≡ false =
    ap (λ k. k == length (x ++ 10 ∷ rest)) n
    ∙ short (length x) (length (x ++ 10 ∷ rest)) (omega (arith, length-append x (10 ∷ rest))) in
    ap (λ b. prefix_len is_no_hash (cond b (x ++ 10 ∷ rest)
    (without_carriage_return (take_while is_no_line_feed (x ++ 10 ∷ rest))))) other
    ∙ ap (λ k. prefix_len is_no_hash (without_carriage_return (take k (x ++ 10 ∷ rest)))) n
    ∙ ap (λ (l : List ℕ). prefix_len is_no_hash (without_carriage_return l))
    (take_at x (10 ∷ rest) (length x) refl)
    ∙ ap (prefix_len is_no_hash) (kept_whole x h) ∙ all x (no_hash x h)
  where
    short : (a b : ℕ) → a < b → (a == b) ≡ false
    short a b less = grind (arith, nat_tests)

    all : (x : List ℕ) → Passes is_no_hash x → prefix_len is_no_hash x ≡ length x
    all x p = ap (prefix_len is_no_hash) (sym (append-nil x)) ∙ pass_all is_no_hash x [] p refl

-- what is printed in lines
printed_bytes : (p : ℕ → Bool) (x : List ℕ) → ((b : ℕ) → p b ≡ true → is_printed b ≡ true)
    → Passes p x → Passes is_printed x
printed_bytes p [] f h = tt
printed_bytes p (b ∷ bs) f h = (f b h.0, printed_bytes p bs f h.1)

digit_printed : (d : ℕ) → is_ascii_digit d ≡ true → is_printed d ≡ true
digit_printed d e = grind (arith, nat_tests)

name_byte_printed : (d : ℕ) → is_name_byte d ≡ true → is_printed d ≡ true
name_byte_printed d e = grind (arith, nat_tests)

pub decimal_printed : (n : ℕ) → n < 2 ^ 64 → Passes is_printed (decimal n)
decimal_printed n small =
    printed_bytes is_ascii_digit (decimal n) digit_printed (let d = decimal_is n small in d.all)

pub signed_printed : (z : ℤ) → FitsSigned w64 z → Passes is_printed (signed_decimal z)
signed_printed (pos n) fits = decimal_printed n (omega arith)
signed_printed (negsuc n) fits = (refl, decimal_printed (suc n) (omega arith))

pub name_printed : (w : List ℕ) → is_name w ≡ true → Passes is_printed w
name_printed w e = let h = name_bytes w e in printed_bytes is_name_byte w name_byte_printed h.1
