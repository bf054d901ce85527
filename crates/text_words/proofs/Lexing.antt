-- The tokens of canonical texts.
use Rattle.std.proofs.Common.{◌≡◌, ℕ, ◌+◌, ◌-◌, ◌*◌, ◌/◌, ◌%◌, ◌^◌, ◌<◌, Bool, true, false, cond}
use Rattle.std.proofs.Common.{List, [], ◌∷◌, ◌++◌, length, take, None, refl, sym, ◌∙◌, ap, arith}
use Rattle.std.proofs.Common.{append_assoc, length-append}
use Rattle.std.specs.Prelude.{◌==◌, ◌||◌, ◌&&◌, codes, decimal, map, min}
use Rattle.std.specs.Char.{is_ascii_digit, is_ascii_lowercase}
use Rattle.std.specs.List.{prefix_len, take_while}
use Rattle.std.proofs.lemmas.Bool.Decides.{nat_tests}
use Rattle.std.proofs.lemmas.Fmt.{decimal_by_steps}
use Rattle.std.proofs.lemmas.List.{take_at, drop_at}
use Rattle.text_words.specs.Token.{Token, number, word, at_most, dash, mark}
use Rattle.lexical.specs.Bytes.{is_blank}
use Rattle.lexical.specs.Numbers.{capped_value, decimal_value}
use Rattle.lexical.proofs.NumberLemmas.{decimal_value-append}
use Rattle.text_words.specs.Tokens.{front_number, number_behind, first_token, tokens_from}
use Rattle.vertex_expr.specs.Names.{is_name_byte}
use Rattle.text_words.proofs.TokenLemmas.{token_at}

abbrev pub plain : List (Token × ℕ) → List Token
plain ks = map (λ p. p.0) ks

-- no word and no number goes on here
abbrev pub IsBreak : List ℕ → Type 0
IsBreak [] = Unit {0}
IsBreak (b ∷ bs) = is_name_byte b ≡ false

-- the text has these tokens where no word goes on behind it
abbrev pub Lexes : List ℕ → List Token → Type 0
Lexes x ks =
    (at : ℕ) (rest : List ℕ) → IsBreak rest
    → plain (tokens_from 0 at (x ++ rest)) ≡ ks ++ plain (tokens_from 0 (at + length x) rest)

-- the text has these tokens whatever stands behind it
abbrev pub Free : List ℕ → List Token → Type 0
Free x ks =
    (at : ℕ) (rest : List ℕ) → plain (tokens_from 0 at (x ++ rest))
    ≡ ks ++ plain (tokens_from 0 (at + length x) rest)

pub free_lexes : (x : List ℕ) (ks : List Token) → Free x ks → Lexes x ks
free_lexes x ks f at rest off = f at rest

tokens_in_turn : (x y : List ℕ) (ks ls : List Token) (at : ℕ) (rest : List ℕ)
    → plain (tokens_from 0 at (x ++ (y ++ rest)))
    ≡ ks ++ plain (tokens_from 0 (at + length x) (y ++ rest))
    → plain (tokens_from 0 (at + length x) (y ++ rest))
    ≡ ls ++ plain (tokens_from 0 (at + length x + length y) rest)
    → plain (tokens_from 0 at ((x ++ y) ++ rest))
    ≡ (ks ++ ls) ++ plain (tokens_from 0 (at + length (x ++ y)) rest)
tokens_in_turn x y ks ls at rest e f =
    let count : at + length x + length y ≡ at + length (x ++ y) =
    omega (arith, length-append x y) in
    ap (λ (l : List ℕ). plain (tokens_from 0 at l)) (append_assoc x y rest) ∙ e
    ∙ ap (λ (l : List Token). ks ++ l) f
    ∙ sym (append_assoc ks ls (plain (tokens_from 0 (at + length x + length y) rest)))
    ∙ ap (λ n. (ks ++ ls) ++ plain (tokens_from 0 n rest)) count

pub free_lex : (x y : List ℕ) (ks ls : List Token) → Free x ks → Lexes y ls
    → Lexes (x ++ y) (ks ++ ls)
free_lex x y ks ls f g at rest off =
    tokens_in_turn x y ks ls at rest (f at (y ++ rest)) (g (at + length x) rest off)

pub free_free : (x y : List ℕ) (ks ls : List Token) → Free x ks → Free y ls
    → Free (x ++ y) (ks ++ ls)
free_free x y ks ls f g at rest =
    tokens_in_turn x y ks ls at rest (f at (y ++ rest)) (g (at + length x) rest)

pub lex_free : (x y : List ℕ) (ks ls : List Token) → Lexes x ks
    → ((rest : List ℕ) → IsBreak (y ++ rest)) → Free y ls → Free (x ++ y) (ks ++ ls)
lex_free x y ks ls f off g at rest =
    tokens_in_turn x y ks ls at rest (f at (y ++ rest) (off rest)) (g (at + length x) rest)

-- fixed pieces
pub plus_free : Free (codes " + ") (mark 43 ∷ [])
unfolding first_token
plus_free at rest =
    ap (λ n. mark 43 ∷ plain (tokens_from 0 n rest))
    (let h : at + 1 + 1 + 1 ≡ at + 3 = omega arith in h)

pub minus_free : Free (codes " - ") (dash None ∷ [])
unfolding first_token
minus_free at rest =
    ap (λ n. dash None ∷ plain (tokens_from 0 n rest))
    (let h : at + 1 + 1 + 1 ≡ at + 3 = omega arith in h)

pub times_free : Free (codes " * ") (mark 42 ∷ [])
unfolding first_token
times_free at rest =
    ap (λ n. mark 42 ∷ plain (tokens_from 0 n rest))
    (let h : at + 1 + 1 + 1 ≡ at + 3 = omega arith in h)

pub over_free : Free (codes " / ") (mark 47 ∷ [])
unfolding first_token
over_free at rest =
    ap (λ n. mark 47 ∷ plain (tokens_from 0 n rest))
    (let h : at + 1 + 1 + 1 ≡ at + 3 = omega arith in h)

pub less_free : Free (codes " < ") (mark 60 ∷ [])
unfolding first_token
less_free at rest =
    ap (λ n. mark 60 ∷ plain (tokens_from 0 n rest))
    (let h : at + 1 + 1 + 1 ≡ at + 3 = omega arith in h)

pub at_most_free : Free (codes " <= ") (at_most ∷ [])
unfolding first_token
at_most_free at rest =
    ap (λ n. at_most ∷ plain (tokens_from 0 n rest))
    (let h : at + 1 + 1 + 1 + 1 ≡ at + 4 = omega arith in h)

pub equal_free : Free (codes " = ") (mark 61 ∷ [])
unfolding first_token
equal_free at rest =
    ap (λ n. mark 61 ∷ plain (tokens_from 0 n rest))
    (let h : at + 1 + 1 + 1 ≡ at + 3 = omega arith in h)

pub comma_free : Free (codes ", ") (mark 44 ∷ [])
unfolding first_token
comma_free at rest =
    ap (λ n. mark 44 ∷ plain (tokens_from 0 n rest))
    (let h : at + 1 + 1 ≡ at + 2 = omega arith in h)

pub open_free : Free (codes "(") (mark 40 ∷ [])
unfolding first_token
open_free at rest =
    ap (λ n. mark 40 ∷ plain (tokens_from 0 n rest)) (let h : at + 1 ≡ at + 1 = omega arith in h)

pub close_free : Free (codes ")") (mark 41 ∷ [])
unfolding first_token
close_free at rest =
    ap (λ n. mark 41 ∷ plain (tokens_from 0 n rest)) (let h : at + 1 ≡ at + 1 = omega arith in h)

pub bracket_free : Free (codes "]") (mark 93 ∷ [])
unfolding first_token
bracket_free at rest =
    ap (λ n. mark 93 ∷ plain (tokens_from 0 n rest)) (let h : at + 1 ≡ at + 1 = omega arith in h)

pub min_free : Free (codes "min(") (word (codes "min") ∷ mark 40 ∷ [])
unfolding first_token
min_free at rest =
    ap (λ n. word (codes "min") ∷ mark 40 ∷ plain (tokens_from 0 n rest))
    (let h : at + 1 + 1 + 1 + 1 ≡ at + 4 = omega arith in h)

pub max_free : Free (codes "max(") (word (codes "max") ∷ mark 40 ∷ [])
unfolding first_token
max_free at rest =
    ap (λ n. word (codes "max") ∷ mark 40 ∷ plain (tokens_from 0 n rest))
    (let h : at + 1 + 1 + 1 + 1 ≡ at + 4 = omega arith in h)

pub clamp_free : Free (codes "clamp(") (word (codes "clamp") ∷ mark 40 ∷ [])
unfolding first_token
clamp_free at rest =
    ap (λ n. word (codes "clamp") ∷ mark 40 ∷ plain (tokens_from 0 n rest))
    (let h : at + 1 + 1 + 1 + 1 + 1 + 1 ≡ at + 6 = omega arith in h)

pub if_free : Free (codes "if(") (word (codes "if") ∷ mark 40 ∷ [])
unfolding first_token
if_free at rest =
    ap (λ n. word (codes "if") ∷ mark 40 ∷ plain (tokens_from 0 n rest))
    (let h : at + 1 + 1 + 1 ≡ at + 3 = omega arith in h)

pub val_free : Free (codes "val[") (word (codes "val") ∷ mark 91 ∷ [])
unfolding first_token
val_free at rest =
    ap (λ n. word (codes "val") ∷ mark 91 ∷ plain (tokens_from 0 n rest))
    (let h : at + 1 + 1 + 1 + 1 ≡ at + 4 = omega arith in h)

pub agg_free : Free (codes "agg[") (word (codes "agg") ∷ mark 91 ∷ [])
unfolding first_token
agg_free at rest =
    ap (λ n. word (codes "agg") ∷ mark 91 ∷ plain (tokens_from 0 n rest))
    (let h : at + 1 + 1 + 1 + 1 ≡ at + 4 = omega arith in h)

pub old_free : Free (codes "old[") (word (codes "old") ∷ mark 91 ∷ [])
unfolding first_token
old_free at rest =
    ap (λ n. word (codes "old") ∷ mark 91 ∷ plain (tokens_from 0 n rest))
    (let h : at + 1 + 1 + 1 + 1 ≡ at + 4 = omega arith in h)

-- each byte passes
abbrev pub Passes : (ℕ → Bool) → List ℕ → Type 0
Passes p [] = Unit {0}
Passes p (b ∷ bs) = (p b ≡ true) × Passes p bs

pub pass_all : (p : ℕ → Bool) (xs rest : List ℕ) → Passes p xs → prefix_len p rest ≡ 0
    → prefix_len p (xs ++ rest) ≡ length xs
pass_all p [] rest all none = none
pass_all p (x ∷ xs) rest all none =
    ap (λ b. cond b (1 + prefix_len p (xs ++ rest)) 0) all.0
    ∙ ap (λ n. 1 + n) (pass_all p xs rest all.1 none)
    ∙ (let h : 1 + length xs ≡ length (x ∷ xs) = omega arith in h)

name_stops : (rest : List ℕ) → IsBreak rest → prefix_len is_name_byte rest ≡ 0
name_stops [] off = refl
name_stops (b ∷ bs) off = ap (λ d. cond d (1 + prefix_len is_name_byte bs) 0) off

no_digit : (b : ℕ) → is_name_byte b ≡ false → is_ascii_digit b ≡ false
no_digit b off = middle (is_ascii_lowercase b) (is_ascii_digit b) (b == 95) off
  where
    middle : (x y z : Bool) → (x || y || z) ≡ false → y ≡ false
    middle true true z e = e
    middle true false z e = refl
    middle false true z e = e
    middle false false z e = refl

pub digit_stops : (rest : List ℕ) → IsBreak rest → prefix_len is_ascii_digit rest ≡ 0
digit_stops [] off = refl
digit_stops (b ∷ bs) off = ap (λ d. cond d (1 + prefix_len is_ascii_digit bs) 0) (no_digit b off)

digit_no_blank : (b : ℕ) → is_ascii_digit b ≡ true → is_blank b ≡ false
digit_no_blank b on = grind (arith, nat_tests)

letter_no_blank : (b : ℕ) → is_ascii_lowercase b ≡ true → is_blank b ≡ false
letter_no_blank b on = grind (arith, nat_tests)

letter_no_digit : (b : ℕ) → is_ascii_lowercase b ≡ true → is_ascii_digit b ≡ false
letter_no_digit b on = grind (arith, nat_tests)

pub front_is : (p : ℕ → Bool) (xs rest : List ℕ) → Passes p xs → prefix_len p rest ≡ 0
    → take_while p (xs ++ rest) ≡ xs
front_is p xs rest all none =
    ap (λ n. take n (xs ++ rest)) (pass_all p xs rest all none) ∙ take_at xs rest (length xs) refl

pair_is : (a b : Token) (m n : ℕ) → a ≡ b → m ≡ n
    → let x : Token × ℕ = (a, m) in let y : Token × ℕ = (b, n) in x ≡ y
pair_is a b m n e f = λ i. (e i, f i)

-- a token that is all of a text
token_of_text : (b : ℕ) (bs : List ℕ) (k : Token) (at : ℕ) (rest : List ℕ) → is_blank b ≡ false
    → first_token b (bs ++ rest) ≡ (k, length (b ∷ bs))
    → plain (tokens_from 0 at ((b ∷ bs) ++ rest))
    ≡ k ∷ plain (tokens_from 0 (at + length (b ∷ bs)) rest)
token_of_text b bs k at rest off e =
    ap plain (token_at b (bs ++ rest) at (length (b ∷ bs)) k off e (omega arith))
    ∙ ap (λ (l : List ℕ). k ∷ plain (tokens_from 0 (at + length (b ∷ bs)) l))
    (drop_at (b ∷ bs) rest (length (b ∷ bs)) refl)

pub number_lexes : (ds : List ℕ) (n : ℕ) → Passes is_ascii_digit ds → 0 < length ds
    → capped_value ds ≡ n → Lexes ds (number n ∷ [])
unfolding first_token
number_lexes [] n all some value at rest off = absurd (omega arith)
number_lexes (b ∷ bs) n all some value at rest off =
    let none : prefix_len is_ascii_digit rest ≡ 0 = digit_stops rest off in
    let other : Token × ℕ =
    cond (is_ascii_lowercase b) (
      word (take_while is_name_byte (b ∷ (bs ++ rest))),
      prefix_len
          is_name_byte (b ∷ (bs ++ rest)),
    )
    (cond (b == 45) (dash (number_behind (bs ++ rest)), 1)
    (cond ((b == 60) && Rattle.text_words.specs.Tokens.begins_equal (bs ++ rest)) (at_most, 2)
    (mark b, 1))) in
    token_of_text b bs (number n) at rest (digit_no_blank b all.0)
    (ap (λ (d : Bool). cond d (
      number (front_number (b ∷ (bs ++ rest))),
      prefix_len is_ascii_digit
          (b ∷ (bs ++ rest)),
    ) other) all.0
    ∙ pair_is _ _ _ _ (ap (λ (l : List ℕ). number (capped_value l))
    (front_is is_ascii_digit (b ∷ bs) rest all none) ∙ ap number value)
    (pass_all is_ascii_digit (b ∷ bs) rest all none))

pub word_lexes : (b : ℕ) (bs : List ℕ) → is_ascii_lowercase b ≡ true → Passes is_name_byte (b ∷ bs)
    → Lexes (b ∷ bs) (word (b ∷ bs) ∷ [])
unfolding first_token
word_lexes b bs first all at rest off =
    let none : prefix_len is_name_byte rest ≡ 0 = name_stops rest off in
    let other : Token × ℕ =
    cond (b == 45) (dash (number_behind (bs ++ rest)), 1)
    (cond ((b == 60) && Rattle.text_words.specs.Tokens.begins_equal (bs ++ rest)) (at_most, 2)
    (mark b, 1)) in
    let named : Token × ℕ =
    (word (take_while is_name_byte (b ∷ (bs ++ rest))), prefix_len is_name_byte (b ∷ (bs ++ rest)))
    in
    token_of_text b bs (word (b ∷ bs)) at rest (letter_no_blank b first)
    (ap (λ (d : Bool). cond d (
      number (front_number (b ∷ (bs ++ rest))),
      prefix_len is_ascii_digit
          (b ∷ (bs ++ rest)),
    ) (cond (is_ascii_lowercase b) named other)) (letter_no_digit b first)
    ∙ ap (λ (d : Bool). cond d named other) first
    ∙ pair_is _ _ _ _ (ap word (front_is is_name_byte (b ∷ bs) rest all none))
    (pass_all is_name_byte (b ∷ bs) rest all none))

-- what digits say
pub record IsNumber (n : ℕ) (ds : List ℕ) : Type 0 where
  pub all : Passes is_ascii_digit ds
  pub some : 0 < length ds
  pub value : capped_value ds ≡ n

pub passes-append : (p : ℕ → Bool) (xs ys : List ℕ) → Passes p xs → Passes p ys
    → Passes p (xs ++ ys)
passes-append p [] ys a b = b
passes-append p (x ∷ xs) ys a b = (a.0, passes-append p xs ys a.1 b)

a_digit : (d : ℕ) → d < 10 → is_ascii_digit (48 + d) ≡ true
a_digit d small = grind (arith, nat_tests)

pub decimal_is : (n : ℕ) → n < 2 ^ 64 → IsNumber n (decimal n)
decimal_is n small = decimal_by_steps (λ m ds. m < 2 ^ 64 → IsNumber m ds)
    (λ m few fits. record { all = (a_digit m few, tt); some = omega arith; value = omega arith })
    (λ m ds many before fits. let h : IsNumber (m / 10) ds = before (omega arith) in record {
      all = passes-append is_ascii_digit ds _ h.all (a_digit (m % 10) (omega arith), tt);
      some = omega (arith, length-append ds ((48 + m % 10) ∷ []));
      value = one_more m ds fits h.value;
    })
    n small small
  where
    one_more : (m : ℕ) (ds : List ℕ) → m < 2 ^ 64 → capped_value ds ≡ m / 10
        → capped_value (ds ++ (48 + m % 10) ∷ []) ≡ m
    one_more m ds fits is =
        let longer = decimal_value-append ds (48 + m % 10) in
        let before : decimal_value ds ≡ m / 10 = omega arith in
        omega arith
