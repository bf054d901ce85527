-- The tokens of a text: a minus sign carries the number directly behind it, and that is the next
-- token too.
use Rattle.std.proofs.Common.{◌≡◌, ℕ, ◌+◌, Bool, true, false, cond, List, [], ◌∷◌, map, Option}
use Rattle.std.proofs.Common.{Some, None, refl, sym, ◌∙◌, ap, subst, arith, suc, zero, eqb, ◌-◌}
use Rattle.std.proofs.lemmas.Bool.Decides.{nat_tests}
use Rattle.text_words.specs.Token.{Token, number, word, at_most, dash, mark}
use Rattle.lexical.specs.Bytes.{is_blank}
use Rattle.text_words.specs.Tokens.{front_number, number_behind, first_token, tokens_from}
use Rattle.text_words.specs.Tokens.{begins_equal}
use Rattle.vertex_expr.specs.Names.{is_name_byte}
use Rattle.std.specs.Char.{is_ascii_digit, is_ascii_lowercase}
use Rattle.std.specs.List.{prefix_len, take_while}
use Rattle.std.specs.Prelude.{◌&&◌, unwrap_or}

-- a minus sign carries the number directly behind it, and this is the next token too
abbrev pub Begins : ℕ → List Token → Type 0
Begins n [] = ⊥
Begins n (k ∷ ks) = k ≡ number n

abbrev pub AreTokens : List Token → Type 0
AreTokens [] = Unit {0}
AreTokens (dash (Some n) ∷ ks) = Begins n ks × AreTokens ks
AreTokens (k ∷ ks) = AreTokens ks

-- the tokens of a text are such a list
pub digit_is_no_blank : (b : ℕ) → is_ascii_digit b ≡ true → is_blank b ≡ false
digit_is_no_blank b e = grind (arith, nat_tests)

pub number_first : (b : ℕ) (bs : List ℕ) → is_ascii_digit b ≡ true
    → first_token b bs ≡ (number (front_number (b ∷ bs)), prefix_len is_ascii_digit (b ∷ bs))
unfolding first_token
number_first b bs e =
    ap (λ (d : Bool). cond d (number (front_number (b ∷ bs)), prefix_len is_ascii_digit (b ∷ bs))
    (cond (is_ascii_lowercase b) (
      word (take_while is_name_byte (b ∷ bs)),
      prefix_len is_name_byte
          (b ∷ bs),
    )
    (cond (eqb b 45) (dash (number_behind bs), 1)
    (cond (eqb b 60 && begins_equal bs) (at_most, 2) (mark b, 1))))) e

-- the number directly behind a minus sign is the next token
pub number_next : (at : ℕ) (bs : List ℕ) (n : ℕ) → number_behind bs ≡ Some n
    → Begins n (map (λ (p : Token × ℕ). p.0) (tokens_from 0 at bs))
unfolding first_token
number_next at [] n e = absurd (cc)
number_next at (c ∷ cs) n e = split (is_ascii_digit c) refl
  where
    some_is : (a b : ℕ) → Some a ≡ Some b → a ≡ b
    some_is a b h = ap (λ (o : Option ℕ). unwrap_or o a) h

    none : (d : Bool) → d ≡ false → cond (eqb (cond d (1 + prefix_len is_ascii_digit cs) 0) 0) None
        (Some (front_number (c ∷ cs))) ≡ None
    none true h = absurd (cc)
    none false h = refl

    some : (d : Bool) → d ≡ true → cond (eqb (cond d (1 + prefix_len is_ascii_digit cs) 0) 0) None
        (Some (front_number (c ∷ cs))) ≡ Some (front_number (c ∷ cs))
    some true h =
        ap (λ (b : Bool). cond b None (Some (front_number (c ∷ cs))))
        (positive (prefix_len is_ascii_digit cs))
      where
        positive : (k : ℕ) → eqb (1 + k) 0 ≡ false
        positive k = grind (arith, nat_tests)
    some false h = absurd (cc)

    split : (d : Bool) → is_ascii_digit c ≡ d
        → Begins n (map (λ (p : Token × ℕ). p.0) (tokens_from 0 at (c ∷ cs)))
    split true i =
        let blank : is_blank c ≡ false = digit_is_no_blank c i in
        let value : front_number (c ∷ cs) ≡ n =
        some_is (front_number (c ∷ cs)) n (sym (some (is_ascii_digit c) i) ∙ e) in
        let list : tokens_from 0 at (c ∷ cs)
        ≡ (number (front_number (c ∷ cs)), at)
        ∷ tokens_from (prefix_len is_ascii_digit (c ∷ cs) - 1) (at + 1) cs =
        ap (λ (b : Bool). cond b (tokens_from 0 (at + 1) cs)
        (((first_token c cs).0, at) ∷ tokens_from ((first_token c cs).1 - 1) (at + 1) cs)) blank
        ∙ ap (λ (p : Token × ℕ). (p.0, at) ∷ tokens_from (p.1 - 1) (at + 1) cs)
        (number_first c cs i) in
        subst (λ (l : List (Token × ℕ)). Begins n (map (λ (p : Token × ℕ). p.0) l)) (sym list)
        (ap number value)
    split false i = absurd (let no : None ≡ Some n = sym (none (is_ascii_digit c) i) ∙ e in cc)

-- a token and what stands behind it
pub tokens_with : (b : ℕ) (bs : List ℕ) (at : ℕ) (k : ℕ → List Token)
    → ((n : ℕ) → number_behind bs ≡ Some n → Begins n (k 0)) → ((m : ℕ) → AreTokens (k m))
    → AreTokens ((first_token b bs).0 ∷ k ((first_token b bs).1 - 1))
unfolding first_token
tokens_with b bs at k next rest =
    by_digit (is_ascii_digit b) (is_ascii_lowercase b) (eqb b 45) (eqb b 60 && begins_equal bs)
    (number_behind bs) refl
  where
    the_token : Bool → Bool → Bool → Bool → Option ℕ → Token × ℕ
    the_token d w m l o =
        cond d (number (front_number (b ∷ bs)), prefix_len is_ascii_digit (b ∷ bs))
        (cond w (word (take_while is_name_byte (b ∷ bs)), prefix_len is_name_byte (b ∷ bs))
        (cond m (dash o, 1) (cond l (at_most, 2) (mark b, 1))))

    by_digit : (d w m l : Bool) (o : Option ℕ) → number_behind bs ≡ o
        → AreTokens ((the_token d w m l o).0 ∷ k ((the_token d w m l o).1 - 1))
    by_digit true w m l o e = rest (prefix_len is_ascii_digit (b ∷ bs) - 1)
    by_digit false true m l o e = rest (prefix_len is_name_byte (b ∷ bs) - 1)
    by_digit false false true l None e = rest 0
    by_digit false false true l (Some n) e = (next n e, rest 0)
    by_digit false false false true o e = rest 1
    by_digit false false false false o e = rest 0

pub tokens_are : (took at : ℕ) (bs : List ℕ)
    → AreTokens (map (λ (p : Token × ℕ). p.0) (tokens_from took at bs))
tokens_are took at [] = tt
tokens_are (suc m) at (b ∷ bs) = tokens_are m (at + 1) bs
tokens_are zero at (b ∷ bs) =
    either (is_blank b) (tokens_are 0 (at + 1) bs)
    (tokens_with b bs at (λ m. map (λ (p : Token × ℕ). p.0) (tokens_from m (at + 1) bs))
    (λ n e. number_next (at + 1) bs n e) (λ m. tokens_are m (at + 1) bs))
  where
    either : (d : Bool) → AreTokens (map (λ (p : Token × ℕ). p.0) (tokens_from 0 (at + 1) bs))
        → AreTokens ((first_token b bs).0
        ∷ map (λ (p : Token × ℕ). p.0) (tokens_from ((first_token b bs).1 - 1) (at + 1) bs))
        → AreTokens (map (λ (p : Token × ℕ). p.0)
        (cond d (tokens_from 0 (at + 1) bs)
        (((first_token b bs).0, at) ∷ tokens_from ((first_token b bs).1 - 1) (at + 1) bs)))
    either true f g = f
    either false f g = g
