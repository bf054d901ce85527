-- The fields of printed lines are read again.
use Rattle.std.proofs.Common.{◌≡◌, w64, ℕ, suc, ◌+◌, ◌^◌, ◌<◌, ◌≤◌, ◌≤ℤ◌, Bool, true, false, cond}
use Rattle.std.proofs.Common.{List, [], ◌∷◌, ◌++◌, length, drop, Option, Some, None, Result, Ok}
use Rattle.std.proofs.Common.{Err, refl, sym, ◌∙◌, ap, arith}
use Rattle.std.specs.Prelude.{◌==◌, ◌&&◌, not, nat_lt, nat_le, int_le, slice_index, decimal, ℤ, pos}
use Rattle.std.specs.Prelude.{negsuc, neg_ℤ, FitsSigned}
use Rattle.std.specs.Fmt.{signed_decimal}
use Rattle.std.specs.Option.{option_map}
use Rattle.std.specs.List.{prefix_len, list_all}
use Rattle.std.specs.Char.{is_ascii_digit, is_ascii_lowercase}
use Rattle.std.proofs.lemmas.Bool.Decides.{nat_tests}
use Rattle.std.proofs.lemmas.Int.{ints}
use Rattle.std.proofs.lemmas.List.{take_at, drop_at, drop-drop}
use Rattle.vertex_expr.specs.Names.{is_name, is_name_byte}
use Rattle.lexical.specs.Bytes.{is_blank}
use Rattle.lexical.specs.Numbers.{capped_value}
use Rattle.lexical.specs.Words.{Word, words_from}
use Rattle.lexical.specs.Bytes.{is_no_blank}
use Rattle.text_words.specs.Fields.{is_ascii, ascii_word, first_word, none_more, word_at, ended_at}
use Rattle.text_words.specs.Fields.{unsigned_of, whole_of, number_at, signed_at, name_at, in_bounds}
use Rattle.text_words.specs.Fields.{in_range, ◌>>=◌}
use Rattle.text_words.specs.declared.error.LangError.{LangError}
use Rattle.text_words.specs.declared.error.LangError.TheVariants.{Syntax, TooBig}
use Rattle.lexical.proofs.PlaceLemmas.{words_from-cons}
use Rattle.text_words.proofs.Lexing.{Passes, pass_all, IsNumber, decimal_is}

-- a word of a printed line
pub record IsField (w : List ℕ) : Type 0 where
  pub some : 0 < length w
  pub whole : Passes is_no_blank w
  pub ascii : list_all is_ascii w ≡ true

-- what follows a word
abbrev pub IsEnd : List ℕ → Type 0
IsEnd [] = Unit {0}
IsEnd (b ∷ bs) = is_blank b ≡ true

end_stops : (rest : List ℕ) → IsEnd rest → prefix_len is_no_blank rest ≡ 0
end_stops [] e = refl
end_stops (b ∷ bs) e = ap (λ d. cond (not d) (1 + prefix_len is_no_blank bs) 0) e

no_blank_is : (b : ℕ) → is_no_blank b ≡ true → is_blank b ≡ false
no_blank_is b e = flip (is_blank b) e
  where
    flip : (d : Bool) → not d ≡ true → d ≡ false
    flip true e = sym e
    flip false e = refl

-- the word in front
front_word : (w rest : List ℕ) (at : ℕ) → IsField w → IsEnd rest
    → words_from 0 at (w ++ rest) ≡ record { at = at; bytes = w }
    ∷ words_from 0 (at + length w) rest
front_word [] rest at f e = absurd (let h = f.some in omega arith)
front_word (b ∷ bs) rest at f e =
    let n = length (b ∷ bs) in
    words_from-cons b (bs ++ rest) at n (no_blank_is b f.whole.0)
    (pass_all is_no_blank (b ∷ bs) rest f.whole (end_stops rest e)) f.some
    ∙ ap (λ (l : List ℕ). let w : Word = record { at = at; bytes = l } in w
    ∷ words_from 0 (at + n) (drop n (b ∷ (bs ++ rest)))) (take_at (b ∷ bs) rest n refl)
    ∙ ap (λ (l : List ℕ). let w : Word = record { at = at; bytes = b ∷ bs } in w
    ∷ words_from 0 (at + n) l) (drop_at (b ∷ bs) rest n refl)

pub words_in_front : (w rest : List ℕ) (at : ℕ) → IsField w → IsEnd rest
    → words_from 0 at (w ++ rest) ≡ record { at = at; bytes = w }
    ∷ words_from 0 (at + length w) rest
words_in_front = front_word

pub ascii_field : (w : List ℕ) (at : ℕ) → IsField w
    → let v : Word = record { at = at; bytes = w } in ascii_word v ≡ Ok v
ascii_field w at f =
    ap (λ b. cond b (Ok (record { at = at; bytes = w }))
    (Err (Syntax (at + prefix_len is_ascii w)))) f.ascii

-- the next word, where one space and that word stand behind a place
pub next_word : (line w rest : List ℕ) (p : ℕ) → drop p line ≡ 32 ∷ (w ++ rest) → IsField w
    → IsEnd rest → word_at line p ≡ Ok (record { at = p + 1; bytes = w })
unfolding word_at
next_word line w rest p cut f e =
    ap (λ (l : List ℕ). first_word (length line) (words_from 0 p l)) cut
    ∙ ap (first_word (length line)) (front_word w rest (p + 1) f e)
    ∙ ascii_field w (p + 1) f

-- what stands behind that word
pub behind_word : (line w rest : List ℕ) (p : ℕ) → drop p line ≡ 32 ∷ (w ++ rest)
    → drop (p + 1 + length w) line ≡ rest
behind_word line w rest p cut =
    ap (λ k. drop k line) (let h : p + 1 + length w ≡ p + length (32 ∷ w) = omega arith in h)
    ∙ sym (drop-drop (length (32 ∷ w)) p line)
    ∙ ap (drop (length (32 ∷ w))) cut ∙ drop_at (32 ∷ w) rest (length (32 ∷ w)) refl

-- nothing more stands in a line
pub at_end : (line : List ℕ) (p : ℕ) → drop p line ≡ [] → ended_at line p ≡ Ok tt
unfolding ended_at
at_end line p cut = ap (λ (l : List ℕ). none_more (words_from 0 p l)) cut

digit_ascii : (ds : List ℕ) → Passes is_ascii_digit ds → list_all is_ascii ds ≡ true
digit_ascii [] p = refl
digit_ascii (d ∷ ds) p = both (is_ascii d) (list_all is_ascii ds) (one d p.0) (digit_ascii ds p.1)
  where
    one : (d : ℕ) → is_ascii_digit d ≡ true → is_ascii d ≡ true
    one d e = grind (arith, nat_tests)

    both : (x y : Bool) → x ≡ true → y ≡ true → (x && y) ≡ true
    both x y e f = ap (λ a. a && y) e ∙ f

digit_no_blank : (ds : List ℕ) → Passes is_ascii_digit ds → Passes is_no_blank ds
digit_no_blank [] p = tt
digit_no_blank (d ∷ ds) p = (one d p.0, digit_no_blank ds p.1)
  where
    one : (d : ℕ) → is_ascii_digit d ≡ true → is_no_blank d ≡ true
    one d e = grind (arith, nat_tests)

digits_all : (ds : List ℕ) → Passes is_ascii_digit ds → list_all is_ascii_digit ds ≡ true
digits_all [] p = refl
digits_all (d ∷ ds) p = ap (λ a. a && list_all is_ascii_digit ds) p.0 ∙ digits_all ds p.1

unsigned_is : (n : ℕ) (ds : List ℕ) → IsNumber n ds → unsigned_of ds ≡ Some n
unfolding unsigned_of
unsigned_is n ds h =
    ap (λ b. cond (not b && list_all is_ascii_digit ds) (Some (capped_value ds)) None)
    (positive (length ds) h.some)
    ∙ ap (λ b. cond b (Some (capped_value ds)) None) (digits_all ds h.all) ∙ ap Some h.value
  where
    positive : (k : ℕ) → 0 < k → (k == 0) ≡ false
    positive k some = grind (arith, nat_tests)

pub number_field : (n : ℕ) (ds : List ℕ) → IsNumber n ds → IsField ds
number_field n ds d =
    record { some = d.some; whole = digit_no_blank ds d.all; ascii = digit_ascii ds d.all }

-- a printed number is read again
pub next_number : (line rest : List ℕ) (p n low high : ℕ) → drop p line ≡ 32 ∷ (decimal n ++ rest)
    → n < 2 ^ 64 → low ≤ n → n ≤ high → IsEnd rest
    → number_at line p low high ≡ Ok (n, p + 1 + length (decimal n))
unfolding number_at
next_number line rest p n low high cut small least most e =
    let d = decimal_is n small in
    let ds = decimal n in
    ap (λ (o : Result Word LangError). o >>= λ w. in_bounds low high w (unsigned_of w.bytes))
    (next_word line ds rest p cut (number_field n ds d) e)
    ∙ ap (in_bounds low high (record { at = p + 1; bytes = ds })) (unsigned_is n ds d)
    ∙ ap (λ b. cond b (Ok (n, p + 1 + length ds)) (Err (TooBig (p + 1))))
    (within n low high least most)
  where
    within : (n low high : ℕ) → low ≤ n → n ≤ high → (nat_le low n && nat_le n high) ≡ true
    within n low high least most = grind (arith, nat_tests)

pub unsigned_decimal : (n : ℕ) → n < 2 ^ 64 → unsigned_of (decimal n) ≡ Some n
unsigned_decimal n small = unsigned_is n (decimal n) (decimal_is n small)

pub decimal_field : (n : ℕ) → n < 2 ^ 64 → IsField (decimal n)
decimal_field n small = number_field n (decimal n) (decimal_is n small)

-- digits don't begin with a minus sign
no_minus : (ds : List ℕ) → Passes is_ascii_digit ds → 0 < length ds
    → (slice_index ds 0 == 45) ≡ false
no_minus [] all some = absurd (omega arith)
no_minus (d ∷ ds) all some = one d all.0
  where
    one : (d : ℕ) → is_ascii_digit d ≡ true → (d == 45) ≡ false
    one d e = grind (arith, nat_tests)

pub whole_decimal : (z : ℤ) → FitsSigned w64 z → whole_of (signed_decimal z) ≡ Some z
unfolding whole_of
whole_decimal (pos n) fits =
    let d = decimal_is n (omega arith) in
    ap (λ b. cond b (option_map (λ m. neg_ℤ (pos m)) (unsigned_of (drop 1 (decimal n))))
    (option_map (λ m. pos m) (unsigned_of (decimal n)))) (no_minus (decimal n) d.all d.some)
    ∙ ap (λ (o : Option ℕ). option_map (λ m. pos m) o) (unsigned_is n (decimal n) d)
whole_decimal (negsuc n) fits =
    let d = decimal_is (suc n) (omega arith) in
    ap (λ (o : Option ℕ). option_map (λ m. neg_ℤ (pos m)) o)
    (unsigned_is (suc n) (decimal (suc n)) d)

pub signed_field : (z : ℤ) → FitsSigned w64 z → IsField (signed_decimal z)
signed_field (pos n) fits = decimal_field n (omega arith)
signed_field (negsuc n) fits =
    let f = decimal_field (suc n) (omega arith) in
    record { some = omega arith; whole = (refl, f.whole); ascii = f.ascii }

-- a printed whole number is read again
pub next_signed : (line rest : List ℕ) (p : ℕ) (z low high : ℤ)
    → drop p line ≡ 32 ∷ (signed_decimal z ++ rest) → FitsSigned w64 z → low ≤ℤ z → z ≤ℤ high
    → IsEnd rest
    → signed_at line p low high ≡ Ok (z, p + 1 + length (signed_decimal z))
unfolding signed_at
next_signed line rest p z low high cut fits least most e =
    let ds = signed_decimal z in
    ap (λ (o : Result Word LangError). o >>= λ w. in_range low high w (whole_of w.bytes))
    (next_word line ds rest p cut (signed_field z fits) e)
    ∙ ap (in_range low high (record { at = p + 1; bytes = ds })) (whole_decimal z fits)
    ∙ ap (λ b. cond b (Ok (z, p + 1 + length ds)) (Err (TooBig (p + 1))))
    (within z low high least most)
  where
    within : (z low high : ℤ) → low ≤ℤ z → z ≤ℤ high → (int_le low z && int_le z high) ≡ true
    within z low high least most = grind (arith, ints)

-- a name is a word
pub list_passes : (p : ℕ → Bool) (w : List ℕ) → list_all p w ≡ true → Passes p w
list_passes p [] e = tt
list_passes p (b ∷ bs) e = let h = both (p b) (list_all p bs) e in (h.0, list_passes p bs h.1)
  where
    both : (x y : Bool) → (x && y) ≡ true → (x ≡ true) × (y ≡ true)
    both true true e = (refl, refl)
    both true false e = (refl, e)
    both false true e = (e, refl)
    both false false e = (e, e)

pub name_bytes : (w : List ℕ) → is_name w ≡ true → (0 < length w) × Passes is_name_byte w
unfolding is_name
name_bytes [] e = absurd (let no : ⊥ = cc in no)
name_bytes (b ∷ bs) e =
    pick (length (b ∷ bs) == 0) (nat_lt 32 (length (b ∷ bs))) (is_ascii_lowercase b) e
    (λ f. list_passes is_name_byte (b ∷ bs) f)
  where
    pick : (empty long first : Bool)
        → cond empty false (cond long false (cond first (list_all is_name_byte (b ∷ bs)) false))
        ≡ true → (list_all is_name_byte (b ∷ bs) ≡ true → Passes is_name_byte (b ∷ bs))
        → (0 < length (b ∷ bs)) × Passes is_name_byte (b ∷ bs)
    pick true long first e f = absurd (let no : ⊥ = cc in no)
    pick false true first e f = absurd (let no : ⊥ = cc in no)
    pick false false true e f = (omega arith, f e)
    pick false false false e f = absurd (let no : ⊥ = cc in no)

name_no_blank : (w : List ℕ) → Passes is_name_byte w → Passes is_no_blank w
name_no_blank [] p = tt
name_no_blank (b ∷ bs) p = (one b p.0, name_no_blank bs p.1)
  where
    one : (d : ℕ) → is_name_byte d ≡ true → is_no_blank d ≡ true
    one d e = grind (arith, nat_tests)

name_ascii : (w : List ℕ) → Passes is_name_byte w → list_all is_ascii w ≡ true
name_ascii [] p = refl
name_ascii (b ∷ bs) p = both (is_ascii b) (list_all is_ascii bs) (one b p.0) (name_ascii bs p.1)
  where
    one : (d : ℕ) → is_name_byte d ≡ true → is_ascii d ≡ true
    one d e = grind (arith, nat_tests)

    both : (x y : Bool) → x ≡ true → y ≡ true → (x && y) ≡ true
    both x y e f = ap (λ a. a && y) e ∙ f

pub name_field : (w : List ℕ) → is_name w ≡ true → IsField w
name_field w e =
    let h = name_bytes w e in
    record { some = h.0; whole = name_no_blank w h.1; ascii = name_ascii w h.1 }

-- a printed name is read again
pub next_name : (line w rest : List ℕ) (p : ℕ) → drop p line ≡ 32 ∷ (w ++ rest) → is_name w ≡ true
    → IsEnd rest → name_at line p ≡ Ok (record { at = p + 1; bytes = w })
unfolding name_at
next_name line w rest p cut is e =
    ap (λ (o : Result Word LangError). o >>= λ w. cond (is_name w.bytes) (Ok w) (Err (Syntax w.at)))
    (next_word line w rest p cut (name_field w is) e)
    ∙ ap (λ b. cond b (Ok (record { at = p + 1; bytes = w })) (Err (Syntax (p + 1)))) is
