-- The words that blanks split, from the front of a text.
use Rattle.std.proofs.Common.{◌≡◌, ℕ, zero, suc, ◌+◌, ◌<◌, ◌≤◌, Bool, true, false, cond, List, []}
use Rattle.std.proofs.Common.{◌∷◌, ◌++◌, length, get_or, take, drop, All, refl, sym, ◌∙◌, ap, subst}
use Rattle.std.proofs.Common.{arith, take-append-drop}
use Rattle.std.specs.Prelude.{◌==◌, not}
use Rattle.std.specs.List.{filter, prefix_len, slice_split, onto_first}
use Rattle.std.proofs.lemmas.List.{drop_more, append-nil, drop_all}
use Rattle.std.proofs.lemmas.List.Folds.{length-prefix_len}
use Rattle.std.proofs.lemmas.List.Sums.{prefix_len_stops, prefix_len-le-length}
use Rattle.std.proofs.lemmas.Bool.Decides.{nat_tests}
use Rattle.lexical.specs.Bytes.{is_blank, is_no_blank}
use Rattle.lexical.specs.Words.{is_some_word, split_words}
use Rattle.lexical.proofs.Splitting.{onto_parts, slice_split-append, none_before, passes_next}

-- a blank in front is no part of a word
pub split_words-blank : (b : ℕ) (bs : List ℕ) → is_blank b ≡ true
    → split_words (b ∷ bs) ≡ split_words bs
split_words-blank b bs is =
    ap (λ (t : Bool). filter is_some_word
    (cond t ([] ∷ slice_split is_blank bs) (onto_first b (slice_split is_blank bs)))) is

-- nor are those before the first byte of a word
pub split_words-blanks : (text : List ℕ) (n : ℕ) → n ≡ prefix_len is_blank text
    → split_words text ≡ split_words (drop n text)
split_words-blanks [] zero e = refl
split_words-blanks [] (suc n) e = refl
split_words-blanks (b ∷ bs) n e = pick (split_words-blanks bs) (is_blank b) refl n e
  where
    pick : ((m : ℕ) → m ≡ prefix_len is_blank bs → split_words bs ≡ split_words (drop m bs))
        → (t : Bool) → is_blank b ≡ t → (n : ℕ) → n ≡ cond t (1 + prefix_len is_blank bs) 0
        → split_words (b ∷ bs) ≡ split_words (drop n (b ∷ bs))
    pick rest true is zero e = absurd (omega arith)
    pick rest true is (suc m) e = split_words-blank b bs is ∙ rest m (omega arith)
    pick rest false is zero e = refl
    pick rest false is (suc m) e = absurd (omega arith)

-- the rest behind a word is empty, or begins with a blank
data EndsWord : List ℕ → Type 0 where
  at_end : EndsWord []
  at_blank : (b : ℕ) (bs : List ℕ) → is_blank b ≡ true → EndsWord (b ∷ bs)

filter-some_word : (word : List ℕ) → 0 < length word → (parts : List (List ℕ))
    → filter is_some_word (word ∷ parts) ≡ word ∷ filter is_some_word parts
filter-some_word word some parts =
    let test : (length word == 0) ≡ false = grind (arith, nat_tests) in
    ap (λ (t : Bool). cond (not t) (word ∷ filter is_some_word parts) (filter is_some_word parts))
    test

-- the word in front of such a rest
split_words-append : (word rest : List ℕ) → All (λ b. is_blank b ≡ false) word → 0 < length word
    → EndsWord rest → split_words (word ++ rest) ≡ word ∷ split_words rest
split_words-append word _ none some at_end =
    ap (filter is_some_word) (slice_split-append is_blank word [] none)
    ∙ ap (λ (w : List ℕ). filter is_some_word (w ∷ [])) (append-nil word)
    ∙ filter-some_word word some []
split_words-append word _ none some (at_blank b bs is) =
    ap (filter is_some_word) (slice_split-append is_blank word (b ∷ bs) none)
    ∙ ap (λ (t : Bool). filter is_some_word
    (onto_parts word (cond t ([] ∷ slice_split is_blank bs)
    (onto_first b (slice_split is_blank bs))))) is
    ∙ ap (λ (w : List ℕ). filter is_some_word (w ∷ slice_split is_blank bs)) (append-nil word)
    ∙ filter-some_word word some (slice_split is_blank bs)
    ∙ ap (λ (l : List (List ℕ)). word ∷ l) (sym (split_words-blank b bs is))

drop-ends_word : (text : List ℕ) (n : ℕ) → n ≤ length text
    → (n < length text → is_blank (get_or text n 0) ≡ true) → EndsWord (drop n text)
drop-ends_word text n within next = pick (Rattle.std.specs.Prelude.nat_lt n (length text)) refl
  where
    pick : (t : Bool) → Rattle.std.specs.Prelude.nat_lt n (length text) ≡ t → EndsWord (drop n text)
    pick true is =
        let l : n < length text = grind (arith, nat_tests) in
        subst EndsWord (sym (drop_more text n 0 l))
        (at_blank (get_or text n 0) (drop (n + 1) text) (next l))
    pick false is =
        let l : length text ≤ n = grind (arith, nat_tests) in
        subst EndsWord (sym (drop_all n text l)) at_end

pub word_has_bytes : (text : List ℕ) → 0 < length text → is_blank (get_or text 0 0) ≡ false
    → 0 < prefix_len is_no_blank text
word_has_bytes [] l off = absurd (omega arith)
word_has_bytes (b ∷ bs) l off =
    let e : prefix_len is_no_blank (b ∷ bs) ≡ 1 + prefix_len is_no_blank bs =
    ap (λ (t : Bool). cond (not t) (1 + prefix_len is_no_blank bs) 0) off in
    omega arith

-- the first word of a text that begins with one
pub split_words-word : (text : List ℕ) → 0 < length text → is_blank (get_or text 0 0) ≡ false
    → split_words text ≡ take (prefix_len is_no_blank text) text
    ∷ split_words (drop (prefix_len is_no_blank text) text)
split_words-word text l off =
    let n = prefix_len is_no_blank text in
    let size : length (take n text) ≡ n = length-prefix_len is_no_blank text in
    let some : 0 < n = word_has_bytes text l off in
    ap split_words (sym (take-append-drop n text))
    ∙ split_words-append (take n text) (drop n text) (none_before is_blank text) (omega arith)
    (drop-ends_word text n (prefix_len-le-length is_no_blank text) (passes_next is_blank text))

-- what stands behind the blanks in front begins with a word
pub rest_starts_word : (text : List ℕ) → prefix_len is_blank text < length text
    → is_blank (get_or (drop (prefix_len is_blank text) text) 0 0) ≡ false
rest_starts_word text l =
    let n = prefix_len is_blank text in
    ap (λ (xs : List ℕ). is_blank (get_or xs 0 0)) (drop_more text n 0 l)
    ∙ prefix_len_stops is_blank text 0 l
