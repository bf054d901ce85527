-- Words and lines with their places.
use Rattle.std.proofs.Common.{◌≡◌, ℕ, zero, suc, ◌+◌, ◌-◌, ◌<◌, ◌≤◌, Bool, true, false, cond, List}
use Rattle.std.proofs.Common.{[], ◌∷◌, map, length, get_or, take, drop, refl, sym, ◌∙◌, ap, arith}
use Rattle.std.proofs.Common.{length-drop}
use Rattle.std.specs.List.{take_while, prefix_len}
use Rattle.std.proofs.lemmas.List.{drop_more, drop-drop, drop_all, length-take-le}
use Rattle.std.proofs.lemmas.List.Sums.{prefix_len-le-length}
use Rattle.lexical.specs.Bytes.{is_blank, is_no_blank, is_no_line_feed}
use Rattle.lexical.specs.Words.{Word, split_words, words_from}
use Rattle.lexical.specs.Lines.{line_length, lines_from}
use Rattle.lexical.specs.Laws.{WordsAreAlike}
use Rattle.lexical.proofs.WordLemmas.{split_words-blank, split_words-word, word_has_bytes}
use Rattle.lexical.proofs.WordLemmas.{rest_starts_word}

pub words_from-taken : (k at : ℕ) (bs : List ℕ)
    → words_from k at bs ≡ words_from 0 (at + k) (drop k bs)
words_from-taken zero at bs = ap (λ n. words_from 0 n bs) (omega arith)
words_from-taken (suc k) at [] = refl
words_from-taken (suc k) at (b ∷ bs) =
    words_from-taken k (at + 1) bs ∙ ap (λ n. words_from 0 n (drop k bs)) (omega arith)

pub lines_from-taken : (k at : ℕ) (bs : List ℕ)
    → lines_from k at bs ≡ lines_from 0 (at + k) (drop k bs)
lines_from-taken zero at bs = ap (λ n. lines_from 0 n bs) (omega arith)
lines_from-taken (suc k) at [] = refl
lines_from-taken (suc k) at (b ∷ bs) =
    lines_from-taken k (at + 1) bs ∙ ap (λ n. lines_from 0 n (drop k bs)) (omega arith)

-- the word at a place
pub words_from-cons : (b : ℕ) (bs : List ℕ) (at n : ℕ) → is_blank b ≡ false
    → prefix_len is_no_blank (b ∷ bs) ≡ n → 0 < n
    → words_from 0 at (b ∷ bs) ≡ record { at = at; bytes = take n (b ∷ bs) }
    ∷ words_from 0 (at + n) (drop n (b ∷ bs))
words_from-cons b bs at zero off e some = absurd (omega arith)
words_from-cons b bs at (suc m) off e some =
    ap (λ (d : Bool). cond d (words_from 0 (at + 1) bs)
    (record { at = at; bytes = take_while is_no_blank (b ∷ bs) }
    ∷ words_from (prefix_len is_no_blank (b ∷ bs) - 1) (at + 1) bs)) off
    ∙ ap (λ (n : ℕ). let w : Word = record { at = at; bytes = take n (b ∷ bs) } in w
    ∷ words_from (n - 1) (at + 1) bs) e
    ∙ ap (λ (k : ℕ). let w : Word = record { at = at; bytes = take (suc m) (b ∷ bs) } in w
    ∷ words_from k (at + 1) bs) (let h : suc m - 1 ≡ m = omega arith in h)
    ∙ ap (λ (l : List Word). let w : Word = record { at = at; bytes = take (suc m) (b ∷ bs) } in w
    ∷ l) (words_from-taken m (at + 1) bs ∙ ap (λ k. words_from 0 k (drop m bs)) (omega arith))

pub lines_from-cons : (b : ℕ) (bs : List ℕ) (at n : ℕ) → prefix_len is_no_line_feed (b ∷ bs) ≡ n
    → lines_from 0 at (b ∷ bs) ≡ (at, at + line_length (b ∷ bs))
    ∷ lines_from 0 (at + 1 + n) (drop (n + 1) (b ∷ bs))
lines_from-cons b bs at n e =
    ap (λ (k : ℕ). (at, at + line_length (b ∷ bs)) ∷ lines_from k (at + 1) bs) e
    ∙ ap (λ (l : List (ℕ × ℕ)). (at, at + line_length (b ∷ bs)) ∷ l)
    (lines_from-taken n (at + 1) bs ∙ ap (λ (l : List ℕ). lines_from 0 (at + 1 + n) l) (step n))
  where
    step : (n : ℕ) → drop n bs ≡ drop (n + 1) (b ∷ bs)
    step n = ap (λ k. drop k (b ∷ bs)) (let h : suc n ≡ n + 1 = omega arith in h)

pub words_from-drop : (line : List ℕ) (at n : ℕ) → at < length line
    → is_blank (get_or line at 0) ≡ false → prefix_len is_no_blank (drop at line) ≡ n → 0 < n
    → words_from 0 at (drop at line)
    ≡ record { at = at; bytes = take n (drop at line) }
    ∷ words_from 0 (at + n) (drop (at + n) line)
words_from-drop line at n l off e some =
    let cut : drop at line ≡ get_or line at 0 ∷ drop (at + 1) line = drop_more line at 0 l in
    ap (words_from 0 at) cut
    ∙ words_from-cons (get_or line at 0) (drop (at + 1) line) at n off
    (ap (prefix_len is_no_blank) (sym cut) ∙ e) some
    ∙ ap (λ (r : List ℕ). let w : Word = record { at = at; bytes = take n r } in w
    ∷ words_from 0 (at + n) (drop n r)) (sym cut)
    ∙ ap (λ (r : List ℕ). let w : Word = record { at = at; bytes = take n (drop at line) } in w
    ∷ words_from 0 (at + n) r) (drop-drop n at line)

-- a word begins where no blank stands
pub word_at_has_bytes : (line : List ℕ) (at : ℕ) → at < length line
    → is_blank (get_or line at 0) ≡ false → 0 < prefix_len is_no_blank (drop at line)
word_at_has_bytes line at l off =
    let e : prefix_len is_no_blank (drop at line)
    ≡ 1 + prefix_len is_no_blank (drop (at + 1) line) =
    ap (prefix_len is_no_blank) (drop_more line at 0 l)
    ∙ ap (λ (d : Bool). cond (Rattle.std.specs.Prelude.not d)
    (1 + prefix_len is_no_blank (drop (at + 1) line)) 0) off in
    omega arith

pub lines_from-drop : (text : List ℕ) (at n : ℕ) → at < length text
    → prefix_len is_no_line_feed (drop at text) ≡ n
    → lines_from 0 at (drop at text)
    ≡ (at, at + line_length (drop at text)) ∷ lines_from 0 (at + n + 1) (drop (at + n + 1) text)
lines_from-drop text at n l e =
    let cut : drop at text ≡ get_or text at 0 ∷ drop (at + 1) text = drop_more text at 0 l in
    ap (lines_from 0 at) cut
    ∙ lines_from-cons (get_or text at 0) (drop (at + 1) text) at n
    (ap (prefix_len is_no_line_feed) (sym cut) ∙ e)
    ∙ ap (λ (r : List ℕ). (at, at + line_length r) ∷ lines_from 0 (at + 1 + n) (drop (n + 1) r))
    (sym cut)
    ∙ ap (λ (r : List ℕ). (at, at + line_length (drop at text)) ∷ lines_from 0 (at + 1 + n) r)
    (drop-drop (n + 1) at text)
    ∙ ap (λ (k : ℕ). (at, at + line_length (drop at text))
    ∷ lines_from 0 k (drop (at + (n + 1)) text))
    (let h : at + 1 + n ≡ at + n + 1 = omega arith in h)
    ∙ ap (λ (k : ℕ). (at, at + line_length (drop at text))
    ∷ lines_from 0 (at + n + 1) (drop k text))
    (let h : at + (n + 1) ≡ at + n + 1 = omega arith in h)

pub lines_from-end : (text : List ℕ) (k : ℕ) → length text ≤ k → lines_from 0 k (drop k text) ≡ []
lines_from-end text k past = ap (lines_from 0 k) (drop_all k text past)

pub lines_from-rest : (text rest : List ℕ) (at n k : ℕ) → rest ≡ drop at text → at < length text
    → n ≡ prefix_len is_no_line_feed rest → k ≡ line_length rest
    → lines_from 0 at (drop at text)
    ≡ (at, at + k) ∷ lines_from 0 (at + n + 1) (drop (at + n + 1) text)
lines_from-rest text rest at n k cut l e f =
    lines_from-drop text at n l (ap (prefix_len is_no_line_feed) (sym cut) ∙ sym e)
    ∙ ap (λ (m : ℕ). (at, at + m) ∷ lines_from 0 (at + n + 1) (drop (at + n + 1) text))
    (ap line_length (sym cut) ∙ sym f)

pub lines_from-last : (text rest : List ℕ) (at n k : ℕ) → rest ≡ drop at text → at < length text
    → n ≡ prefix_len is_no_line_feed rest → k ≡ line_length rest → length text ≤ at + n + 1
    → lines_from 0 at (drop at text)
    ≡ (at, at + k) ∷ lines_from 0 (length text) (drop (length text) text)
lines_from-last text rest at n k cut l e f last =
    lines_from-rest text rest at n k cut l e f
    ∙ ap (λ (r : List (ℕ × ℕ)). (at, at + k) ∷ r)
    (lines_from-end text (at + n + 1) last
    ∙ sym (lines_from-end text (length text) (omega arith)))

pub words_from-rest : (line rest : List ℕ) (at n : ℕ) → rest ≡ drop at line → at < length line
    → is_blank (get_or line at 0) ≡ false → n ≡ prefix_len is_no_blank rest
    → words_from 0 at (drop at line)
    ≡ record { at = at; bytes = take n rest }
    ∷ words_from 0 (at + length (take n rest)) (drop (at + length (take n rest)) line)
words_from-rest line rest at n cut l off e =
    let f : prefix_len is_no_blank (drop at line) ≡ n =
    ap (prefix_len is_no_blank) (sym cut) ∙ sym e in
    let some : 0 < prefix_len is_no_blank (drop at line) = word_at_has_bytes line at l off in
    let long : length (take n rest) ≡ n =
    length-take-le n rest (omega (arith, prefix_len-le-length is_no_blank rest)) in
    words_from-drop line at n l off f (omega arith)
    ∙ ap (λ (r : List ℕ). let w : Word = record { at = at; bytes = take n r } in w
    ∷ words_from 0 (at + n) (drop (at + n) line)) (sym cut)
    ∙ ap (λ (k : ℕ). let w : Word = record { at = at; bytes = take n rest } in w
    ∷ words_from 0 (at + k) (drop (at + k) line)) (sym long)

-- the words with their places are the words that blanks split; the text has at most `size` bytes
words_alike_by : (size at : ℕ) (text : List ℕ) → length text ≤ size
    → map (λ w. w.bytes) (words_from 0 at text) ≡ split_words text
words_alike_by size at [] short = refl
words_alike_by zero at (b ∷ bs) short = absurd (omega arith)
words_alike_by (suc size) at (b ∷ bs) short = pick (words_alike_by size) (is_blank b) refl
  where
    pick : ((place : ℕ) (text : List ℕ) → length text ≤ size
        → map (λ w. w.bytes) (words_from 0 place text) ≡ split_words text)
        → (t : Bool) → is_blank b ≡ t
        → map (λ w. w.bytes) (words_from 0 at (b ∷ bs)) ≡ split_words (b ∷ bs)
    pick shorter true is =
        ap (λ (d : Bool). map (λ (w : Word). w.bytes)
        (cond d (words_from 0 (at + 1) bs)
        (record { at = at; bytes = take_while is_no_blank (b ∷ bs) }
        ∷ words_from (prefix_len is_no_blank (b ∷ bs) - 1) (at + 1) bs))) is
        ∙ shorter (at + 1) bs (omega arith)
        ∙ sym (split_words-blank b bs is)
    pick shorter false off =
        let n = prefix_len is_no_blank (b ∷ bs) in
        let some : 0 < n = word_has_bytes (b ∷ bs) (omega arith) off in
        let less : length (drop n (b ∷ bs)) ≤ size = omega (arith, length-drop n (b ∷ bs)) in
        ap (map (λ w. w.bytes)) (words_from-cons b bs at n off refl some)
        ∙ ap (λ (l : List (List ℕ)). take n (b ∷ bs) ∷ l) (shorter (at + n) (drop n (b ∷ bs)) less)
        ∙ sym (split_words-word (b ∷ bs) (omega arith) off)

pub words_alike : WordsAreAlike
words_alike = λ at text. words_alike_by (length text) at text (omega arith)

-- blanks in front are no part of a word
words_from-blanks : (at : ℕ) (text : List ℕ) (n : ℕ) → n ≡ prefix_len is_blank text
    → words_from 0 at text ≡ words_from 0 (at + n) (drop n text)
words_from-blanks at [] zero e = refl
words_from-blanks at [] (suc n) e = refl
words_from-blanks at (b ∷ bs) n e = pick (words_from-blanks (at + 1) bs) (is_blank b) refl n e
  where
    pick : ((m : ℕ) → m ≡ prefix_len is_blank bs
        → words_from 0 (at + 1) bs ≡ words_from 0 (at + 1 + m) (drop m bs))
        → (t : Bool) → is_blank b ≡ t → (n : ℕ) → n ≡ cond t (1 + prefix_len is_blank bs) 0
        → words_from 0 at (b ∷ bs) ≡ words_from 0 (at + n) (drop n (b ∷ bs))
    pick rest true is zero e = absurd (omega arith)
    pick rest true is (suc m) e =
        ap (λ (d : Bool). cond d (words_from 0 (at + 1) bs)
        (record { at = at; bytes = take_while is_no_blank (b ∷ bs) }
        ∷ words_from (prefix_len is_no_blank (b ∷ bs) - 1) (at + 1) bs)) is
        ∙ rest m (omega arith)
        ∙ ap (λ (k : ℕ). words_from 0 k (drop m bs))
        (let h : at + 1 + m ≡ at + suc m = omega arith in h)
    pick rest false is zero e =
        ap (λ (k : ℕ). words_from 0 k (b ∷ bs)) (let h : at ≡ at + 0 = omega arith in h)
    pick rest false is (suc m) e = absurd (omega arith)

-- a line that has only blanks from a place on has no further word
pub words_from-none : (line text : List ℕ) (from start : ℕ) → text ≡ drop from line
    → start ≡ prefix_len is_blank text → length text ≤ start
    → words_from 0 from (drop from line) ≡ []
words_from-none line text from start cut is all =
    ap (words_from 0 from) (sym cut) ∙ words_from-blanks from text start is
    ∙ ap (words_from 0 (from + start)) (drop_all start text all)

-- the first word behind blanks
pub words_from-found : (line text rest : List ℕ) (from start n : ℕ) → text ≡ drop from line
    → start ≡ prefix_len is_blank text → start < length text → rest ≡ drop (from + start) line
    → n ≡ prefix_len is_no_blank rest
    → words_from 0 from (drop from line)
    ≡ record { at = from + start; bytes = take n rest }
    ∷ words_from 0 (from + start + length (take n rest))
    (drop (from + start + length (take n rest)) line)
words_from-found line text rest from start n cut is some back e =
    let less : from + start < length line = omega (arith, ap length cut, length-drop from line) in
    let here : drop start text ≡ drop (from + start) line =
    ap (drop start) cut ∙ drop-drop start from line in
    let stops : is_blank (get_or (drop start text) 0 0) ≡ false =
    ap (λ (k : ℕ). is_blank (get_or (drop k text) 0 0)) is ∙ rest_starts_word text (omega arith) in
    let off : is_blank (get_or line (from + start) 0) ≡ false =
    ap (λ (l : List ℕ). is_blank (get_or l 0 0))
    (sym (drop_more line (from + start) 0 less) ∙ sym here) ∙ stops in
    ap (words_from 0 from) (sym cut)
    ∙ words_from-blanks from text start is
    ∙ ap (words_from 0 (from + start)) here
    ∙ words_from-rest line rest (from + start) n back less off e
