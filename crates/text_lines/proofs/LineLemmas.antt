-- The lines of a text, from its front.
use Rattle.std.proofs.Common.{◌≡◌, ℕ, zero, suc, ◌+◌, ◌-◌, ◌<◌, ◌≤◌, Bool, true, false, cond, List}
use Rattle.std.proofs.Common.{[], ◌∷◌, ◌++◌, map, length, take, drop, All, Option, Some}
use Rattle.std.proofs.Common.{None, refl, sym, ◌∙◌, ap, arith, length-append}
use Rattle.std.proofs.Common.{take-append-drop}
use Rattle.std.specs.Prelude.{◌==◌, nat_lt, slice_index}
use Rattle.std.specs.List.{slice_split}
use Rattle.std.proofs.lemmas.List.{drop_more, length-take-le, append-nil, take_all}
use Rattle.std.proofs.lemmas.List.Splits.{slice_split_at, slice_split_none}
use Rattle.std.proofs.lemmas.List.Elements.{All-head, All-tail, All-take}
use Rattle.std.proofs.lemmas.Bool.Decides.{nat_tests}
use Rattle.lexical.specs.Bytes.{is_line_feed, without_carriage_return}
use Rattle.lexical.specs.Lines.{lines_by, unended}
use Rattle.lexical.proofs.Splitting.{IsSomeParts, first_of_split, onto_parts, slice_split-append}
use Rattle.lexical.proofs.LineLemmas.{lines_by-ended}
use Rattle.text_lines.specs.Lines.{seen, seen_lines, seen_ended_lines, after_lines}
use Rattle.text_lines.specs.Feed.{EndsLine}

-- a line without its carriage return is as many of its first bytes
pub without_carriage_return-take : (line : List ℕ)
    → take (length (without_carriage_return line)) line ≡ without_carriage_return line
without_carriage_return-take line = pick (slice_index line (length line - 1) == 13)
  where
    pick : (b : Bool) → take (length (cond b (take (length line - 1) line) line)) line
        ≡ cond b (take (length line - 1) line) line
    pick true = ap (λ (k : ℕ). take k line) (length-take-le (length line - 1) line (omega arith))
    pick false = take_all (length line) line (omega arith)

-- what counts of the lines of a text, of which `last` makes the last one or none
abbrev seen_by : (List ℕ → List (List ℕ)) → List ℕ → List (Option (List ℕ))
seen_by last text = map seen (lines_by last (slice_split is_line_feed text))

seen_by-ended : (last : List ℕ → List (List ℕ)) (xs ys : List ℕ)
    → All (λ b. is_line_feed b ≡ false) xs
    → seen_by last (xs ++ 10 ∷ ys) ≡ seen (without_carriage_return xs) ∷ seen_by last ys
seen_by-ended last xs ys none =
    ap (λ (l : List (List ℕ)). map seen (lines_by last l))
    (slice_split_at is_line_feed xs 10 ys none refl)
    ∙ ap (map seen) (lines_by-ended last xs (slice_split is_line_feed ys)
    (first_of_split is_line_feed ys))

-- bytes are their first line, its LF and what stands behind them
split_first_line : (bytes rest : List ℕ) (len whole : ℕ) → EndsLine bytes len whole
    → bytes ++ rest ≡ take (whole - 1) bytes ++ 10 ∷ (drop whole bytes ++ rest)
split_first_line bytes rest len zero ends = absurd (let h = ends.some in omega arith)
split_first_line bytes rest len (suc n) ends =
    let m = suc n - 1 in
    let less : m < length bytes = (let h = ends.within in omega arith) in
    let next : m + 1 ≡ suc n = omega arith in
    let cut : bytes ≡ take m bytes ++ 10 ∷ drop (suc n) bytes =
    sym (take-append-drop m bytes)
    ∙ ap (λ (l : List ℕ). take m bytes ++ l) (drop_more bytes m 0 less)
    ∙ ap (λ (b : ℕ). take m bytes ++ b ∷ drop (m + 1) bytes) ends.here
    ∙ ap (λ (k : ℕ). take m bytes ++ 10 ∷ drop k bytes) next in
    ap (λ (l : List ℕ). l ++ rest) cut
    ∙ Rattle.std.proofs.Common.append_assoc (take m bytes) (10 ∷ drop (suc n) bytes) rest

-- the first line of the bytes and those behind it
front_by : (last : List ℕ → List (List ℕ)) (bytes rest : List ℕ) (len whole : ℕ)
    → EndsLine bytes len whole → seen_by last (bytes ++ rest)
    ≡ seen (take len bytes) ∷ seen_by last (drop whole bytes ++ rest)
front_by last bytes rest len whole ends =
    ap (seen_by last) (split_first_line bytes rest len whole ends)
    ∙ seen_by-ended last (take (whole - 1) bytes) (drop whole bytes ++ rest) ends.none_before
    ∙ ap (λ (l : List ℕ). seen l ∷ seen_by last (drop whole bytes ++ rest)) (sym ends.line)

-- bytes without an LF are no line, so that nothing changes behind the first line where they stand
-- in front
after_unended : (n : ℕ) (xs ys : List ℕ) → All (λ b. is_line_feed b ≡ false) xs
    → after_lines (suc n) (xs ++ ys) ≡ after_lines (suc n) ys
after_unended n [] ys none = refl
after_unended n (x ∷ xs) ys none =
    ap (λ (b : Bool). cond b (after_lines n (xs ++ ys)) (after_lines (suc n) (xs ++ ys)))
    (All-head (λ b. is_line_feed b ≡ false) x xs none)
    ∙ after_unended n xs ys (All-tail (λ b. is_line_feed b ≡ false) x xs none)

-- what stands behind the first line and n more
pub after_front : (n : ℕ) (bytes rest : List ℕ) (len whole : ℕ) → EndsLine bytes len whole
    → after_lines (suc n) (bytes ++ rest) ≡ after_lines n (drop whole bytes ++ rest)
after_front n bytes rest len whole ends =
    ap (after_lines (suc n)) (split_first_line bytes rest len whole ends)
    ∙ after_unended n (take (whole - 1) bytes) (10 ∷ (drop whole bytes ++ rest))
    ends.none_before

-- it doesn't change where of a line that has no end yet only the front is kept
pub after-kept_front : (n : ℕ) (bytes more : List ℕ) → All (λ b. is_line_feed b ≡ false) bytes
    → after_lines (suc n) (take 257 bytes ++ more) ≡ after_lines (suc n) (bytes ++ more)
after-kept_front n bytes more none =
    after_unended n (take 257 bytes) more (All-take (λ b. is_line_feed b ≡ false) 257 bytes none)
    ∙ sym (after_unended n bytes more none)

-- nothing stands behind the lines of no bytes
pub after_none : (n : ℕ) → after_lines n [] ≡ []
after_none zero = refl
after_none (suc n) = refl

-- nor behind the first line of bytes without an LF
pub after_last : (n : ℕ) (bytes : List ℕ) → All (λ b. is_line_feed b ≡ false) bytes
    → after_lines (suc n) bytes ≡ []
after_last n bytes none =
    ap (after_lines (suc n)) (sym (append-nil bytes)) ∙ after_unended n bytes [] none

pub lines_front : (bytes rest : List ℕ) (len whole : ℕ) → EndsLine bytes len whole
    → seen_lines (bytes ++ rest) ≡ seen (take len bytes) ∷ seen_lines (drop whole bytes ++ rest)
lines_front = front_by unended

pub ended_front : (bytes rest : List ℕ) (len whole : ℕ) → EndsLine bytes len whole
    → seen_ended_lines (bytes ++ rest)
    ≡ seen (take len bytes) ∷ seen_ended_lines (drop whole bytes ++ rest)
ended_front = front_by (λ part. [])

-- the last line, which has no end
pub lines_last : (bytes : List ℕ) → All (λ b. is_line_feed b ≡ false) bytes → 0 < length bytes
    → seen_lines bytes ≡ seen bytes ∷ []
lines_last bytes none some =
    let test : (length bytes == 0) ≡ false = grind (arith, nat_tests) in
    ap (λ (l : List (List ℕ)). map seen (lines_by unended l))
    (slice_split_none is_line_feed bytes none)
    ∙ ap (λ (b : Bool). map seen (cond b [] (bytes ∷ []))) test

-- no end, and so no line that has one
pub ended_none : (bytes : List ℕ) → All (λ b. is_line_feed b ≡ false) bytes
    → seen_ended_lines bytes ≡ []
ended_none bytes none =
    ap (λ (l : List (List ℕ)). map seen (lines_by (λ part. []) l))
    (slice_split_none is_line_feed bytes none)

-- of a long line nothing counts
seen_long : (line : List ℕ) → 255 < length line → seen line ≡ None
seen_long line long =
    let test : nat_lt 255 (length line) ≡ true = grind (arith, nat_tests) in
    ap (λ (b : Bool). cond b None (Some line)) test

without_carriage_return-length : (line : List ℕ)
    → length line ≤ length (without_carriage_return line) + 1
without_carriage_return-length line = pick (slice_index line (length line - 1) == 13) line
  where
    pick : (b : Bool) (line : List ℕ)
        → length line ≤ length (cond b (take (length line - 1) line) line) + 1
    pick true line =
        let size : length (take (length line - 1) line) ≡ length line - 1 =
        length-take-le (length line - 1) line (omega arith) in omega arith
    pick false line = omega arith

-- what counts of parts of which the first one is long; `tail` is what counts of a last part that is
-- long
abbrev behind_long : (List ℕ → List (List ℕ)) → List (Option (List ℕ)) → List (List ℕ)
    → List (Option (List ℕ))
behind_long last tail [] = tail
behind_long last tail (part ∷ parts) = None ∷ map seen (lines_by last (part ∷ parts))

module _ (last : List ℕ → List (List ℕ)) (tail : List (Option (List ℕ)))
    (long_last : (part : List ℕ) → 256 < length part → map seen (last part) ≡ tail) where
  seen_first : (part : List ℕ) (parts : List (List ℕ)) → 256 < length part
      → map seen (lines_by last (part ∷ parts)) ≡ behind_long last tail parts
  seen_first part [] long = long_last part long
  seen_first part (next ∷ parts) long =
      ap (λ (o : Option (List ℕ)). o ∷ map seen (lines_by last (next ∷ parts)))
      (seen_long (without_carriage_return part)
      (let h = without_carriage_return-length part in omega arith))

  -- what stands behind the first part
  abbrev others_of : List (List ℕ) → List (List ℕ)
  others_of [] = []
  others_of (part ∷ parts) = parts

  seen_onto : (xs : List ℕ) (parts : List (List ℕ)) → IsSomeParts parts → 256 < length xs
      → map seen (lines_by last (onto_parts xs parts)) ≡ behind_long last tail (others_of parts)
  seen_onto xs parts some long =
      ap (λ (l : List (List ℕ)). map seen (lines_by last (onto_parts xs l))) some.are
      ∙ seen_first (xs ++ some.first) some.others (omega (arith, length-append xs some.first))
      ∙ ap (λ (l : List (List ℕ)). behind_long last tail (others_of l)) (sym some.are)

  long_front : (xs rest : List ℕ) → All (λ b. is_line_feed b ≡ false) xs → 256 < length xs
      → seen_by last (xs ++ rest) ≡ behind_long last tail
      (others_of (slice_split is_line_feed rest))
  long_front xs rest none long =
      ap (λ (l : List (List ℕ)). map seen (lines_by last l))
      (slice_split-append is_line_feed xs rest none)
      ∙ seen_onto xs (slice_split is_line_feed rest) (first_of_split is_line_feed rest) long

  -- a line that has 257 bytes and no end yet is long, whatever its other bytes are
  seen_by-kept_front : (bytes rest : List ℕ) → All (λ b. is_line_feed b ≡ false) bytes
      → seen_by last (take 257 bytes ++ rest) ≡ seen_by last (bytes ++ rest)
  seen_by-kept_front bytes rest none = pick (nat_lt 256 (length bytes)) refl
    where
      pick : (b : Bool) → nat_lt 256 (length bytes) ≡ b
          → seen_by last (take 257 bytes ++ rest) ≡ seen_by last (bytes ++ rest)
      pick true is =
          let long : 256 < length bytes = grind (arith, nat_tests) in
          let size : length (take 257 bytes) ≡ 257 = length-take-le 257 bytes (omega arith) in
          long_front (take 257 bytes) rest (All-take (λ b. is_line_feed b ≡ false) 257 bytes none)
          (omega arith) ∙ sym (long_front bytes rest none long)
      pick false is =
          let short : length bytes ≤ 257 = grind (arith, nat_tests) in
          ap (λ (l : List ℕ). seen_by last (l ++ rest)) (take_all 257 bytes short)

pub lines-kept_front : (bytes rest : List ℕ) → All (λ b. is_line_feed b ≡ false) bytes
    → seen_lines (take 257 bytes ++ rest) ≡ seen_lines (bytes ++ rest)
lines-kept_front = seen_by-kept_front unended (None ∷ []) long_last
  where
    long_last : (part : List ℕ) → 256 < length part → map seen (unended part) ≡ None ∷ []
    long_last part long =
        let test : (length part == 0) ≡ false = grind (arith, nat_tests) in
        ap (λ (b : Bool). map seen (cond b [] (part ∷ []))) test
        ∙ ap (λ (o : Option (List ℕ)). o ∷ []) (seen_long part (omega arith))

pub ended-kept_front : (bytes rest : List ℕ) → All (λ b. is_line_feed b ≡ false) bytes
    → seen_ended_lines (take 257 bytes ++ rest) ≡ seen_ended_lines (bytes ++ rest)
ended-kept_front = seen_by-kept_front (λ part. []) [] (λ part long. refl)
