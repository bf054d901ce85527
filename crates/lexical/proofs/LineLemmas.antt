-- The lines of a text, from its front.
use Rattle.std.proofs.Common.{◌≡◌, ℕ, zero, suc, ◌+◌, ◌-◌, ◌<◌, ◌≤◌, Bool, true, false, cond, List}
use Rattle.std.proofs.Common.{[], ◌∷◌, ◌++◌, map, length, take, drop, All, refl, sym, ◌∙◌, ap}
use Rattle.std.proofs.Common.{subst, arith, length-drop, take-append-drop, get_or}
use Rattle.std.specs.Prelude.{◌==◌, nat_lt, slice_index}
use Rattle.std.specs.List.{take_while, prefix_len, slice_split}
use Rattle.std.proofs.lemmas.List.{drop_more, drop-drop, drop_all, take_all, take-take}
use Rattle.std.proofs.lemmas.List.Sums.{prefix_len-le-length}
use Rattle.std.proofs.lemmas.List.Splits.{slice_split_at, slice_split_none}
use Rattle.std.proofs.lemmas.Bool.Decides.{nat_tests}
use Rattle.lexical.specs.Bytes.{is_line_feed, is_no_line_feed, is_no_hash, without_carriage_return}
use Rattle.lexical.specs.Bytes.{before_comment}
use Rattle.lexical.specs.Lines.{lines_by, unended, lines, front_line, line_length, lines_from}
use Rattle.lexical.specs.Laws.{between, LinesAreAlike}
use Rattle.lexical.proofs.Splitting.{IsSomeParts, first_of_split, none_before, passes_next}
use Rattle.lexical.proofs.PlaceLemmas.{lines_from-drop}

-- a line that has an end
pub lines_by-ended : (last : List ℕ → List (List ℕ)) (part : List ℕ) (parts : List (List ℕ))
    → IsSomeParts parts
    → lines_by last (part ∷ parts) ≡ without_carriage_return part ∷ lines_by last parts
lines_by-ended last part parts some =
    ap (λ (l : List (List ℕ)). lines_by last (part ∷ l)) some.are
    ∙ ap (λ (l : List (List ℕ)). without_carriage_return part ∷ lines_by last l) (sym some.are)

-- a list of bytes is the first ones of another
record IsFrontOf (xs whole : List ℕ) : Type 0 where
  pub count : ℕ
  pub is : xs ≡ take count whole

length-take-most : (n : ℕ) (xs : List ℕ) → length (take n xs) ≤ n
length-take-most zero xs = omega arith
length-take-most (suc n) [] = omega arith
length-take-most (suc n) (x ∷ xs) = let h = length-take-most n xs in omega arith

without_carriage_return-front : (n : ℕ) (whole : List ℕ)
    → IsFrontOf (without_carriage_return (take n whole)) whole
without_carriage_return-front n whole =
    pick (slice_index (take n whole) (length (take n whole) - 1) == 13)
  where
    pick : (b : Bool) → IsFrontOf (cond b (take (length (take n whole) - 1) (take n whole))
        (take n whole)) whole
    pick true =
        let short : length (take n whole) ≤ n = length-take-most n whole in
        record {
          count = length (take n whole) - 1;
          is = take-take (length (take n whole) - 1) n
              whole (omega arith);
        }
    pick false = record { count = n; is = refl }

front_line-front : (bytes : List ℕ) → IsFrontOf (front_line bytes) bytes
unfolding front_line
front_line-front bytes = pick (prefix_len is_no_line_feed bytes == length bytes)
  where
    pick : (b : Bool) → IsFrontOf (cond b bytes
        (without_carriage_return (take_while is_no_line_feed bytes))) bytes
    pick true =
        record { count = length bytes; is = sym (take_all (length bytes) bytes (omega arith)) }
    pick false = without_carriage_return-front (prefix_len is_no_line_feed bytes) bytes

-- what stands before the comment of the line in front
front_before_comment : (bytes : List ℕ)
    → take (line_length bytes) bytes ≡ before_comment (front_line bytes)
unfolding line_length
front_before_comment bytes =
    let at : ℕ = prefix_len is_no_hash (front_line bytes) in
    let whole = front_line-front bytes in
    let within : at ≤ length (front_line bytes) =
    prefix_len-le-length is_no_hash (front_line bytes) in
    let short : length (take whole.count bytes) ≤ whole.count =
    length-take-most whole.count bytes in
    let same : length (front_line bytes) ≡ length (take whole.count bytes) = ap length whole.is in
    sym (take-take at whole.count bytes (omega arith)) ∙ ap (take at) (sym whole.is)

-- the lines of bytes that are some begin with the line in front
lines-front : (bytes : List ℕ) → 0 < length bytes
    → lines bytes ≡ front_line bytes ∷ lines (drop (prefix_len is_no_line_feed bytes + 1) bytes)
unfolding front_line
lines-front bytes some = pick (prefix_len is_no_line_feed bytes == length bytes) refl
  where
    pick : (b : Bool) → (prefix_len is_no_line_feed bytes == length bytes) ≡ b
        → lines bytes ≡ cond b bytes (without_carriage_return (take_while is_no_line_feed bytes))
        ∷ lines (drop (prefix_len is_no_line_feed bytes + 1) bytes)
    pick true is =
        let n : ℕ = prefix_len is_no_line_feed bytes in
        let all : n ≡ length bytes = grind (arith, nat_tests) in
        let none : All (λ b. is_line_feed b ≡ false) bytes =
        subst (All (λ b. is_line_feed b ≡ false)) (take_all n bytes (omega arith))
        (none_before is_line_feed bytes) in
        let test : (length bytes == 0) ≡ false = grind (arith, nat_tests) in
        ap (lines_by unended) (slice_split_none is_line_feed bytes none)
        ∙ ap (λ (b : Bool). cond b [] (bytes ∷ [])) test
        ∙ ap (λ (l : List ℕ). bytes ∷ lines l) (sym (drop_all (n + 1) bytes (omega arith)))
    pick false off =
        let n : ℕ = prefix_len is_no_line_feed bytes in
        let within : n ≤ length bytes = prefix_len-le-length is_no_line_feed bytes in
        let less : n < length bytes = grind (arith, nat_tests) in
        let stops : is_line_feed (get_or bytes n 0) ≡ true = passes_next is_line_feed bytes less in
        let here : get_or bytes n 0 ≡ 10 = grind (arith, nat_tests) in
        let cut : bytes ≡ take n bytes ++ 10 ∷ drop (n + 1) bytes =
        sym (take-append-drop n bytes)
        ∙ ap (λ (l : List ℕ). take n bytes ++ l) (drop_more bytes n 0 less)
        ∙ ap (λ (b : ℕ). take n bytes ++ b ∷ drop (n + 1) bytes) here in
        ap lines cut
        ∙ ap (lines_by unended) (slice_split_at is_line_feed (take n bytes) 10 (drop (n + 1) bytes)
        (none_before is_line_feed bytes) refl)
        ∙ lines_by-ended unended (take n bytes) (slice_split is_line_feed (drop (n + 1) bytes))
        (first_of_split is_line_feed (drop (n + 1) bytes))

lines_alike_by : (size at : ℕ) (text : List ℕ) → length text ≤ size + at
    → map (between text) (lines_from 0 at (drop at text))
    ≡ map before_comment (lines (drop at text))
lines_alike_by zero at text short =
    let past : length text ≤ at = omega arith in
    ap (λ (l : List ℕ). map (between text) (lines_from 0 at l)) (drop_all at text past)
    ∙ ap (λ (l : List ℕ). map before_comment (lines l)) (sym (drop_all at text past))
lines_alike_by (suc size) at text short = pick (lines_alike_by size) (nat_lt at (length text)) refl
  where
    pick : ((place : ℕ) (bytes : List ℕ) → length bytes ≤ size + place
        → map (between bytes) (lines_from 0 place (drop place bytes))
        ≡ map before_comment (lines (drop place bytes)))
        → (b : Bool) → nat_lt at (length text) ≡ b
        → map (between text) (lines_from 0 at (drop at text))
        ≡ map before_comment (lines (drop at text))
    pick further true is =
        let less : at < length text = grind (arith, nat_tests) in
        let rest : List ℕ = drop at text in
        let n : ℕ = prefix_len is_no_line_feed rest in
        let behind : List (List ℕ) =
        map (between text) (lines_from 0 (at + n + 1) (drop (at + n + 1) text)) in
        let some : 0 < length rest = omega (arith, length-drop at text) in
        let size_of_line : at + line_length rest - at ≡ line_length rest = omega arith in
        let next : at + n + 1 ≡ at + (n + 1) = omega arith in
        ap (map (between text)) (lines_from-drop text at n less refl)
        ∙ ap (λ (k : ℕ). take k rest ∷ behind) size_of_line
        ∙ ap (λ (l : List ℕ). l ∷ behind) (front_before_comment rest)
        ∙ ap (λ (ls : List (List ℕ)). before_comment (front_line rest) ∷ ls)
        (further (at + n + 1) text (omega arith))
        ∙ ap (λ (k : ℕ). before_comment (front_line rest)
        ∷ map before_comment (lines (drop k text))) next
        ∙ ap (λ (l : List ℕ). before_comment (front_line rest) ∷ map before_comment (lines l))
        (sym (drop-drop (n + 1) at text))
        ∙ sym (ap (map before_comment) (lines-front rest some))
    pick further false off =
        let short : length text ≤ at = grind (arith, nat_tests) in
        ap (λ (l : List ℕ). map (between text) (lines_from 0 at l)) (drop_all at text short)
        ∙ ap (λ (l : List ℕ). map before_comment (lines l)) (sym (drop_all at text short))

pub lines_alike : LinesAreAlike
lines_alike = λ text. lines_alike_by (length text) 0 text (omega arith)
