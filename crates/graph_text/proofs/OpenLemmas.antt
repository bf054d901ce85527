-- A batch that is read line by line is the batch of its lines.
use Rattle.std.proofs.Common.{◌≡◌, ℕ, zero, suc, ◌+◌, ◌≤◌, Bool, true, false, cond, List, []}
use Rattle.std.proofs.Common.{◌∷◌, ◌++◌, length, take, refl, sym, ap, ◌∙◌, arith}
use Rattle.std.proofs.Common.{append_assoc, Option, Some, None}
use Rattle.std.specs.Prelude.{is_some, nat_lt, slice_get, unwrap_or}
use Rattle.std.specs.List.{prefix_len, onto_first}
use Rattle.std.proofs.lemmas.List.Sums.{take_while-cons}
use Rattle.std.proofs.lemmas.Bool.Decides.{nat_tests}
use Rattle.std.proofs.lemmas.List.{append-nil, take_all, take-append-le}
use Rattle.std.proofs.lemmas.Option.{slice_get_past}
use Rattle.bolt_base.specs.declared.edge.Edit.{Edit}
use Rattle.bolt_base.specs.declared.limits.LineCause.TheVariants.{Syntax, Size}
use Rattle.lexical.proofs.Splitting.{IsSomeParts}
use Rattle.graph_text.specs.declared.bad_line.BadLine.{BadLine}
use Rattle.graph_text.specs.declared.batch_reader.TheConstants.{MOST_EDITS}
use Rattle.graph_text.specs.declared.batch_text.BatchText.{BatchText}
use Rattle.graph_text.specs.declared.batch_text.OpenBatch.{OpenBatch}
use Rattle.graph_text.specs.declared.stream_lines.StreamLine.{StreamLine}
use Rattle.graph_text.specs.declared.stream_lines.StreamLine.TheVariants.{Empty, Edit as EditLine}
use Rattle.graph_text.specs.declared.stream_lines.StreamLine.TheVariants.{Commit, Unknown}
use Rattle.graph_text.specs.StreamText.{is_empty, is_known, edits_in, edit_numbers}
use Rattle.graph_text.specs.StreamText.{known_lines, bad_at, first_unknown, too_many_or, first_line}
use Rattle.graph_text.specs.StreamText.{batches_by}
use Rattle.graph_text.specs.OpenCode.{IsPaired, unopened, with_edit, with_unknown, with_line}
use Rattle.graph_text.specs.OpenCode.{committed}

abbrev pub first_or : Option ℕ → Option ℕ → Option ℕ
first_or None next = next
first_or (Some first) next = Some first

-- an open batch with all of some lines more, of which the first has the number n
abbrev pub extended : OpenBatch → ℕ → List StreamLine → OpenBatch
extended b n more = cond (is_some b.bad) b (record {
  first_line = first_or b.first_line (first_line n more);
  edits = take MOST_EDITS (b.edits ++ edits_in (known_lines more));
  lines = take MOST_EDITS (b.lines ++ edit_numbers n (known_lines more));
  bad =
      too_many_or (slice_get (b.lines ++ edit_numbers n (known_lines more)) MOST_EDITS)
      (first_unknown n more);
})

-- a count of lines from the next one on
same_test : (a b m : ℕ) → m ≡ a + 1 → nat_lt a b ≡ nat_lt m (suc b)
same_test a b m next = pick (nat_lt a b) refl
  where
    pick : (t : Bool) → nat_lt a b ≡ t → nat_lt a b ≡ nat_lt m (suc b)
    pick true is = let h : nat_lt m (suc b) ≡ true = grind (arith, nat_tests) in is ∙ sym h
    pick false is = let h : nat_lt m (suc b) ≡ false = grind (arith, nat_tests) in is ∙ sym h

counted_on : {X : Type 0} (f : ℕ → X) (d : X) (n a b m : ℕ) → m ≡ a + 1
    → cond (nat_lt a b) (f (n + 1 + a)) d ≡ cond (nat_lt m (suc b)) (f (n + m)) d
counted_on f d n a b m next =
    let on : n + 1 + a ≡ n + m = omega arith in
    ap (λ (k : ℕ). cond (nat_lt a b) (f k) d) on
    ∙ ap (λ (t : Bool). cond t (f (n + m)) d) (same_test a b m next)

at_first : {X : Type 0} (f : ℕ → X) (d : X) (n b : ℕ) → f n ≡ cond (nat_lt 0 (suc b)) (f (n + 0)) d
at_first f d n b =
    let test : nat_lt 0 (suc b) ≡ true = grind (arith, nat_tests) in
    let none : n ≡ n + 0 = omega arith in
    ap f none ∙ ap (λ (t : Bool). cond t (f (n + 0)) d) (sym test)

take_front : {X : Type 0} (m : ℕ) (xs ys : List X) → length xs ≡ m → take m (xs ++ ys) ≡ xs
take_front m xs ys size = take-append-le m xs ys (omega arith) ∙ take_all m xs (omega arith)

take_none : {X : Type 0} (m : ℕ) (xs : List X) → length xs ≤ m → take m (xs ++ []) ≡ xs
take_none m xs size = ap (take m) (append-nil xs) ∙ take_all m xs size

get_next : {X : Type 0} (m : ℕ) (xs : List X) (y : X) (ys : List X) → length xs ≡ m
    → slice_get (xs ++ y ∷ ys) m ≡ Some y
get_next zero [] y ys size = refl
get_next zero (x ∷ xs) y ys size = absurd (omega arith)
get_next (suc m) [] y ys size = absurd (omega arith)
get_next (suc m) (x ∷ xs) y ys size = get_next m xs y ys (omega arith)

get_none : {X : Type 0} (m : ℕ) (xs : List X) → length xs ≤ m → slice_get (xs ++ []) m ≡ None
get_none m xs size = ap (λ (l : List _). slice_get l m) (append-nil xs) ∙ slice_get_past xs m size

open_of : Option ℕ → List Edit → List ℕ → Option BadLine → OpenBatch
open_of f es ls bad = record { first_line = f; edits = es; lines = ls; bad = bad }

first_none : (f : Option ℕ) → first_or f None ≡ f
first_none None = refl
first_none (Some x) = refl

first_begun : (f : Option ℕ) (n b : ℕ)
    → (let o : Option ℕ = Some (unwrap_or f n) in o)
    ≡ first_or f (cond (nat_lt 0 (suc b)) (Some (n + 0)) None)
first_begun None n b = at_first (λ (k : ℕ). (let o : Option ℕ = Some k in o)) None n b
first_begun (Some x) n b = refl

-- the first unknown line, by the lines before it and the number of them all
abbrev unknown_by : ℕ → List StreamLine → ℕ → Option BadLine
unknown_by n known count =
    cond (nat_lt (length known) count) (bad_at (n + length known) Syntax) None

-- a good batch with lines more, by those of them that stand before the first unknown one
abbrev extended_by : Option ℕ → List Edit → List ℕ → ℕ → Option ℕ → List StreamLine → ℕ → OpenBatch
extended_by f es ls n first known count = record {
  first_line = first_or f first;
  edits = take MOST_EDITS (es ++ edits_in known);
  lines = take MOST_EDITS (ls ++ edit_numbers n known);
  bad = too_many_or (slice_get (ls ++ edit_numbers n known) MOST_EDITS) (unknown_by n known count);
}

-- no line more
pub extended_none : (b : OpenBatch) (n : ℕ) → IsPaired b → extended b n [] ≡ b
extended_none b n paired =
    pick b.first_line b.edits b.lines b.bad
    (let h = paired.few in let e = paired.lines in omega arith) paired.few
  where
    pick : (f : Option ℕ) (es : List Edit) (ls : List ℕ) (bad : Option BadLine)
        → length ls ≤ MOST_EDITS → length es ≤ MOST_EDITS
        → (let b : OpenBatch = record { first_line = f; edits = es; lines = ls; bad = bad } in
        extended b n [] ≡ b)
    pick f es ls (Some x) few_lines few = refl
    pick f es ls None few_lines few =
        ap (λ (o : Option ℕ). (let b : OpenBatch = record {
          first_line = o;
          edits = take MOST_EDITS (es ++ []);
          lines = take MOST_EDITS
              (ls ++ []);
          bad = too_many_or (slice_get (ls ++ []) MOST_EDITS) None;
        } in b))
        (first_none f)
        ∙ ap (λ (l : List Edit). (let b : OpenBatch = record {
          first_line = f;
          edits = l;
          lines = take MOST_EDITS (ls ++ []);
          bad = too_many_or
              (slice_get (ls ++ []) MOST_EDITS) None;
        } in b)) (take_none MOST_EDITS es few)
        ∙ ap (λ (l : List ℕ). (let b : OpenBatch = record {
          first_line = f;
          edits = es;
          lines = l;
          bad = too_many_or
              (slice_get (ls ++ []) MOST_EDITS) None;
        } in b)) (take_none MOST_EDITS ls few_lines)
        ∙ ap (λ (o : Option ℕ). (let b : OpenBatch = record
        { first_line = f; edits = es; lines = ls; bad = too_many_or o None } in b))
        (get_none MOST_EDITS ls few_lines)

-- one line more at the front
pub extended_more : (b : OpenBatch) (n : ℕ) (line : StreamLine) (more : List StreamLine)
    → IsPaired b → (line ≡ Commit → ⊥)
    → extended (with_line b n line) (n + 1) more ≡ extended b n (line ∷ more)
unfolding with_line with_edit with_unknown
extended_more b n line more paired other =
    pick b.first_line b.edits b.lines b.bad line (let h = paired.lines in h) paired.few other
  where
    by_parts : {f g : Option ℕ} {es fs : List Edit} {ls ms : List ℕ} {x y : Option BadLine} → f ≡ g
        → es ≡ fs → ls ≡ ms → x ≡ y
        → (let b : OpenBatch = record { first_line = f; edits = es; lines = ls; bad = x } in b)
        ≡ record { first_line = g; edits = fs; lines = ms; bad = y }
    by_parts p q r s = λ i. record { first_line = p i; edits = q i; lines = r i; bad = s i }

    known_first : (f : Option ℕ) (es : List Edit) (ls : List ℕ) (line : StreamLine)
        → extended_by f es ls n (first_line n (line ∷ more))
        (cond (is_known line) (line ∷ known_lines more) []) (suc (length more))
        ≡ (let b : OpenBatch = record { first_line = f; edits = es; lines = ls; bad = None } in
        extended b n (line ∷ more))
    known_first f es ls line =
        ap (λ (known : List StreamLine). extended_by f es ls n (first_line n (line ∷ more)) known
        (suc (length more))) (sym (take_while-cons is_known line more))

    pick : (f : Option ℕ) (es : List Edit) (ls : List ℕ) (bad : Option BadLine) (line : StreamLine)
        → length ls ≡ length es → length es ≤ MOST_EDITS → (line ≡ Commit → ⊥)
        → (let b : OpenBatch = record { first_line = f; edits = es; lines = ls; bad = bad } in
        extended (with_line b n line) (n + 1) more ≡ extended b n (line ∷ more))
    pick f es ls (Some x) Empty same few other = refl
    pick f es ls (Some x) (EditLine e) same few other = refl
    pick f es ls (Some x) Unknown same few other = refl
    pick f es ls bad Commit same few other = absurd (other refl)
    pick f es ls None Empty same few other =
        by_parts
        (ap (first_or f) (counted_on (λ (k : ℕ). (let o : Option ℕ = Some k in o)) None n
        (prefix_len is_empty more) (length more) (1 + prefix_len is_empty more) (omega arith)))
        refl
        refl
        (ap (too_many_or (slice_get (ls ++ edit_numbers (n + 1) (known_lines more)) MOST_EDITS))
        (counted_on (λ (k : ℕ). bad_at k Syntax) None n (length (known_lines more))
        (length more) (suc (length (known_lines more))) (omega arith)))
        ∙ known_first f es ls Empty
    pick f es ls None Unknown same few other =
        by_parts
        (first_begun f n (length more))
        (sym (take_none MOST_EDITS es few))
        (sym (take_none MOST_EDITS ls (omega arith)))
        (at_first (λ (k : ℕ). bad_at k Syntax) None n (length more)
        ∙ ap (λ (o : Option ℕ). too_many_or o (unknown_by n [] (suc (length more))))
        (sym (get_none MOST_EDITS ls (omega arith))))
        ∙ known_first f es ls Unknown
    pick f es ls None (EditLine e) same few other = room (nat_lt (length es) MOST_EDITS) refl
      where
        room : (t : Bool) → nat_lt (length es) MOST_EDITS ≡ t
            → (let b : OpenBatch = record { first_line = f; edits = es; lines = ls; bad = None } in
            extended (with_line b n (EditLine e)) (n + 1) more
            ≡ extended b n (EditLine e ∷ more))
        room true is =
            ap (λ (t : Bool). (let b : OpenBatch = record
            { first_line = Some (unwrap_or f n); edits = es; lines = ls; bad = None } in
            let c : OpenBatch =
            cond t (record b { edits = es ++ e ∷ []; lines = ls ++ n ∷ [] })
            (record b { bad = bad_at n Size }) in extended c (n + 1) more)) is
            ∙ by_parts
            (first_begun f n (length more))
            (ap (take MOST_EDITS) (append_assoc es (e ∷ []) (edits_in (known_lines more))))
            (ap (take MOST_EDITS) (append_assoc ls (n ∷ [])
            (edit_numbers (n + 1) (known_lines more))))
            (ap (λ (x : List ℕ). too_many_or (slice_get x MOST_EDITS) (first_unknown (n + 1) more))
            (append_assoc ls (n ∷ []) (edit_numbers (n + 1) (known_lines more)))
            ∙ ap (too_many_or (slice_get (ls ++ n ∷ edit_numbers (n + 1) (known_lines more))
            MOST_EDITS))
            (counted_on (λ (k : ℕ). bad_at k Syntax) None n (length (known_lines more))
            (length more) (suc (length (known_lines more))) (omega arith)))
            ∙ known_first f es ls (EditLine e)
        room false is =
            let full : MOST_EDITS ≤ length es = grind (arith, nat_tests) in
            let size : length es ≡ MOST_EDITS = omega arith in
            ap (λ (t : Bool). (let b : OpenBatch = record
            { first_line = Some (unwrap_or f n); edits = es; lines = ls; bad = None } in
            let c : OpenBatch =
            cond t (record b { edits = es ++ e ∷ []; lines = ls ++ n ∷ [] })
            (record b { bad = bad_at n Size }) in extended c (n + 1) more)) is
            ∙ by_parts
            (first_begun f n (length more))
            (sym (take_front MOST_EDITS es (e ∷ edits_in (known_lines more)) size))
            (sym (take_front MOST_EDITS ls (n ∷ edit_numbers (n + 1) (known_lines more))
            (same ∙ size)))
            (ap (λ (o : Option ℕ). too_many_or o
            (unknown_by n (EditLine e ∷ known_lines more) (suc (length more))))
            (sym (get_next MOST_EDITS ls n (edit_numbers (n + 1) (known_lines more))
            (same ∙ size))))
            ∙ known_first f es ls (EditLine e)

-- the batches of parts, of which an open batch has lines of the first already
module _ (last : Option ℕ → List BatchText) where
  abbrev pub batches_on : OpenBatch → ℕ → List (List StreamLine) → List BatchText
  batches_on b n [] = []
  batches_on b n (part ∷ []) = last (extended b n part).first_line
  batches_on b n (part ∷ next ∷ parts) =
      committed (extended b n part) (n + length part)
      ∷ batches_by last (n + length part + 1) (next ∷ parts)

  pub batches_on_none : (n : ℕ) (parts : List (List StreamLine))
      → batches_on unopened n parts ≡ batches_by last n parts
  unfolding committed
  batches_on_none n [] = refl
  batches_on_none n (part ∷ []) = refl
  batches_on_none n (part ∷ next ∷ parts) = refl

  pub batches_on_end : (b : OpenBatch) (n : ℕ) → IsPaired b
      → batches_on b n ([] ∷ []) ≡ last b.first_line
  batches_on_end b n paired = ap (λ (o : OpenBatch). last o.first_line) (extended_none b n paired)

  pub batches_on_commit : (b : OpenBatch) (n : ℕ) (parts : List (List StreamLine)) → IsPaired b
      → IsSomeParts parts → batches_on b n ([] ∷ parts)
      ≡ committed b n ∷ batches_by last (n + 1) parts
  batches_on_commit b n parts paired some =
      ap (λ (l : List (List StreamLine)). batches_on b n ([] ∷ l)) some.are
      ∙ ap (λ (o : OpenBatch). committed o (n + 0)
      ∷ batches_by last (n + 0 + 1) (some.first ∷ some.others)) (extended_none b n paired)
      ∙ ap (λ (k : ℕ). committed b k ∷ batches_by last (k + 1) (some.first ∷ some.others))
      (let none : n + 0 ≡ n = omega arith in none)
      ∙ ap (λ (l : List (List StreamLine)). committed b n ∷ batches_by last (n + 1) l)
      (sym some.are)

  pub batches_on_more : (b : OpenBatch) (n : ℕ) (line : StreamLine) (parts : List (List StreamLine))
      → IsPaired b → (line ≡ Commit → ⊥) → IsSomeParts parts
      → batches_on (with_line b n line) (n + 1) parts ≡ batches_on b n (onto_first line parts)
  batches_on_more b n line parts paired other some =
      ap (batches_on (with_line b n line) (n + 1)) some.are
      ∙ pick some.first some.others
      ∙ ap (λ (l : List (List StreamLine)). batches_on b n (onto_first line l)) (sym some.are)
    where
      pick : (part : List StreamLine) (parts : List (List StreamLine))
          → batches_on (with_line b n line) (n + 1) (part ∷ parts)
          ≡ batches_on b n ((line ∷ part) ∷ parts)
      pick part [] =
          ap (λ (o : OpenBatch). last o.first_line) (extended_more b n line part paired other)
      pick part (next ∷ parts) =
          ap (λ (o : OpenBatch). committed o (n + 1 + length part)
          ∷ batches_by last (n + 1 + length part + 1) (next ∷ parts))
          (extended_more b n line part paired other)
          ∙ ap (λ (k : ℕ). committed (extended b n (line ∷ part)) k
          ∷ batches_by last (k + 1) (next ∷ parts))
          (let on : n + 1 + length part ≡ n + suc (length part) = omega arith in on)
