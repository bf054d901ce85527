-- Printed lines are read one after the other.
use Rattle.std.proofs.Common.{◌≡◌, ℕ, ◌+◌, ◌<◌, List, [], ◌∷◌, ◌++◌, length, take, drop, Result, Ok}
use Rattle.std.proofs.Common.{refl, sym, ◌∙◌, ap, subst, arith, append_assoc, length-append}
use Rattle.std.proofs.lemmas.List.{take_at, drop_at}
use Rattle.lexical.specs.Lines.{lines_from, line_length}
use Rattle.text_words.specs.Fields.{◌>>=◌}
use Rattle.text_words.specs.declared.error.LangError.{LangError}
use Rattle.lexical.proofs.PlaceLemmas.{lines_from-cons}
use Rattle.text_words.proofs.Lexing.{Passes}
use Rattle.text_words.proofs.PrintedLines.{is_printed, front_of, line_stop}
use Rattle.vertex_lang.specs.declared.draft.Draft.{Draft}
use Rattle.vertex_lang.specs.Drafts.{line_step, lines_read}
use Rattle.vertex_lang.specs.Canonical.{ended_lines}

-- a printed line that leads from a draft to another, wherever it stands
pub record Reads (d : Draft) (line : List ℕ) (e : Draft) : Type 0 where
  pub some : 0 < length line
  pub printed : Passes is_printed line
  pub step : (text : List ℕ) (p : ℕ) → drop p text ≡ line → line_step d text p ≡ Ok e

-- lines that lead from a draft to another
abbrev pub Steps : Draft → List (List ℕ) → Draft → Type 0
Steps d [] e = d ≡ e
Steps d (l ∷ ls) e = (m : Draft) × Reads d l m × Steps m ls e

pub steps-append : (d m e : Draft) (ls ms : List (List ℕ)) → Steps d ls m → Steps m ms e
    → Steps d (ls ++ ms) e
steps-append d m e [] ms h i = let P : Draft → Type 0 = λ x. Steps x ms e in subst P (sym h) i
steps-append d m e (l ∷ ls) ms h i = (h.0, h.1, steps-append h.0 m e ls ms h.2 i)

pub ended-append : (ls ms : List (List ℕ))
    → ended_lines (ls ++ ms) ≡ ended_lines ls ++ ended_lines ms
ended-append [] ms = refl
ended-append (l ∷ ls) ms =
    ap (λ (x : List ℕ). l ++ 10 ∷ x) (ended-append ls ms)
    ∙ sym (append_assoc l (10 ∷ ended_lines ls) (ended_lines ms))

-- the line in front of a text, and the lines behind it
line_reads : (d m : Draft) (before l rest : List ℕ) (z : Result Draft LangError) → Reads d l m
    → lines_read m (before ++ (l ++ 10 ∷ rest))
    (lines_from 0 (length (before ++ (l ++ 10 ∷ []))) rest) ≡ z
    → lines_read d (before ++ (l ++ 10 ∷ rest)) (lines_from 0 (length before) (l ++ 10 ∷ rest)) ≡ z
line_reads d m before [] rest z h next = absurd (let s = h.some in omega arith)
line_reads d m before (b ∷ bs) rest z h next =
    let l : List ℕ = b ∷ bs in
    let text : List ℕ = before ++ (l ++ 10 ∷ rest) in
    let at = length before in
    let n = length l in
    let first : lines_from 0 at (l ++ 10 ∷ rest)
    ≡ (at, at + line_length (l ++ 10 ∷ rest))
    ∷ lines_from 0 (at + 1 + n) (drop (n + 1) (l ++ 10 ∷ rest)) = lines_from-cons b
    (bs ++ 10 ∷ rest) at n (line_stop l rest h.printed) in
    let long : line_length (l ++ 10 ∷ rest) ≡ n = front_of l rest h.printed in
    let left : drop (n + 1) (l ++ 10 ∷ rest) ≡ rest =
    ap (drop (n + 1)) (sym (append_assoc l (10 ∷ []) rest))
    ∙ drop_at (l ++ 10 ∷ []) rest (n + 1) (omega (arith, length-append l (10 ∷ []))) in
    let place : at + 1 + n ≡ length (before ++ (l ++ 10 ∷ [])) =
    omega (arith, length-append before (l ++ 10 ∷ []), length-append l (10 ∷ [])) in
    let cut : take (at + n) text ≡ before ++ l =
    ap (take (at + n)) (sym (append_assoc before l (10 ∷ rest)))
    ∙ take_at (before ++ l) (10 ∷ rest) (at + n) (omega (arith, length-append before l)) in
    ap (lines_read d text) first
    ∙ (λ i. line_step d (take (at + long i) text) at >>= λ e. lines_read e text
    (lines_from 0 (place i) (left i)))
    ∙ ap (λ (x : List ℕ). line_step d x at >>= λ e. lines_read e text
    (lines_from 0 (length (before ++ (l ++ 10 ∷ []))) rest)) cut
    ∙ ap (λ (o : Result Draft LangError). o >>= λ e. lines_read e text
    (lines_from 0 (length (before ++ (l ++ 10 ∷ []))) rest))
    (h.step (before ++ l) at (drop_at before l at refl))
    ∙ next

lines_behind : (d e : Draft) (ls : List (List ℕ)) (before : List ℕ) → Steps d ls e
    → lines_read d (before ++ ended_lines ls) (lines_from 0 (length before) (ended_lines ls)) ≡ Ok e
lines_behind d e [] before h = ap (λ (x : Draft). let o : Result Draft LangError = Ok x in o) h
lines_behind d e (l ∷ ls) before h =
    line_reads d h.0 before l (ended_lines ls) (Ok e) h.1
    (ap (λ (text : List ℕ). lines_read h.0 text
    (lines_from 0 (length (before ++ (l ++ 10 ∷ []))) (ended_lines ls)))
    (sym (append_assoc before (l ++ 10 ∷ []) (ended_lines ls)
    ∙ ap (λ (x : List ℕ). before ++ x) (append_assoc l (10 ∷ []) (ended_lines ls))))
    ∙ lines_behind h.0 e ls (before ++ (l ++ 10 ∷ [])) h.2)

-- a text of such lines
pub all_lines : (d e : Draft) (ls : List (List ℕ)) → Steps d ls e
    → lines_read d (ended_lines ls) (lines_from 0 0 (ended_lines ls)) ≡ Ok e
all_lines d e ls h = lines_behind d e ls [] h
