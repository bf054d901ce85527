-- The questions of lines, one line after another.
use Rattle.std.proofs.Common.{◌≡◌, ℕ, ◌<◌, Bool, true, false, cond, List, [], ◌∷◌, ◌++◌, sym}
use Rattle.std.proofs.Common.{ap, ◌∙◌, refl, subst, Option, Some, None, append_assoc, arith, ℤ}
use Rattle.std.proofs.Common.{zero, suc}
use Rattle.std.proofs.lemmas.Bool.Decides.{nat_tests}
use Rattle.std.proofs.lemmas.List.{append-nil}
use Rattle.std.proofs.lemmas.List.Elements.{All-nil}
use Rattle.std.specs.Prelude.{IfSome, nat_lt, codes}
use Rattle.std.specs.List.{cons_option}
use Rattle.std.specs.Option.{option_map, option_to_list}
use Rattle.std.specs.Str.{bytes_eq}
use Rattle.bolt_io.specs.Told.{Told}
use Rattle.lexical.specs.Words.{words}
use Rattle.text_lines.specs.Feed.{Feed, ahead, fresh_feed, readable}
use Rattle.text_lines.specs.Numbers.{vertex_word, whole_word}
use Rattle.live_text.specs.Questions.{lane_below, lane_word, total_question, at_least_question}
use Rattle.live_text.specs.Questions.{value_question, one_word, two_words, three_words, form_of}
use Rattle.live_text.specs.Questions.{question_line, questions, questions_in, IsWithin}
use Rattle.live_text.specs.Questions.{AreWithin}
use Rattle.live_text.specs.declared.question.Question.{Question}
use Rattle.live_text.specs.declared.question.Question.TheVariants.{Ask, Unknown}
use Rattle.board.specs.declared.query.Query.TheVariants.{Prefix}

abbrev pub Lines : Type 0
Lines = List (Option (List ℕ))

-- ---- lanes
lane_is_below : (lanes : ℕ) (word : Option ℕ) → IfSome (lane_below lanes word) (λ l. l < lanes)
lane_is_below lanes None = tt
lane_is_below lanes (Some l) = pick (nat_lt l lanes) refl
  where
    pick : (b : Bool) → nat_lt l lanes ≡ b → IfSome (cond b (Some l) None) (λ k. k < lanes)
    pick true is = let h : l < lanes = grind (arith, nat_tests) in h
    pick false is = tt

total_is_within : (lanes : ℕ) (lane : Option ℕ) → IfSome lane (λ l. l < lanes)
    → IsWithin lanes (total_question lane)
total_is_within lanes None h = tt
total_is_within lanes (Some l) h = h

at_least_is_within : (lanes : ℕ) (lane : Option ℕ) (least : Option ℤ)
    → IfSome lane (λ l. l < lanes) → IsWithin lanes (at_least_question lane least)
at_least_is_within lanes None least h = tt
at_least_is_within lanes (Some l) None h = tt
at_least_is_within lanes (Some l) (Some x) h = h

value_is_within : (lanes : ℕ) (vertex : Option ℕ) → IsWithin lanes (value_question vertex)
value_is_within lanes None = tt
value_is_within lanes (Some v) = tt

either_is_within : (lanes : ℕ) (b : Bool) (p q : Question) → IsWithin lanes p → IsWithin lanes q
    → IsWithin lanes (cond b p q)
either_is_within lanes true p q h k = h
either_is_within lanes false p q h k = k

one_is_within : (lanes : ℕ) (a : List ℕ) → IsWithin lanes (one_word a)
unfolding one_word
one_is_within lanes a =
    either_is_within lanes (bytes_eq a (codes "prefix")) (Ask Prefix) Unknown tt tt

two_are_within : (lanes : ℕ) (a b : List ℕ) → IsWithin lanes (two_words lanes a b)
unfolding two_words lane_word
two_are_within lanes a b =
    either_is_within lanes (bytes_eq a (codes "value")) (value_question (vertex_word b)) _
    (value_is_within lanes (vertex_word b))
    (either_is_within lanes (bytes_eq a (codes "total"))
    (total_question (lane_below lanes (vertex_word b))) Unknown
    (total_is_within lanes _ (lane_is_below lanes (vertex_word b))) tt)

three_are_within : (lanes : ℕ) (a b c : List ℕ) → IsWithin lanes (three_words lanes a b c)
unfolding three_words lane_word
three_are_within lanes a b c =
    either_is_within lanes (bytes_eq a (codes "atleast"))
    (at_least_question (lane_below lanes (vertex_word b)) (whole_word c)) Unknown
    (at_least_is_within lanes _ (whole_word c) (lane_is_below lanes (vertex_word b))) tt

form_is_within : (lanes : ℕ) (ws : List (List ℕ)) → IfSome (form_of lanes ws) (IsWithin lanes)
form_is_within lanes [] = tt
form_is_within lanes (a ∷ []) = one_is_within lanes a
form_is_within lanes (a ∷ b ∷ []) = two_are_within lanes a b
form_is_within lanes (a ∷ b ∷ c ∷ []) = three_are_within lanes a b c
form_is_within lanes (a ∷ b ∷ c ∷ d ∷ ws) = tt

-- what a line asks is of the lanes that there are
pub line_is_within : (lanes : ℕ) (line : Option (List ℕ))
    → IfSome (question_line lanes line) (IsWithin lanes)
line_is_within lanes None = tt
line_is_within lanes (Some line) = form_is_within lanes (words line)

pub asked_are_within : (lanes : ℕ) (question : Option Question)
    → IfSome question (IsWithin lanes) → AreWithin lanes (option_to_list question)
asked_are_within lanes None h = All-nil _
asked_are_within lanes (Some q) h = one
  where
    one : AreWithin lanes (q ∷ [])
    one zero d l = h
    one (suc k) d l = absurd (omega arith)

-- ---- lines
-- the questions so far, and those of the lines that are still to come
abbrev pub questions_with : ℕ → List Question → Option Lines → Option (List Question)
questions_with lanes questions lines =
    option_map (λ l. questions ++ questions_in lanes l) lines

one_more : (before : List Question) (question : Option Question) (behind : List Question)
    → (before ++ option_to_list question) ++ behind ≡ before ++ cons_option question behind
one_more before None behind = ap (λ (l : List Question). l ++ behind) (append-nil before)
one_more before (Some q) behind = append_assoc before (q ∷ []) behind

-- the next line's question joins those so far
pub line_taken : (lanes : ℕ) (before : List Question) (line : Option (List ℕ))
    (lines more : Option Lines) → lines ≡ option_map (λ l. line ∷ l) more
    → questions_with lanes (before ++ option_to_list (question_line lanes line)) more
    ≡ questions_with lanes before lines
line_taken lanes before line lines more first =
    each more ∙ ap (questions_with lanes before) (sym first)
  where
    each : (o : Option Lines)
        → questions_with lanes (before ++ option_to_list (question_line lanes line)) o
        ≡ questions_with lanes before (option_map (λ l. line ∷ l) o)
    each None = refl
    each (Some l) =
        ap (λ (qs : List Question). (let o : Option (List Question) = Some qs in o))
        (one_more before (question_line lanes line) (questions_in lanes l))

-- at the end of a text they are all
pub all_taken : {X : Type 0} (lanes : ℕ) (first all : List Question) (start lines : Option Lines)
    (told : Option X) → questions_with lanes all lines ≡ questions_with lanes first start
    → lines ≡ option_map (λ _. []) told
    → IfSome start (λ l. all ≡ first ++ questions_in lanes l)
all_taken lanes first all None lines told so_far end = tt
all_taken lanes first all (Some l) lines None so_far end =
    absurd (no (ap (questions_with lanes all) (sym end) ∙ so_far))
  where
    no : {x : List Question} → (let o : Option (List Question) = None in o) ≡ Some x → ⊥
    no e = cc e
all_taken lanes first all (Some l) lines (Some t) so_far end =
    sym (append-nil all) ∙ same (ap (questions_with lanes all) (sym end) ∙ so_far)
  where
    same : {x y : List Question} → (let o : Option (List Question) = Some x in o) ≡ Some y → x ≡ y
    same e = cc e

-- the questions of a text of which nothing had been taken
pub whole_text : (lanes : ℕ) (told : Option Told) (slot : ℕ) (f : Feed) → f ≡ fresh_feed slot
    → (first all : List Question) → first ≡ []
    → IfSome (ahead told f) (λ lines. all ≡ first ++ questions_in lanes lines)
    → IfSome told (λ t. all ≡ questions lanes (readable t slot))
whole_text lanes told slot f fresh first all none h =
    each told (subst (λ (x : Feed). IfSome (ahead told x)
    (λ lines. all ≡ questions_in lanes lines)) fresh
    (subst (λ (qs : List Question). IfSome (ahead told f)
    (λ lines. all ≡ qs ++ questions_in lanes lines)) none h))
  where
    each : (o : Option Told) → IfSome (ahead o (fresh_feed slot))
        (λ lines. all ≡ questions_in lanes lines)
        → IfSome o (λ t. all ≡ questions lanes (readable t slot))
    each None h = tt
    each (Some t) h = h
