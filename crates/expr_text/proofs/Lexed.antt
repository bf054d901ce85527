-- The canonical text has the canonical tokens.
use Rattle.std.proofs.Common.{◌≡◌, ℕ, suc, ◌+◌, ◌^◌, ◌<◌, ◌≤◌, Bool, true, false, cond, List, []}
use Rattle.std.proofs.Common.{◌∷◌, ◌++◌, length, Option, Some, None, refl, ◌∙◌, ap, subst, arith}
use Rattle.std.proofs.Common.{pos, negsuc, append_assoc, rules}
use Rattle.std.specs.Prelude.{◌==◌, codes, decimal}
use Rattle.std.specs.Char.{is_ascii_digit, is_ascii_lowercase}
use Rattle.std.specs.List.{prefix_len}
use Rattle.std.proofs.lemmas.Bool.Decides.{nat_tests}
use Rattle.vertex_expr.specs.Tree.{Tree, literal, param, val, outdeg, weight, attr, id, agg, old}
use Rattle.vertex_expr.specs.Tree.{plus, minus, times, over, least, greatest, clamp, choose, sums}
use Rattle.vertex_expr.specs.Tree.{products}
use Rattle.vertex_expr.specs.declared.expr.Compare.{Compare}
use Rattle.vertex_expr.specs.declared.expr.Compare.TheVariants.{Less, AtMost, Equal}
use Rattle.text_words.specs.Token.{Token, number, word, dash, mark}
use Rattle.lexical.specs.Numbers.{capped_value}
use Rattle.text_words.specs.Tokens.{front_number, number_behind, first_token, tokens_from}
use Rattle.vertex_expr.specs.Names.{is_name_byte, param_name}
use Rattle.expr_text.specs.Grammar.{compare_mark}
use Rattle.expr_text.specs.Printing.{left_marked, right_marked, tokens_of, in_marks, text_of}
use Rattle.expr_text.specs.Printing.{in_parens, compare_text, lane_tokens}
use Rattle.vertex_expr.specs.Writable.{IsPrintable, Scope}
use Rattle.text_words.proofs.TokenLemmas.{token_at}
use Rattle.text_words.proofs.Lexing.{plain, IsBreak, Lexes, Free, free_lexes, free_lex, lex_free}
use Rattle.text_words.proofs.Lexing.{plus_free, minus_free, times_free, over_free, less_free}
use Rattle.text_words.proofs.Lexing.{at_most_free, equal_free, comma_free, open_free, close_free}
use Rattle.text_words.proofs.Lexing.{bracket_free, min_free, max_free, clamp_free, if_free}
use Rattle.text_words.proofs.Lexing.{val_free, agg_free, old_free, Passes, front_is, pass_all}
use Rattle.text_words.proofs.Lexing.{digit_stops, number_lexes, word_lexes, IsNumber, decimal_is}

abbrev pub IsWord : List ℕ → Type 0
IsWord [] = ⊥
IsWord (b ∷ bs) = (is_ascii_lowercase b ≡ true) × Passes is_name_byte (b ∷ bs)

-- what the scope's names and lanes are like
pub record HasForms (s : Scope) : Type 0 where
  pub lanes : s.lanes ≤ 2 ^ 32
  pub words : (k : ℕ) → k < length s.params → IsWord (param_name s.params k)

word_is : (w : List ℕ) → IsWord w → Lexes w (word w ∷ [])
word_is [] h = absurd h
word_is (b ∷ bs) h = word_lexes b bs h.0 h.1

decimal_lexes : (n : ℕ) → n < 2 ^ 64 → Lexes (decimal n) (number n ∷ [])
decimal_lexes n small =
    let d = decimal_is n small in number_lexes (decimal n) n d.all d.some d.value

negative_lexes : (ds : List ℕ) (n : ℕ) → IsNumber n ds
    → Lexes (45 ∷ ds) (dash (Some n) ∷ number n ∷ [])
unfolding first_token
negative_lexes ds n d at rest off =
    let none : prefix_len is_ascii_digit rest ≡ 0 = digit_stops rest off in
    let long : (prefix_len is_ascii_digit (ds ++ rest) == 0) ≡ false =
    ap (λ k. k == 0) (pass_all is_ascii_digit ds rest d.all none) ∙ positive (length ds) d.some in
    let behind : number_behind (ds ++ rest) ≡ Some n =
    ap (λ b. cond b None (Some (front_number (ds ++ rest)))) long
    ∙ ap (λ (l : List ℕ). Some (capped_value l)) (front_is is_ascii_digit ds rest d.all none)
    ∙ ap Some d.value in
    let first : first_token 45 (ds ++ rest) ≡ (dash (Some n), 1) =
    ap (λ (o : Option ℕ). let p : Token × ℕ = (dash o, 1) in p) behind in
    ap plain (token_at 45 (ds ++ rest) at 1 (dash (Some n)) refl first (omega arith))
    ∙ ap (λ (l : List Token). dash (Some n) ∷ l)
    (number_lexes ds n d.all d.some d.value (at + 1) rest off)
    ∙ ap (λ m. dash (Some n) ∷ number n ∷ plain (tokens_from 0 m rest)) (omega arith)
  where
    positive : (k : ℕ) → 0 < k → (k == 0) ≡ false
    positive k some = grind (arith, nat_tests)

in_parens_lexes : (b : Bool) (x : List ℕ) (ks : List Token) → Lexes x ks
    → Lexes (in_parens b x) (in_marks b ks)
in_parens_lexes true x ks h =
    free_lexes (codes "(" ++ x ++ codes ")") (mark 40 ∷ (ks ++ mark 41 ∷ []))
    (lex_free (codes "(" ++ x) (codes ")") (mark 40 ∷ ks) (mark 41 ∷ [])
    (free_lex (codes "(") x (mark 40 ∷ []) ks open_free h) (λ rest. refl) close_free)
in_parens_lexes false x ks h = h

-- two operands with an operator
binary_lexes : (x y o : List ℕ) (ks ls : List Token) (k : Token) → Lexes x ks → Lexes y ls
    → ((rest : List ℕ) → IsBreak (o ++ rest)) → Free o (k ∷ []) → Lexes (x ++ o ++ y) (ks ++ k ∷ ls)
binary_lexes x y o ks ls k f g off op =
    let P : List Token → Type 0 = λ l. Lexes (x ++ o ++ y) l in
    subst P (append_assoc ks (k ∷ []) ls)
    (free_lex (x ++ o) y (ks ++ k ∷ []) ls (lex_free x o ks (k ∷ []) f off op) g)

lane_lexes : (o w : List ℕ) (k : ℕ) → Free o (word w ∷ mark 91 ∷ []) → k < 2 ^ 64
    → Lexes (o ++ decimal k ++ codes "]") (lane_tokens w k)
lane_lexes o w k op small =
    free_lexes (o ++ decimal k ++ codes "]") (lane_tokens w k)
    (lex_free (o ++ decimal k) (codes "]") (word w ∷ mark 91 ∷ number k ∷ []) (mark 93 ∷ [])
    (free_lex o (decimal k) (word w ∷ mark 91 ∷ []) (number k ∷ []) op (decimal_lexes k small))
    (λ rest. refl) bracket_free)

-- the operands of a call: an operand behind what stands before it, and what ends it
then_ends : (x y o : List ℕ) (ks ls : List Token) (k : Token) → Free x ks → Lexes y ls
    → ((rest : List ℕ) → IsBreak (o ++ rest)) → Free o (k ∷ [])
    → Free (x ++ y ++ o) (ks ++ (ls ++ k ∷ []))
then_ends x y o ks ls k f g off op =
    let P : List Token → Type 0 = λ l. Free (x ++ y ++ o) l in
    subst P (append_assoc ks ls (k ∷ []))
    (lex_free (x ++ y) o (ks ++ ls) (k ∷ []) (free_lex x y ks ls f g) off op)

compare_free : (c : Compare) → Free (compare_text c) (compare_mark c ∷ [])
compare_free Less = less_free
compare_free AtMost = at_most_free
compare_free Equal = equal_free

compare_off : (c : Compare) (rest : List ℕ) → IsBreak (compare_text c ++ rest)
compare_off Less rest = refl
compare_off AtMost rest = refl
compare_off Equal rest = refl

same_tokens : (x : List ℕ) (ks ls : List Token) → ks ≡ ls → Lexes x ks → Lexes x ls
same_tokens x ks ls e h = let P : List Token → Type 0 = λ l. Lexes x l in subst P e h

-- the text of a call so far, and one operand more
call_two : (o : List ℕ) (w : List ℕ) (x y : List ℕ) (ks ls : List Token)
    → Free o (word w ∷ mark 40 ∷ []) → Lexes x ks → Lexes y ls
    → Lexes (o ++ x ++ codes ", " ++ y ++ codes ")")
    (word w ∷ mark 40 ∷ (ks ++ mark 44 ∷ (ls ++ mark 41 ∷ [])))
call_two o w x y ks ls op f g =
    let one =
    then_ends o x (codes ", ") (word w ∷ mark 40 ∷ []) ks (mark 44) op f (λ rest. refl) comma_free
    in
    let two =
    then_ends (o ++ x ++ codes ", ") y (codes ")") (word w ∷ mark 40 ∷ (ks ++ mark 44 ∷ [])) ls
    (mark 41) one g (λ rest. refl) close_free in
    let all : List ℕ = o ++ x ++ codes ", " ++ y ++ codes ")" in
    same_tokens all ((word w ∷ mark 40 ∷ (ks ++ mark 44 ∷ [])) ++ (ls ++ mark 41 ∷ []))
    (word w ∷ mark 40 ∷ (ks ++ mark 44 ∷ (ls ++ mark 41 ∷ [])))
    (ap (λ (l : List Token). word w ∷ mark 40 ∷ l)
    (append_assoc ks (mark 44 ∷ []) (ls ++ mark 41 ∷ [])))
    (free_lexes all ((word w ∷ mark 40 ∷ (ks ++ mark 44 ∷ [])) ++ (ls ++ mark 41 ∷ [])) two)

call_three : (o : List ℕ) (w : List ℕ) (x y z : List ℕ) (ks ls ms : List Token)
    → Free o (word w ∷ mark 40 ∷ []) → Lexes x ks → Lexes y ls → Lexes z ms
    → Lexes (o ++ x ++ codes ", " ++ y ++ codes ", " ++ z ++ codes ")")
    (word w ∷ mark 40 ∷ (ks ++ mark 44 ∷ (ls ++ mark 44 ∷ (ms ++ mark 41 ∷ []))))
call_three o w x y z ks ls ms op f g h =
    let one =
    then_ends o x (codes ", ") (word w ∷ mark 40 ∷ []) ks (mark 44) op f (λ rest. refl) comma_free
    in
    let two =
    then_ends (o ++ x ++ codes ", ") y (codes ", ") (word w ∷ mark 40 ∷ (ks ++ mark 44 ∷ [])) ls
    (mark 44) one g (λ rest. refl) comma_free in
    let front : List Token = (word w ∷ mark 40 ∷ (ks ++ mark 44 ∷ [])) ++ (ls ++ mark 44 ∷ []) in
    let three =
    then_ends (o ++ x ++ codes ", " ++ y ++ codes ", ") z (codes ")") front ms (mark 41) two h
    (λ rest. refl) close_free in
    let all : List ℕ = o ++ x ++ codes ", " ++ y ++ codes ", " ++ z ++ codes ")" in
    same_tokens all (front ++ (ms ++ mark 41 ∷ []))
    (word w ∷ mark 40 ∷ (ks ++ mark 44 ∷ (ls ++ mark 44 ∷ (ms ++ mark 41 ∷ []))))
    (ap (λ (l : List Token). word w ∷ mark 40 ∷ l) (simp append_assoc))
    (free_lexes all (front ++ (ms ++ mark 41 ∷ [])) three)

call_if : (c : Compare) (x y z v : List ℕ) (ks ls ms ns : List Token) → Lexes x ks → Lexes y ls
    → Lexes z ms → Lexes v ns
    → Lexes (codes "if(" ++ x ++ compare_text c ++ y ++ codes ", " ++ z ++ codes ", " ++ v
    ++ codes ")") (word (codes "if") ∷ mark 40
    ∷ (ks ++ compare_mark c ∷ (ls ++ mark 44 ∷ (ms ++ mark 44 ∷ (ns ++ mark 41 ∷ [])))))
call_if c x y z v ks ls ms ns f g h j =
    let w : List ℕ = codes "if" in
    let one =
    then_ends (codes "if(") x (compare_text c) (word w ∷ mark 40 ∷ []) ks (compare_mark c) if_free f
    (compare_off c) (compare_free c) in
    let two =
    then_ends (codes "if(" ++ x ++ compare_text c) y (codes ", ")
    (word w ∷ mark 40 ∷ (ks ++ compare_mark c ∷ [])) ls (mark 44) one g (λ rest. refl)
    comma_free in
    let front : List Token =
    (word w ∷ mark 40 ∷ (ks ++ compare_mark c ∷ [])) ++ (ls ++ mark 44 ∷ []) in
    let three =
    then_ends (codes "if(" ++ x ++ compare_text c ++ y ++ codes ", ") z (codes ", ") front ms
    (mark 44) two h (λ rest. refl) comma_free in
    let four =
    then_ends (codes "if(" ++ x ++ compare_text c ++ y ++ codes ", " ++ z ++ codes ", ") v
    (codes ")") (front ++ (ms ++ mark 44 ∷ [])) ns (mark 41) three j (λ rest. refl) close_free
    in
    let all : List ℕ =
    codes "if(" ++ x ++ compare_text c ++ y ++ codes ", " ++ z ++ codes ", " ++ v ++ codes ")" in
    same_tokens all ((front ++ (ms ++ mark 44 ∷ [])) ++ (ns ++ mark 41 ∷ []))
    (word (codes "if") ∷ mark 40
    ∷ (ks ++ compare_mark c ∷ (ls ++ mark 44 ∷ (ms ++ mark 44 ∷ (ns ++ mark 41 ∷ [])))))
    (ap (λ (l : List Token). word w ∷ mark 40 ∷ l) (simp append_assoc))
    (free_lexes all ((front ++ (ms ++ mark 44 ∷ [])) ++ (ns ++ mark 41 ∷ [])) four)

pub text_lexes : (s : Scope) (t : Tree) → HasForms s → IsPrintable s t
    → Lexes (text_of s.params t) (tokens_of s.params t)
text_lexes s (literal (pos n)) forms fine = decimal_lexes n (omega arith)
text_lexes s (literal (negsuc n)) forms fine =
    negative_lexes (decimal (suc n)) (suc n) (decimal_is (suc n) (omega arith))
text_lexes s (param k) forms fine = word_is (param_name s.params k) (forms.words k fine)
text_lexes s (val k) forms fine =
    lane_lexes (codes "val[") (codes "val") k val_free (let h = forms.lanes in omega arith)
text_lexes s outdeg forms fine = word_is (codes "outdeg") (search rules)
text_lexes s weight forms fine = word_is (codes "weight") (search rules)
text_lexes s attr forms fine = word_is (codes "attr") (search rules)
text_lexes s id forms fine = word_is (codes "id") (search rules)
text_lexes s (agg k) forms fine =
    lane_lexes (codes "agg[") (codes "agg") k agg_free (let h = forms.lanes in omega arith)
text_lexes s (old k) forms fine =
    lane_lexes (codes "old[") (codes "old") k old_free (let h = forms.lanes in omega arith)
text_lexes s (plus a b) forms fine =
    binary_lexes (in_parens (left_marked sums a) (text_of s.params a))
    (in_parens (right_marked sums b) (text_of s.params b)) (codes " + ")
    (in_marks (left_marked sums a) (tokens_of s.params a))
    (in_marks (right_marked sums b) (tokens_of s.params b)) (mark 43)
    (in_parens_lexes (left_marked sums a) (text_of s.params a) (tokens_of s.params a)
    (text_lexes s a forms fine.0))
    (in_parens_lexes (right_marked sums b) (text_of s.params b) (tokens_of s.params b)
    (text_lexes s b forms fine.1)) (λ rest. refl) plus_free
text_lexes s (minus a b) forms fine =
    binary_lexes (in_parens (left_marked sums a) (text_of s.params a))
    (in_parens (right_marked sums b) (text_of s.params b)) (codes " - ")
    (in_marks (left_marked sums a) (tokens_of s.params a))
    (in_marks (right_marked sums b) (tokens_of s.params b)) (dash None)
    (in_parens_lexes (left_marked sums a) (text_of s.params a) (tokens_of s.params a)
    (text_lexes s a forms fine.0))
    (in_parens_lexes (right_marked sums b) (text_of s.params b) (tokens_of s.params b)
    (text_lexes s b forms fine.1)) (λ rest. refl) minus_free
text_lexes s (times a b) forms fine =
    binary_lexes (in_parens (left_marked products a) (text_of s.params a))
    (in_parens (right_marked products b) (text_of s.params b)) (codes " * ")
    (in_marks (left_marked products a) (tokens_of s.params a))
    (in_marks (right_marked products b) (tokens_of s.params b)) (mark 42)
    (in_parens_lexes (left_marked products a) (text_of s.params a) (tokens_of s.params a)
    (text_lexes s a forms fine.0))
    (in_parens_lexes (right_marked products b) (text_of s.params b) (tokens_of s.params b)
    (text_lexes s b forms fine.1)) (λ rest. refl) times_free
text_lexes s (over a b) forms fine =
    binary_lexes (in_parens (left_marked products a) (text_of s.params a))
    (in_parens (right_marked products b) (text_of s.params b)) (codes " / ")
    (in_marks (left_marked products a) (tokens_of s.params a))
    (in_marks (right_marked products b) (tokens_of s.params b)) (mark 47)
    (in_parens_lexes (left_marked products a) (text_of s.params a) (tokens_of s.params a)
    (text_lexes s a forms fine.0))
    (in_parens_lexes (right_marked products b) (text_of s.params b) (tokens_of s.params b)
    (text_lexes s b forms fine.1)) (λ rest. refl) over_free
text_lexes s (least a b) forms fine =
    call_two (codes "min(") (codes "min") (text_of s.params a) (text_of s.params b)
    (tokens_of s.params a) (tokens_of s.params b) min_free (text_lexes s a forms fine.0)
    (text_lexes s b forms fine.1)
text_lexes s (greatest a b) forms fine =
    call_two (codes "max(") (codes "max") (text_of s.params a) (text_of s.params b)
    (tokens_of s.params a) (tokens_of s.params b) max_free (text_lexes s a forms fine.0)
    (text_lexes s b forms fine.1)
text_lexes s (clamp x a b) forms fine =
    call_three (codes "clamp(") (codes "clamp") (text_of s.params x) (text_of s.params a)
    (text_of s.params b) (tokens_of s.params x) (tokens_of s.params a) (tokens_of s.params b)
    clamp_free (text_lexes s x forms fine.0) (text_lexes s a forms fine.1)
    (text_lexes s b forms fine.2)
text_lexes s (choose c a b x y) forms fine =
    call_if c (text_of s.params a) (text_of s.params b) (text_of s.params x) (text_of s.params y)
    (tokens_of s.params a) (tokens_of s.params b) (tokens_of s.params x) (tokens_of s.params y)
    (text_lexes s a forms fine.0) (text_lexes s b forms fine.1) (text_lexes s x forms fine.2)
    (text_lexes s y forms fine.3)
