-- The canonical text of an expression, and its tokens.
use Rattle.std.specs.Prelude.{ℕ, pos, negsuc, suc, not, Bool, true, false, List, [], ◌∷◌, ◌++◌}
use Rattle.std.specs.Prelude.{Some, None, codes, decimal}
use Rattle.vertex_expr.specs.Tree.{Tree, literal, param, val, outdeg, weight, attr, id, agg, old}
use Rattle.vertex_expr.specs.Tree.{plus, minus, times, over, least, greatest, clamp, choose, Level}
use Rattle.vertex_expr.specs.Tree.{sums, products, operands, level}
use Rattle.vertex_expr.specs.Names.{param_name}
use Rattle.vertex_expr.specs.declared.expr.Compare.{Compare}
use Rattle.vertex_expr.specs.declared.expr.Compare.TheVariants.{Less, AtMost, Equal}
use Rattle.text_words.specs.Token.{Token, number, word, dash, mark}
use Rattle.expr_text.specs.Grammar.{compare_mark}

abbrev pub is_looser : Level → Level → Bool
is_looser sums sums = false
is_looser sums _ = true
is_looser products operands = true
is_looser products _ = false
is_looser operands _ = false

-- a left operand is in parentheses where its level is looser than its operator's, a right one where
-- its level isn't tighter
abbrev pub left_marked : Level → Tree → Bool
left_marked l t = is_looser (level t) l

abbrev pub right_marked : Level → Tree → Bool
right_marked l t = not (is_looser l (level t))

abbrev pub in_marks : Bool → List Token → List Token
in_marks true x = mark 40 ∷ (x ++ mark 41 ∷ [])
in_marks false x = x

abbrev pub lane_tokens : List ℕ → ℕ → List Token
lane_tokens w k = word w ∷ mark 91 ∷ number k ∷ mark 93 ∷ []

-- the tokens of the canonical text
abbrev pub tokens_of : List (List ℕ) → Tree → List Token
tokens_of ps (literal (pos n)) = number n ∷ []
tokens_of ps (literal (negsuc n)) = dash (Some (suc n)) ∷ number (suc n) ∷ []
tokens_of ps (param k) = word (param_name ps k) ∷ []
tokens_of ps (val k) = lane_tokens (codes "val") k
tokens_of ps outdeg = word (codes "outdeg") ∷ []
tokens_of ps weight = word (codes "weight") ∷ []
tokens_of ps attr = word (codes "attr") ∷ []
tokens_of ps id = word (codes "id") ∷ []
tokens_of ps (agg k) = lane_tokens (codes "agg") k
tokens_of ps (old k) = lane_tokens (codes "old") k
tokens_of ps (plus a b) =
    in_marks (left_marked sums a) (tokens_of ps a) ++ mark 43
    ∷ in_marks (right_marked sums b) (tokens_of ps b)
tokens_of ps (minus a b) =
    in_marks (left_marked sums a) (tokens_of ps a) ++ dash None
    ∷ in_marks (right_marked sums b) (tokens_of ps b)
tokens_of ps (times a b) =
    in_marks (left_marked products a) (tokens_of ps a) ++ mark 42
    ∷ in_marks (right_marked products b) (tokens_of ps b)
tokens_of ps (over a b) =
    in_marks (left_marked products a) (tokens_of ps a) ++ mark 47
    ∷ in_marks (right_marked products b) (tokens_of ps b)
tokens_of ps (least a b) =
    word (codes "min") ∷ mark 40 ∷ (tokens_of ps a ++ mark 44 ∷ (tokens_of ps b ++ mark 41 ∷ []))
tokens_of ps (greatest a b) =
    word (codes "max") ∷ mark 40 ∷ (tokens_of ps a ++ mark 44 ∷ (tokens_of ps b ++ mark 41 ∷ []))
tokens_of ps (clamp x a b) =
    word (codes "clamp") ∷ mark 40 ∷
    (tokens_of ps x ++ mark 44 ∷ (tokens_of ps a ++ mark 44 ∷ (tokens_of ps b ++ mark 41 ∷ [])))
tokens_of ps (choose c a b x y) =
    word (codes "if") ∷ mark 40 ∷ (tokens_of ps a ++ compare_mark c
    ∷ (tokens_of ps b ++ mark 44
    ∷ (tokens_of ps x ++ mark 44 ∷ (tokens_of ps y ++ mark 41 ∷ []))))

abbrev pub in_parens : Bool → List ℕ → List ℕ
in_parens true x = codes "(" ++ x ++ codes ")"
in_parens false x = x

abbrev pub compare_text : Compare → List ℕ
compare_text Less = codes " < "
compare_text AtMost = codes " <= "
compare_text Equal = codes " = "

-- the canonical text
abbrev pub text_of : List (List ℕ) → Tree → List ℕ
text_of ps (literal (pos n)) = decimal n
text_of ps (literal (negsuc n)) = 45 ∷ decimal (suc n)
text_of ps (param k) = param_name ps k
text_of ps (val k) = codes "val[" ++ decimal k ++ codes "]"
text_of ps outdeg = codes "outdeg"
text_of ps weight = codes "weight"
text_of ps attr = codes "attr"
text_of ps id = codes "id"
text_of ps (agg k) = codes "agg[" ++ decimal k ++ codes "]"
text_of ps (old k) = codes "old[" ++ decimal k ++ codes "]"
text_of ps (plus a b) =
    in_parens (left_marked sums a) (text_of ps a) ++ codes " + "
    ++ in_parens (right_marked sums b) (text_of ps b)
text_of ps (minus a b) =
    in_parens (left_marked sums a) (text_of ps a) ++ codes " - "
    ++ in_parens (right_marked sums b) (text_of ps b)
text_of ps (times a b) =
    in_parens (left_marked products a) (text_of ps a) ++ codes " * "
    ++ in_parens (right_marked products b) (text_of ps b)
text_of ps (over a b) =
    in_parens (left_marked products a) (text_of ps a) ++ codes " / "
    ++ in_parens (right_marked products b) (text_of ps b)
text_of ps (least a b) = codes "min(" ++ text_of ps a ++ codes ", " ++ text_of ps b ++ codes ")"
text_of ps (greatest a b) = codes "max(" ++ text_of ps a ++ codes ", " ++ text_of ps b ++ codes ")"
text_of ps (clamp x a b) =
    codes "clamp(" ++ text_of ps x ++ codes ", " ++ text_of ps a ++ codes ", " ++ text_of ps b
    ++ codes ")"
text_of ps (choose c a b x y) =
    codes "if(" ++ text_of ps a ++ compare_text c ++ text_of ps b ++ codes ", " ++ text_of ps x
    ++ codes ", " ++ text_of ps y ++ codes ")"
