-- The bytes of canonical texts.
use Rattle.std.proofs.Common.{ℕ, ◌^◌, ◌<◌, ◌≤◌, Bool, true, false, List, ◌++◌, refl, arith, pos}
use Rattle.std.proofs.Common.{negsuc, suc}
use Rattle.std.specs.Prelude.{codes, decimal}
use Rattle.vertex_expr.specs.Tree.{Tree, literal, param, val, outdeg, weight, attr, id, agg, old}
use Rattle.vertex_expr.specs.Tree.{plus, minus, times, over, least, greatest, clamp, choose, sums}
use Rattle.vertex_expr.specs.Tree.{products}
use Rattle.vertex_expr.specs.declared.expr.Compare.{Compare}
use Rattle.vertex_expr.specs.declared.expr.Compare.TheVariants.{Less, AtMost, Equal}
use Rattle.vertex_expr.specs.Names.{AreNames, param_name}
use Rattle.vertex_expr.specs.Writable.{Scope, IsPrintable}
use Rattle.expr_text.specs.Printing.{text_of, in_parens, left_marked, right_marked, compare_text}
use Rattle.text_words.proofs.Lexing.{Passes, passes-append}
use Rattle.text_words.proofs.PrintedLines.{is_printed, decimal_printed, name_printed}

-- these bytes are printed
abbrev pub Printed : List ℕ → Type 0
Printed x = Passes is_printed x

printed-append : (x y : List ℕ) → Printed x → Printed y → Printed (x ++ y)
printed-append x y h i = passes-append is_printed x y h i

in_parens_printed : (b : Bool) (x : List ℕ) → Printed x → Printed (in_parens b x)
in_parens_printed true x h = printed-append (codes "(" ++ x) (codes ")") (refl, h) (refl, tt)
in_parens_printed false x h = h

compare_printed : (o : Compare) → Printed (compare_text o)
compare_printed Less = (refl, (refl, (refl, tt)))
compare_printed AtMost = (refl, (refl, (refl, (refl, tt))))
compare_printed Equal = (refl, (refl, (refl, tt)))

-- two operands with what stands between them
printed_between : (x o y : List ℕ) → Printed x → Printed o → Printed y → Printed (x ++ o ++ y)
printed_between x o y h i j = printed-append (x ++ o) y (printed-append x o h i) j

comma_printed : Printed (codes ", ")
comma_printed = (refl, (refl, tt))

close_printed : Printed (codes ")")
close_printed = (refl, tt)

call_two : (o x y : List ℕ) → Printed o → Printed x → Printed y
    → Printed (o ++ x ++ codes ", " ++ y ++ codes ")")
call_two o x y h i j =
    printed-append (o ++ x ++ codes ", " ++ y) (codes ")")
    (printed_between (o ++ x) (codes ", ") y (printed-append o x h i) comma_printed j)
    close_printed

call_three : (o x y z : List ℕ) → Printed o → Printed x → Printed y → Printed z
    → Printed (o ++ x ++ codes ", " ++ y ++ codes ", " ++ z ++ codes ")")
call_three o x y z h i j k =
    printed-append (o ++ x ++ codes ", " ++ y ++ codes ", " ++ z) (codes ")")
    (printed_between (o ++ x ++ codes ", " ++ y) (codes ", ") z
    (printed_between (o ++ x) (codes ", ") y (printed-append o x h i) comma_printed j)
    comma_printed k) close_printed

call_if : (c : Compare) (x y z v : List ℕ) → Printed x → Printed y → Printed z → Printed v
    → Printed (codes "if(" ++ x ++ compare_text c ++ y ++ codes ", " ++ z ++ codes ", " ++ v
    ++ codes ")")
call_if c x y z v h i j k =
    let o = codes "if(" in
    let one : Printed (o ++ x) = printed-append o x (refl, (refl, (refl, tt))) h in
    let two : Printed (o ++ x ++ compare_text c ++ y) =
    printed_between (o ++ x) (compare_text c) y one (compare_printed c) i in
    let three : Printed (o ++ x ++ compare_text c ++ y ++ codes ", " ++ z) =
    printed_between (o ++ x ++ compare_text c ++ y) (codes ", ") z two comma_printed j in
    let four : Printed (o ++ x ++ compare_text c ++ y ++ codes ", " ++ z ++ codes ", " ++ v) =
    printed_between (o ++ x ++ compare_text c ++ y ++ codes ", " ++ z) (codes ", ") v three
    comma_printed k in
    printed-append (o ++ x ++ compare_text c ++ y ++ codes ", " ++ z ++ codes ", " ++ v) (codes ")")
    four close_printed

lane_printed : (o : List ℕ) (k : ℕ) → Printed o → k < 2 ^ 64 → Printed (o ++ decimal k ++ codes "]")
lane_printed o k h small =
    printed-append (o ++ decimal k) (codes "]")
    (printed-append o (decimal k) h (decimal_printed k small)) (refl, tt)

pub text_printed : (s : Scope) (t : Tree) → s.lanes ≤ 8 → AreNames s.params → IsPrintable s t
    → Printed (text_of s.params t)
text_printed s (literal (pos n)) few names fine = decimal_printed n (omega arith)
text_printed s (literal (negsuc n)) few names fine = (refl, decimal_printed (suc n) (omega arith))
text_printed s (param k) few names fine = name_printed (param_name s.params k) (names.form k fine)
text_printed s (val k) few names fine =
    lane_printed (codes "val[") k (refl, (refl, (refl, (refl, tt)))) (omega arith)
text_printed s outdeg few names fine = (refl, (refl, (refl, (refl, (refl, (refl, tt))))))
text_printed s weight few names fine = (refl, (refl, (refl, (refl, (refl, (refl, tt))))))
text_printed s attr few names fine = (refl, (refl, (refl, (refl, tt))))
text_printed s id few names fine = (refl, (refl, tt))
text_printed s (agg k) few names fine =
    lane_printed (codes "agg[") k (refl, (refl, (refl, (refl, tt)))) (omega arith)
text_printed s (old k) few names fine =
    lane_printed (codes "old[") k (refl, (refl, (refl, (refl, tt)))) (omega arith)
text_printed s (plus a b) few names fine =
    printed_between (in_parens (left_marked sums a) (text_of s.params a)) (codes " + ")
    (in_parens (right_marked sums b) (text_of s.params b))
    (in_parens_printed (left_marked sums a) (text_of s.params a)
    (text_printed s a few names fine.0)) (refl, (refl, (refl, tt)))
    (in_parens_printed (right_marked sums b) (text_of s.params b)
    (text_printed s b few names fine.1))
text_printed s (minus a b) few names fine =
    printed_between (in_parens (left_marked sums a) (text_of s.params a)) (codes " - ")
    (in_parens (right_marked sums b) (text_of s.params b))
    (in_parens_printed (left_marked sums a) (text_of s.params a)
    (text_printed s a few names fine.0)) (refl, (refl, (refl, tt)))
    (in_parens_printed (right_marked sums b) (text_of s.params b)
    (text_printed s b few names fine.1))
text_printed s (times a b) few names fine =
    printed_between (in_parens (left_marked products a) (text_of s.params a)) (codes " * ")
    (in_parens (right_marked products b) (text_of s.params b))
    (in_parens_printed (left_marked products a) (text_of s.params a)
    (text_printed s a few names fine.0)) (refl, (refl, (refl, tt)))
    (in_parens_printed (right_marked products b) (text_of s.params b)
    (text_printed s b few names fine.1))
text_printed s (over a b) few names fine =
    printed_between (in_parens (left_marked products a) (text_of s.params a)) (codes " / ")
    (in_parens (right_marked products b) (text_of s.params b))
    (in_parens_printed (left_marked products a) (text_of s.params a)
    (text_printed s a few names fine.0)) (refl, (refl, (refl, tt)))
    (in_parens_printed (right_marked products b) (text_of s.params b)
    (text_printed s b few names fine.1))
text_printed s (least a b) few names fine =
    call_two (codes "min(") (text_of s.params a) (text_of s.params b)
    (refl, (refl, (refl, (refl, tt)))) (text_printed s a few names fine.0)
    (text_printed s b few names fine.1)
text_printed s (greatest a b) few names fine =
    call_two (codes "max(") (text_of s.params a) (text_of s.params b)
    (refl, (refl, (refl, (refl, tt)))) (text_printed s a few names fine.0)
    (text_printed s b few names fine.1)
text_printed s (clamp x a b) few names fine =
    call_three (codes "clamp(") (text_of s.params x) (text_of s.params a) (text_of s.params b)
    (refl, (refl, (refl, (refl, (refl, (refl, tt)))))) (text_printed s x few names fine.0)
    (text_printed s a few names fine.1) (text_printed s b few names fine.2)
text_printed s (choose c a b x y) few names fine =
    call_if c (text_of s.params a) (text_of s.params b) (text_of s.params x) (text_of s.params y)
    (text_printed s a few names fine.0) (text_printed s b few names fine.1)
    (text_printed s x few names fine.2) (text_printed s y few names fine.3)
