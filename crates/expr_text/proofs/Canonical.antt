-- The tokens of the canonical text are spelled by the grammar.
use Rattle.std.proofs.Common.{◌≡◌, ℕ, ◌+◌, ◌<◌, ◌≤◌, List, [], ◌∷◌, ◌++◌, length, None, refl, ap}
use Rattle.std.proofs.Common.{arith, pos, negsuc, suc, ◌-◌}
use Rattle.std.specs.Prelude.{not, codes}
use Rattle.vertex_expr.specs.Tree.{Tree, depth, literal, param, val, outdeg, weight, attr, id, agg}
use Rattle.vertex_expr.specs.Tree.{old, plus, minus, times, over, least, greatest, clamp, choose}
use Rattle.vertex_expr.specs.Tree.{Level, sums, products, operands, level}
use Rattle.text_words.specs.Token.{Token, dash, mark}
use Rattle.vertex_expr.specs.declared.expr.Part.{Part}
use Rattle.vertex_expr.specs.declared.expr.Part.TheVariants.{Contribute, Apply}
use Rattle.expr_text.specs.declared.reading.Sign.TheVariants.{Plus, Minus}
use Rattle.expr_text.specs.declared.reading.Factor.TheVariants.{Times, Over}
use Rattle.expr_text.specs.declared.reading.Call.TheVariants.{Min, Max, Clamp, If}
use Rattle.expr_text.specs.declared.reading.Lane.TheVariants.{Val, Agg, Old}
use Rattle.vertex_expr.specs.Writable.{Scope, IsPrintable}
use Rattle.expr_text.specs.Reading.{meaning_of, leaf, lane, call, in_contribute, in_apply}
use Rattle.expr_text.specs.Grammar.{Spells, product, sum, operand, multiple, numeral, negative}
use Rattle.expr_text.specs.Grammar.{name, indexed, group, least_call, greatest_call, clamp_call}
use Rattle.expr_text.specs.Grammar.{choice}
use Rattle.expr_text.specs.Printing.{is_looser, tokens_of, in_marks}
use Rattle.vertex_expr.specs.Names.{param_name}

-- each param is called by its name
pub record HasNames (s : Scope) : Type 0 where
  pub means : (k : ℕ) → k < length s.params → meaning_of s (param_name s.params k) ≡ leaf (param k)

val_means : (s : Scope) → s.part ≡ Contribute → meaning_of s (codes "val") ≡ lane Val
unfolding meaning_of
val_means s e = ap (λ (p : Part). in_contribute p (lane Val)) e

outdeg_means : (s : Scope) → s.part ≡ Contribute → meaning_of s (codes "outdeg") ≡ leaf outdeg
unfolding meaning_of
outdeg_means s e = ap (λ (p : Part). in_contribute p (leaf outdeg)) e

weight_means : (s : Scope) → s.part ≡ Contribute → meaning_of s (codes "weight") ≡ leaf weight
unfolding meaning_of
weight_means s e = ap (λ (p : Part). in_contribute p (leaf weight)) e

agg_means : (s : Scope) → s.part ≡ Apply → meaning_of s (codes "agg") ≡ lane Agg
unfolding meaning_of
agg_means s e = ap (λ (p : Part). in_apply p (lane Agg)) e

old_means : (s : Scope) → s.part ≡ Apply → meaning_of s (codes "old") ≡ lane Old
unfolding meaning_of
old_means s e = ap (λ (p : Part). in_apply p (lane Old)) e

attr_means : (s : Scope) → meaning_of s (codes "attr") ≡ leaf attr
unfolding meaning_of
attr_means s = refl

id_means : (s : Scope) → meaning_of s (codes "id") ≡ leaf id
unfolding meaning_of
id_means s = refl

min_means : (s : Scope) → meaning_of s (codes "min") ≡ call Min
unfolding meaning_of
min_means s = refl

max_means : (s : Scope) → meaning_of s (codes "max") ≡ call Max
unfolding meaning_of
max_means s = refl

clamp_means : (s : Scope) → meaning_of s (codes "clamp") ≡ call Clamp
unfolding meaning_of
clamp_means s = refl

if_means : (s : Scope) → meaning_of s (codes "if") ≡ call If
unfolding meaning_of
if_means s = refl

pub as_sum : {s : Scope} (l : Level) (r : ℕ) (t : Tree) (x : List Token) → Spells s r l t x
    → Spells s r sums t x
as_sum sums r t x d = d
as_sum products r t x d = product r t x d
as_sum operands r t x d = product r t x (operand r t x d)

left_of_sum : {s : Scope} (l : Level) (r : ℕ) (t : Tree) (x : List Token) → Spells s r l t x
    → Spells s r sums t (in_marks (is_looser l sums) x)
left_of_sum sums r t x d = d
left_of_sum products r t x d = product r t x d
left_of_sum operands r t x d = product r t x (operand r t x d)

right_of_sum : {s : Scope} (l : Level) (q r : ℕ) (t : Tree) (x : List Token) → q < r
    → Spells s q l t x → Spells s r l t x
    → Spells s r products t (in_marks (not (is_looser sums l)) x)
right_of_sum sums q r t x less inner outer =
    operand r t (mark 40 ∷ (x ++ mark 41 ∷ [])) (group q r t x less inner)
right_of_sum products q r t x less inner outer = outer
right_of_sum operands q r t x less inner outer = operand r t x outer

left_of_product : {s : Scope} (l : Level) (q r : ℕ) (t : Tree) (x : List Token) → q < r
    → Spells s q l t x → Spells s r l t x
    → Spells s r products t (in_marks (is_looser l products) x)
left_of_product sums q r t x less inner outer =
    operand r t (mark 40 ∷ (x ++ mark 41 ∷ [])) (group q r t x less inner)
left_of_product products q r t x less inner outer = outer
left_of_product operands q r t x less inner outer = operand r t x outer

right_of_product : {s : Scope} (l : Level) (q r : ℕ) (t : Tree) (x : List Token) → q < r
    → Spells s q l t x → Spells s r l t x
    → Spells s r operands t (in_marks (not (is_looser products l)) x)
right_of_product sums q r t x less inner outer = group q r t x less inner
right_of_product products q r t x less inner outer = group q r t x less (product q t x inner)
right_of_product operands q r t x less inner outer = outer

depth_some : (t : Tree) → 1 ≤ depth t
depth_some (literal z) = omega arith
depth_some (param k) = omega arith
depth_some (val k) = omega arith
depth_some outdeg = omega arith
depth_some weight = omega arith
depth_some attr = omega arith
depth_some id = omega arith
depth_some (agg k) = omega arith
depth_some (old k) = omega arith
depth_some (plus a b) = omega arith
depth_some (minus a b) = omega arith
depth_some (times a b) = omega arith
depth_some (over a b) = omega arith
depth_some (least a b) = omega arith
depth_some (greatest a b) = omega arith
depth_some (clamp x a b) = omega arith
depth_some (choose c a b x y) = omega arith

-- the canonical tokens, at the tree's own level
pub canonical_spelled : (s : Scope) (t : Tree) → HasNames s → IsPrintable s t → (r : ℕ)
    → depth t ≤ r + 1 → Spells s r (level t) t (tokens_of s.params t)
canonical_spelled s (literal (pos n)) names fine r deep = numeral r n fine
canonical_spelled s (literal (negsuc n)) names fine r deep = negative r (suc n) fine
canonical_spelled s (param k) names fine r deep =
    name r (param_name s.params k) (param k) refl (names.means k fine)
canonical_spelled s (val k) names fine r deep =
    indexed r (codes "val") Val k (val_means s fine.0) fine.1
canonical_spelled s outdeg names fine r deep =
    name r (codes "outdeg") outdeg refl (outdeg_means s fine)
canonical_spelled s weight names fine r deep =
    name r (codes "weight") weight refl (weight_means s fine)
canonical_spelled s attr names fine r deep = name r (codes "attr") attr refl (attr_means s)
canonical_spelled s id names fine r deep = name r (codes "id") id refl (id_means s)
canonical_spelled s (agg k) names fine r deep =
    indexed r (codes "agg") Agg k (agg_means s fine.0) fine.1
canonical_spelled s (old k) names fine r deep =
    indexed r (codes "old") Old k (old_means s fine.0) fine.1
canonical_spelled s (plus a b) names fine r deep =
    let some : 1 ≤ depth b = depth_some b in
    sum r Plus (mark 43) a b _ _ refl
    (left_of_sum (level a) r a _ (canonical_spelled s a names fine.0 r (omega arith)))
    (right_of_sum (level b) (r - 1) r b _ (omega arith)
    (canonical_spelled s b names fine.1 (r - 1) (omega arith))
    (canonical_spelled s b names fine.1 r (omega arith)))
canonical_spelled s (minus a b) names fine r deep =
    let some : 1 ≤ depth b = depth_some b in
    sum r Minus (dash None) a b _ _ (None, refl)
    (left_of_sum (level a) r a _ (canonical_spelled s a names fine.0 r (omega arith)))
    (right_of_sum (level b) (r - 1) r b _ (omega arith)
    (canonical_spelled s b names fine.1 (r - 1) (omega arith))
    (canonical_spelled s b names fine.1 r (omega arith)))
canonical_spelled s (times a b) names fine r deep =
    let some : 1 ≤ depth b = depth_some b in
    let first : 1 ≤ depth a = depth_some a in
    multiple r Times a b _ _
    (left_of_product (level a) (r - 1) r a _ (omega arith)
    (canonical_spelled s a names fine.0 (r - 1) (omega arith))
    (canonical_spelled s a names fine.0 r (omega arith)))
    (right_of_product (level b) (r - 1) r b _ (omega arith)
    (canonical_spelled s b names fine.1 (r - 1) (omega arith))
    (canonical_spelled s b names fine.1 r (omega arith)))
canonical_spelled s (over a b) names fine r deep =
    let some : 1 ≤ depth b = depth_some b in
    let first : 1 ≤ depth a = depth_some a in
    multiple r Over a b _ _
    (left_of_product (level a) (r - 1) r a _ (omega arith)
    (canonical_spelled s a names fine.0 (r - 1) (omega arith))
    (canonical_spelled s a names fine.0 r (omega arith)))
    (right_of_product (level b) (r - 1) r b _ (omega arith)
    (canonical_spelled s b names fine.1 (r - 1) (omega arith))
    (canonical_spelled s b names fine.1 r (omega arith)))
canonical_spelled s (least a b) names fine r deep =
    let some : 1 ≤ depth b = depth_some b in
    let first : 1 ≤ depth a = depth_some a in
    least_call (r - 1) r (codes "min") a b _ _ (omega arith) (min_means s)
    (as_sum (level a) (r - 1) a _ (canonical_spelled s a names fine.0 (r - 1) (omega arith)))
    (as_sum (level b) (r - 1) b _ (canonical_spelled s b names fine.1 (r - 1) (omega arith)))
canonical_spelled s (greatest a b) names fine r deep =
    let some : 1 ≤ depth b = depth_some b in
    let first : 1 ≤ depth a = depth_some a in
    greatest_call (r - 1) r (codes "max") a b _ _ (omega arith) (max_means s)
    (as_sum (level a) (r - 1) a _ (canonical_spelled s a names fine.0 (r - 1) (omega arith)))
    (as_sum (level b) (r - 1) b _ (canonical_spelled s b names fine.1 (r - 1) (omega arith)))
canonical_spelled s (clamp x a b) names fine r deep =
    let some : 1 ≤ depth x = depth_some x in
    let first : 1 ≤ depth a = depth_some a in
    let last : 1 ≤ depth b = depth_some b in
    clamp_call (r - 1) r (codes "clamp") x a b _ _ _ (omega arith) (clamp_means s)
    (as_sum (level x) (r - 1) x _ (canonical_spelled s x names fine.0 (r - 1) (omega arith)))
    (as_sum (level a) (r - 1) a _ (canonical_spelled s a names fine.1 (r - 1) (omega arith)))
    (as_sum (level b) (r - 1) b _ (canonical_spelled s b names fine.2 (r - 1) (omega arith)))
canonical_spelled s (choose c a b x y) names fine r deep =
    let some : 1 ≤ depth x = depth_some x in
    let first : 1 ≤ depth a = depth_some a in
    let second : 1 ≤ depth b = depth_some b in
    let last : 1 ≤ depth y = depth_some y in
    choice (r - 1) r (codes "if") c a b x y _ _ _ _ (omega arith) (if_means s)
    (as_sum (level a) (r - 1) a _ (canonical_spelled s a names fine.0 (r - 1) (omega arith)))
    (as_sum (level b) (r - 1) b _ (canonical_spelled s b names fine.1 (r - 1) (omega arith)))
    (as_sum (level x) (r - 1) x _ (canonical_spelled s x names fine.2 (r - 1) (omega arith)))
    (as_sum (level y) (r - 1) y _ (canonical_spelled s y names fine.3 (r - 1) (omega arith)))
