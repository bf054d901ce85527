-- What the grammar spells is read.
use Rattle.std.proofs.Common.{◌≡◌, ℕ, ◌+◌, ◌<◌, ◌≤◌, true, cond, List, [], ◌∷◌, ◌++◌, length}
use Rattle.std.proofs.Common.{Option, Some, None, Result, Ok, Err, refl, ◌∙◌, ap, arith, pos}
use Rattle.std.specs.Prelude.{nat_lt, nat_le, neg_ℤ, ◌^◌}
use Rattle.std.proofs.lemmas.Bool.Decides.{nat_tests}
use Rattle.vertex_expr.specs.Tree.{Tree, literal, nodes, least, greatest, clamp, choose, Level}
use Rattle.vertex_expr.specs.Tree.{sums, products, operands}
use Rattle.vertex_expr.specs.declared.expr.Compare.{Compare}
use Rattle.vertex_expr.specs.declared.expr.Compare.TheVariants.{Less, AtMost, Equal}
use Rattle.text_words.specs.Token.{Token, number, word, dash, mark}
use Rattle.expr_text.specs.declared.reading.Cause.{Cause}
use Rattle.expr_text.specs.declared.reading.Cause.TheVariants.{TooBig}
use Rattle.expr_text.specs.declared.reading.Sign.{Sign}
use Rattle.expr_text.specs.declared.reading.Sign.TheVariants.{Plus, Minus}
use Rattle.expr_text.specs.declared.reading.Factor.{Factor}
use Rattle.expr_text.specs.declared.reading.Factor.TheVariants.{Times, Over}
use Rattle.expr_text.specs.declared.reading.Call.{Call}
use Rattle.expr_text.specs.declared.reading.Call.TheVariants.{Min, Max, Clamp, If}
use Rattle.expr_text.specs.declared.reading.Lane.{Lane}
use Rattle.expr_text.specs.declared.reading.Lane.TheVariants.{Val, Agg, Old}
use Rattle.expr_text.specs.declared.reading.Place.{Place}
use Rattle.expr_text.specs.declared.reading.Place.TheVariants.{Group, MinFirst, MinSecond, MaxFirst}
use Rattle.expr_text.specs.declared.reading.Place.TheVariants.{MaxSecond, ClampFirst, ClampSecond}
use Rattle.expr_text.specs.declared.reading.Place.TheVariants.{ClampThird, IfFirst, IfSecond}
use Rattle.expr_text.specs.declared.reading.Place.TheVariants.{IfThird, IfFourth}
use Rattle.expr_text.specs.declared.reading.Frame.{Frame}
use Rattle.expr_text.specs.declared.reading.Due.{Due}
use Rattle.expr_text.specs.declared.reading.Due.TheVariants.{Primary, Digits, OpenParen}
use Rattle.expr_text.specs.declared.reading.Due.TheVariants.{OpenBracket, Index, CloseBracket}
use Rattle.expr_text.specs.declared.reading.Due.TheVariants.{Operator}
use Rattle.expr_text.specs.declared.reading.Reading.{Reading}
use Rattle.vertex_expr.specs.Writable.{Scope}
use Rattle.expr_text.specs.Reading.{Meaning, meaning_of, leaf, lane, call, counted, taken}
use Rattle.expr_text.specs.Reading.{first_of, step, ◌>>=◌, named, lane_of, signed, scaled}
use Rattle.expr_text.specs.Reading.{product_of, factor_of, after_comma, closed}
use Rattle.expr_text.specs.Reading.{moved, shut}
use Rattle.expr_text.specs.Grammar.{go, IsSign, factor_mark, compare_mark, Spells, product, sum}
use Rattle.expr_text.specs.Grammar.{operand, multiple, numeral, negative, name, indexed, group}
use Rattle.expr_text.specs.Grammar.{least_call, greatest_call, clamp_call, choice}
use Rattle.expr_text.proofs.Runs.{go-append_to, go-cons, counted_ok, opened_ok}

abbrev pub frame : Place → Option (Sign × Tree) → Option (Factor × Tree) → Frame
frame p sm pr = record { place = p; sum = sm; product = pr }

abbrev pub at : ℕ → Frame → List Frame → Due → Reading
at n f fs d = record { nodes = n; top = f; below = fs; due = d }

-- a sum is read up to its last product
pub record Summed (s : Scope) (t : Tree) (x : List Token) (n : ℕ) (p : Place) (fs : List Frame)
    : Type 0 where
  pub before : Option (Sign × Tree)
  pub last : Tree
  pub run : go s (at n (frame p None None) fs Primary) x
      ≡ Ok (at (n + nodes t) (frame p before None) fs (Operator last))
  pub is : product_of before last ≡ t

-- reading the tokens gives the tree
abbrev pub Lands : Scope → ℕ → Level → Tree → List Token → Type 0
Lands s r sums t x =
    (n : ℕ) (p : Place) (fs : List Frame) → n + nodes t ≤ 256 → length fs + r ≤ 32
    → Summed s t x n p fs
Lands s r products t x =
    (n : ℕ) (p : Place) (sm : Option (Sign × Tree)) (fs : List Frame) → n + nodes t ≤ 256
    → length fs + r ≤ 32
    → go s (at n (frame p sm None) fs Primary) x
    ≡ Ok (at (n + nodes t) (frame p sm None) fs (Operator t))
Lands s r operands t x =
    (n : ℕ) (p : Place) (sm : Option (Sign × Tree)) (pr : Option (Factor × Tree)) (fs : List Frame)
    → n + nodes t ≤ 256 → length fs + r ≤ 32
    → go s (at n (frame p sm pr) fs Primary) x
    ≡ Ok (at (n + nodes t) (frame p sm None) fs (Operator (factor_of pr t)))

-- a counted step
counted_then : (r : Reading) (f : Reading → Result Reading Cause) → r.nodes < 256
    → (counted r >>= f) ≡ f (record r { nodes = r.nodes + 1 })
counted_then r f few = ap (λ (o : Result Reading Cause). o >>= f) (counted_ok r few)

sign_step : (s : Scope) (o : Sign) (k : Token) (n : ℕ) (p : Place) (sm : Option (Sign × Tree))
    (fs : List Frame) (last a : Tree) → IsSign o k → n < 256 → product_of sm last ≡ a
    → step s (at n (frame p sm None) fs (Operator last)) k
    ≡ Ok (at (n + 1) (frame p (Some (o, a)) None) fs Primary)
unfolding step
sign_step s Plus k n p sm fs last a isk few is =
    ap (step s (at n (frame p sm None) fs (Operator last))) isk
    ∙ counted_then (at n (frame p sm None) fs Primary)
    (λ q. Ok (record q {
      top = record q.top { sum = Some (Plus, product_of q.top.sum last) };
      due = Primary;
    })) few
    ∙ ap (λ (u : Tree). Ok (at (n + 1) (frame p (Some (Plus, u)) None) fs Primary)) is
sign_step s Minus k n p sm fs last a isk few is =
    ap (step s (at n (frame p sm None) fs (Operator last))) isk.1
    ∙ counted_then (at n (frame p sm None) fs Primary)
    (λ q. Ok (record q {
      top = record q.top { sum = Some (Minus, product_of q.top.sum last) };
      due = Primary;
    })) few
    ∙ ap (λ (u : Tree). Ok (at (n + 1) (frame p (Some (Minus, u)) None) fs Primary)) is

factor_step : (s : Scope) (f : Factor) (n : ℕ) (p : Place) (sm : Option (Sign × Tree))
    (fs : List Frame) (a : Tree) → n < 256
    → step s (at n (frame p sm None) fs (Operator a)) (factor_mark f)
    ≡ Ok (at (n + 1) (frame p sm (Some (f, a))) fs Primary)
unfolding step
factor_step s Times n p sm fs a few =
    counted_then (at n (frame p sm None) fs Primary)
    (λ q. Ok (record q { top = record q.top { product = Some (Times, a) }; due = Primary })) few
factor_step s Over n p sm fs a few =
    counted_then (at n (frame p sm None) fs Primary)
    (λ q. Ok (record q { top = record q.top { product = Some (Over, a) }; due = Primary })) few

comma_step : (s : Scope) (n : ℕ) (p q : Place) (sm : Option (Sign × Tree)) (fs : List Frame)
    (last a : Tree) → product_of sm last ≡ a → after_comma p a ≡ Some q
    → step s (at n (frame p sm None) fs (Operator last)) (mark 44)
    ≡ Ok (at n (frame q None None) fs Primary)
unfolding step
comma_step s n p q sm fs last a is e =
    let r = at n (frame p sm None) fs Primary in
    ap (λ (u : Tree). moved r (after_comma p u)) is ∙ ap (moved r) e

compare_step : (s : Scope) (o : Compare) (n : ℕ) (sm : Option (Sign × Tree)) (fs : List Frame)
    (last a : Tree) → product_of sm last ≡ a
    → step s (at n (frame IfFirst sm None) fs (Operator last)) (compare_mark o)
    ≡ Ok (at n (frame (IfSecond o a) None None) fs Primary)
unfolding step
compare_step s Less n sm fs last a is =
    ap (λ (u : Tree). Ok (at n (frame (IfSecond Less u) None None) fs Primary)) is
compare_step s AtMost n sm fs last a is =
    ap (λ (u : Tree). Ok (at n (frame (IfSecond AtMost u) None None) fs Primary)) is
compare_step s Equal n sm fs last a is =
    ap (λ (u : Tree). Ok (at n (frame (IfSecond Equal u) None None) fs Primary)) is

close_step : (s : Scope) (n : ℕ) (p : Place) (sm : Option (Sign × Tree)) (f : Frame)
    (fs : List Frame) (last a t : Tree) → product_of sm last ≡ a → closed p a ≡ Some t
    → step s (at n (frame p sm None) (f ∷ fs) (Operator last)) (mark 41)
    ≡ Ok (at n (frame f.place f.sum None) fs (Operator (factor_of f.product t)))
unfolding step
close_step s n p sm f fs last a t is e =
    let r = at n (frame p sm None) (f ∷ fs) Primary in
    ap (λ (u : Tree). shut r (closed p u)) is ∙ ap (shut r) e

nodes-signed : (o : Sign) (a b : Tree) → nodes (signed o a b) ≡ nodes a + nodes b + 1
nodes-signed Plus a b = refl
nodes-signed Minus a b = refl

nodes-scaled : (o : Factor) (a b : Tree) → nodes (scaled o a b) ≡ nodes a + nodes b + 1
nodes-scaled Times a b = refl
nodes-scaled Over a b = refl

moved_count : (m n : ℕ) (f : Frame) (fs : List Frame) (d : Due) (o : Result Reading Cause)
    → o ≡ Ok (at m f fs d) → m ≡ n → o ≡ Ok (at n f fs d)
moved_count m n f fs d o e h = e ∙ ap (λ k. Ok (at k f fs d)) h

sum_lands : (s : Scope) (r : ℕ) (o : Sign) (k : Token) (a b : Tree) (x y : List Token) → IsSign o k
    → Lands s r sums a x → Lands s r products b y → Lands s r sums (signed o a b) (x ++ k ∷ y)
sum_lands s r o k a b x y isk first second n p fs few room =
    let count : nodes (signed o a b) ≡ nodes a + nodes b + 1 = nodes-signed o a b in
    let one = first n p fs (omega arith) room in
    let two = second (n + nodes a + 1) p (Some (o, a)) fs (omega arith) room in
    record {
      before = Some (o, a);
      last = b;
      run = moved_count (n + nodes a + 1 + nodes b) (n + nodes (signed o a b)) _ _ _ _
          (go-append_to s _ _ x (k ∷ y) _ one.run
          (go-cons s _ _ k y _ (sign_step s o k (n + nodes a) p one.before fs one.last a isk
          (omega arith) one.is) two)) (omega arith);
      is = refl;
    }

multiple_lands : (s : Scope) (r : ℕ) (f : Factor) (a b : Tree) (x y : List Token)
    → Lands s r products a x → Lands s r operands b y
    → Lands s r products (scaled f a b) (x ++ factor_mark f ∷ y)
multiple_lands s r f a b x y first second n p sm fs few room =
    let count : nodes (scaled f a b) ≡ nodes a + nodes b + 1 = nodes-scaled f a b in
    let one = first n p sm fs (omega arith) room in
    let two = second (n + nodes a + 1) p sm (Some (f, a)) fs (omega arith) room in
    moved_count (n + nodes a + 1 + nodes b) (n + nodes (scaled f a b)) _ _ _ _
    (go-append_to s _ _ x (factor_mark f ∷ y) _ one
    (go-cons s _ _ (factor_mark f) y _ (factor_step s f (n + nodes a) p sm fs a (omega arith))
    two)) (omega arith)

nodes-lane : (l : Lane) (k : ℕ) → nodes (lane_of l k) ≡ 1
nodes-lane Val k = refl
nodes-lane Agg k = refl
nodes-lane Old k = refl

-- what a word that is a leaf, a lane or a call does
word_step : (s : Scope) (r : Reading) (w : List ℕ) (m : Meaning) (z : Result Reading Cause)
    → r.due ≡ Primary → meaning_of s w ≡ m → named (record r { due = Primary }) m ≡ z
    → step s r (word w) ≡ z
unfolding step
word_step s r w m z is e f =
    ap (λ (d : Due). Rattle.expr_text.specs.Reading.due_step s (record r { due = Primary }) d
    (word w)) is ∙ ap (named (record r { due = Primary })) e ∙ f

numeral_lands : (s : Scope) (r n : ℕ) → n < 2 ^ 63
    → Lands s r operands (literal (pos n)) (number n ∷ [])
unfolding step
numeral_lands s r m small n p sm pr fs few room =
    go-cons s (at n (frame p sm pr) fs Primary) _ (number m) [] _
    (counted_then (at n (frame p sm pr) fs Primary)
    (λ q. cond (nat_lt m (2 ^ 63)) (Ok (taken q (literal (pos m)))) (Err TooBig)) (omega arith)
    ∙ ap (λ b. cond b (Ok (taken (at (n + 1) (frame p sm pr) fs Primary) (literal (pos m))))
    (Err TooBig)) (on m small))
    refl
  where
    on : (m : ℕ) → m < 2 ^ 63 → nat_lt m (2 ^ 63) ≡ true
    on m small = grind (arith, nat_tests)

nodes-literal : (z : Rattle.std.specs.Prelude.ℤ) → nodes (literal z) ≡ 1
nodes-literal z = refl

negative_lands : (s : Scope) (r n : ℕ) → n ≤ 2 ^ 63
    → Lands s r operands (literal (neg_ℤ (pos n))) (dash (Some n) ∷ number n ∷ [])
unfolding step
negative_lands s r m small n p sm pr fs few room =
    go-cons s (at n (frame p sm pr) fs Primary)
    (at (n + 1) (frame p sm pr) fs (Digits (literal (neg_ℤ (pos m))))) (dash (Some m))
    (number m ∷ []) _
    (counted_then (at n (frame p sm pr) fs Primary)
    (λ q. cond (nat_le m (2 ^ 63)) (Ok (record q { due = Digits (literal (neg_ℤ (pos m))) }))
    (Err TooBig)) (omega arith)
    ∙ ap (λ b. cond b (Ok (at (n + 1) (frame p sm pr) fs (Digits (literal (neg_ℤ (pos m))))))
    (Err TooBig)) (on m small))
    (go-cons s (at (n + 1) (frame p sm pr) fs (Digits (literal (neg_ℤ (pos m))))) _ (number m) [] _
    refl refl)
  where
    on : (m : ℕ) → m ≤ 2 ^ 63 → nat_le m (2 ^ 63) ≡ true
    on m small = grind (arith, nat_tests)

name_lands : (s : Scope) (r : ℕ) (w : List ℕ) (t : Tree) → nodes t ≡ 1 → meaning_of s w ≡ leaf t
    → Lands s r operands t (word w ∷ [])
name_lands s r w t one e n p sm pr fs few room =
    moved_count (n + 1) (n + nodes t) _ _ _ _
    (go-cons s (at n (frame p sm pr) fs Primary) _ (word w) [] _
    (word_step s (at n (frame p sm pr) fs Primary) w (leaf t) _ refl e
    (counted_then (at n (frame p sm pr) fs Primary) (λ q. Ok (taken q t)) (omega arith))) refl)
    (omega arith)

indexed_lands : (s : Scope) (r : ℕ) (w : List ℕ) (l : Lane) (k : ℕ) → meaning_of s w ≡ lane l
    → k < s.lanes → Lands s r operands (lane_of l k) (word w ∷ mark 91 ∷ number k ∷ mark 93 ∷ [])
unfolding step
indexed_lands s r w l k e small n p sm pr fs few room =
    let one : nodes (lane_of l k) ≡ 1 = nodes-lane l k in
    moved_count (n + 1) (n + nodes (lane_of l k)) _ _ _ _
    (go-cons s (at n (frame p sm pr) fs Primary) (at (n + 1) (frame p sm pr) fs (OpenBracket l))
    (word w) (mark 91 ∷ number k ∷ mark 93 ∷ []) _
    (word_step s (at n (frame p sm pr) fs Primary) w (lane l) _ refl e
    (counted_then (at n (frame p sm pr) fs Primary) (λ q. Ok (record q { due = OpenBracket l }))
    (omega arith)))
    (go-cons s (at (n + 1) (frame p sm pr) fs (OpenBracket l))
    (at (n + 1) (frame p sm pr) fs (Index l)) (mark 91) (number k ∷ mark 93 ∷ []) _ refl
    (go-cons s (at (n + 1) (frame p sm pr) fs (Index l))
    (at (n + 1) (frame p sm pr) fs (CloseBracket (lane_of l k))) (number k) (mark 93 ∷ []) _
    (ap (λ b. cond b (Ok (at (n + 1) (frame p sm pr) fs (CloseBracket (lane_of l k)))) (Err TooBig))
    (on k s.lanes small))
    (go-cons s (at (n + 1) (frame p sm pr) fs (CloseBracket (lane_of l k))) _ (mark 93) [] _ refl
    refl))))
    (omega arith)
  where
    on : (k n : ℕ) → k < n → nat_lt k n ≡ true
    on k n small = grind (arith, nat_tests)

-- the open parenthesis of a call, behind its name
call_opens : (s : Scope) (n : ℕ) (f : Frame) (fs : List Frame) (w : List ℕ) (c : Call)
    (ks : List Token) (z : Result Reading Cause) → meaning_of s w ≡ call c → n < 256
    → length fs < 32
    → go s (at (n + 1) (frame (first_of c) None None) (f ∷ fs) Primary) ks ≡ z
    → go s (at n f fs Primary) (word w ∷ mark 40 ∷ ks) ≡ z
unfolding step
call_opens s n f fs w c ks z e few room next =
    go-cons s (at n f fs Primary) (at (n + 1) f fs (OpenParen c)) (word w) (mark 40 ∷ ks) z
    (word_step s (at n f fs Primary) w (call c) _ refl e
    (counted_then (at n f fs Primary) (λ q. Ok (record q { due = OpenParen c })) few))
    (go-cons s (at (n + 1) f fs (OpenParen c))
    (at (n + 1) (frame (first_of c) None None) (f ∷ fs) Primary) (mark 40) ks z
    (opened_ok (at (n + 1) f fs Primary) (first_of c) room) next)

group_opens : (s : Scope) (n : ℕ) (f : Frame) (fs : List Frame) (ks : List Token)
    (z : Result Reading Cause) → length fs < 32
    → go s (at n (frame Group None None) (f ∷ fs) Primary) ks ≡ z
    → go s (at n f fs Primary) (mark 40 ∷ ks) ≡ z
unfolding step
group_opens s n f fs ks z room next =
    go-cons s (at n f fs Primary) (at n (frame Group None None) (f ∷ fs) Primary) (mark 40) ks z
    (opened_ok (at n f fs Primary) Group room) next

-- an operand in parentheses and the comma behind it
then_comma : (s : Scope) (q : ℕ) (t : Tree) (x ks : List Token) (n : ℕ) (p p' : Place) (f : Frame)
    (fs : List Frame) (z : Result Reading Cause) → Lands s q sums t x → n + nodes t ≤ 256
    → length fs + 1 + q ≤ 32
    → after_comma p t ≡ Some p' → go s (at (n + nodes t) (frame p' None None) (f ∷ fs) Primary) ks
    ≡ z → go s (at n (frame p None None) (f ∷ fs) Primary) (x ++ mark 44 ∷ ks) ≡ z
then_comma s q t x ks n p p' f fs z lands few room e next =
    let one = lands n p (f ∷ fs) few (omega arith) in
    go-append_to s _ _ x (mark 44 ∷ ks) z one.run
    (go-cons s _ _ (mark 44) ks z
    (comma_step s (n + nodes t) p p' one.before (f ∷ fs) one.last t one.is e) next)

then_compare : (s : Scope) (q : ℕ) (o : Compare) (t : Tree) (x ks : List Token) (n : ℕ) (f : Frame)
    (fs : List Frame) (z : Result Reading Cause) → Lands s q sums t x → n + nodes t ≤ 256
    → length fs + 1 + q ≤ 32
    → go s (at (n + nodes t) (frame (IfSecond o t) None None) (f ∷ fs) Primary) ks ≡ z
    → go s (at n (frame IfFirst None None) (f ∷ fs) Primary) (x ++ compare_mark o ∷ ks) ≡ z
then_compare s q o t x ks n f fs z lands few room next =
    let one = lands n IfFirst (f ∷ fs) few (omega arith) in
    go-append_to s _ _ x (compare_mark o ∷ ks) z one.run
    (go-cons s _ _ (compare_mark o) ks z
    (compare_step s o (n + nodes t) one.before (f ∷ fs) one.last t one.is) next)

-- the last operand in parentheses and the parenthesis behind it
then_close : (s : Scope) (q : ℕ) (a t : Tree) (x : List Token) (n : ℕ) (p : Place) (f : Frame)
    (fs : List Frame) → Lands s q sums a x → n + nodes a ≤ 256 → length fs + 1 + q ≤ 32
    → closed p a ≡ Some t → go s (at n (frame p None None) (f ∷ fs) Primary) (x ++ mark 41 ∷ [])
    ≡ Ok (at (n + nodes a) (frame f.place f.sum None) fs (Operator (factor_of f.product t)))
then_close s q a t x n p f fs lands few room e =
    let one = lands n p (f ∷ fs) few (omega arith) in
    go-append_to s _ _ x (mark 41 ∷ []) _ one.run
    (go-cons s _ _ (mark 41) [] _
    (close_step s (n + nodes a) p one.before f fs one.last a t one.is e) refl)

-- what the grammar spells is read, within the limits
pub spelled_lands : (s : Scope) (r : ℕ) (l : Level) (t : Tree) (x : List Token) → Spells s r l t x
    → Lands s r l t x
spelled_lands s _ _ _ _ (product r t x d) =
    λ n p fs few room. record {
      before = None;
      last = t;
      run = spelled_lands s r products t x d n p
          None fs few room;
      is = refl;
    }
spelled_lands s _ _ _ _ (sum r o k a b x y isk da db) =
    sum_lands s r o k a b x y isk (spelled_lands s r sums a x da)
    (spelled_lands s r products b y db)
spelled_lands s _ _ _ _ (operand r t x d) =
    λ n p sm fs few room. spelled_lands s r operands t x d n p sm None fs few room
spelled_lands s _ _ _ _ (multiple r f a b x y da db) =
    multiple_lands s r f a b x y (spelled_lands s r products a x da)
    (spelled_lands s r operands b y db)
spelled_lands s _ _ _ _ (numeral r n small) = numeral_lands s r n small
spelled_lands s _ _ _ _ (negative r n small) = negative_lands s r n small
spelled_lands s _ _ _ _ (name r w t one e) = name_lands s r w t one e
spelled_lands s _ _ _ _ (indexed r w v k e small) = indexed_lands s r w v k e small
spelled_lands s _ _ _ _ (group q r t x less d) = λ n p sm pr fs few room.
    group_opens s n (frame p sm pr) fs _ _ (omega arith)
    (then_close s q t t x n Group (frame p sm pr) fs (spelled_lands s q sums t x d) few
    (omega arith) refl)
spelled_lands s _ _ _ _ (least_call q r w a b x y less e da db) = λ n p sm pr fs few room.
    moved_count (n + 1 + nodes a + nodes b) (n + nodes (least a b)) _ _ _ _
    (call_opens s n (frame p sm pr) fs w Min _ _ e (omega arith) (omega arith)
    (then_comma s q a x (y ++ mark 41 ∷ []) (n + 1) MinFirst (MinSecond a) (frame p sm pr) fs _
    (spelled_lands s q sums a x da) (omega arith) (omega arith) refl
    (then_close s q b (least a b) y (n + 1 + nodes a) (MinSecond a) (frame p sm pr) fs
    (spelled_lands s q sums b y db) (omega arith) (omega arith) refl)))
    (omega arith)
spelled_lands s _ _ _ _ (greatest_call q r w a b x y less e da db) = λ n p sm pr fs few room.
    moved_count (n + 1 + nodes a + nodes b) (n + nodes (greatest a b)) _ _ _ _
    (call_opens s n (frame p sm pr) fs w Max _ _ e (omega arith) (omega arith)
    (then_comma s q a x (y ++ mark 41 ∷ []) (n + 1) MaxFirst (MaxSecond a) (frame p sm pr) fs _
    (spelled_lands s q sums a x da) (omega arith) (omega arith) refl
    (then_close s q b (greatest a b) y (n + 1 + nodes a) (MaxSecond a) (frame p sm pr) fs
    (spelled_lands s q sums b y db) (omega arith) (omega arith) refl)))
    (omega arith)
spelled_lands s _ _ _ _ (clamp_call q r w a b c x y z less e da db dc) = λ n p sm pr fs few room.
    moved_count (n + 1 + nodes a + nodes b + nodes c) (n + nodes (clamp a b c)) _ _ _ _
    (call_opens s n (frame p sm pr) fs w Clamp _ _ e (omega arith) (omega arith)
    (then_comma s q a x (y ++ mark 44 ∷ (z ++ mark 41 ∷ [])) (n + 1) ClampFirst (ClampSecond a)
    (frame p sm pr) fs _ (spelled_lands s q sums a x da) (omega arith) (omega arith) refl
    (then_comma s q b y (z ++ mark 41 ∷ []) (n + 1 + nodes a) (ClampSecond a) (ClampThird a b)
    (frame p sm pr) fs _ (spelled_lands s q sums b y db) (omega arith) (omega arith) refl
    (then_close s q c (clamp a b c) z (n + 1 + nodes a + nodes b) (ClampThird a b) (frame p sm pr)
    fs (spelled_lands s q sums c z dc) (omega arith) (omega arith) refl))))
    (omega arith)
spelled_lands s _ _ _ _ (choice q r w o a b c d x y z v less e da db dc dd) =
    λ n p sm pr fs few room.
    moved_count (n + 1 + nodes a + nodes b + nodes c + nodes d) (n + nodes (choose o a b c d)) _ _ _
    _
    (call_opens s n (frame p sm pr) fs w If _ _ e (omega arith) (omega arith)
    (then_compare s q o a x (y ++ mark 44 ∷ (z ++ mark 44 ∷ (v ++ mark 41 ∷ []))) (n + 1)
    (frame p sm pr) fs _ (spelled_lands s q sums a x da) (omega arith) (omega arith)
    (then_comma s q b y (z ++ mark 44 ∷ (v ++ mark 41 ∷ [])) (n + 1 + nodes a) (IfSecond o a)
    (IfThird o a b) (frame p sm pr) fs _ (spelled_lands s q sums b y db) (omega arith)
    (omega arith) refl
    (then_comma s q c z (v ++ mark 41 ∷ []) (n + 1 + nodes a + nodes b) (IfThird o a b)
    (IfFourth o a b c) (frame p sm pr) fs _ (spelled_lands s q sums c z dc) (omega arith)
    (omega arith) refl
    (then_close s q d (choose o a b c d) v (n + 1 + nodes a + nodes b + nodes c) (IfFourth o a b c)
    (frame p sm pr) fs (spelled_lands s q sums d v dd) (omega arith) (omega arith) refl)))))
    (omega arith)
