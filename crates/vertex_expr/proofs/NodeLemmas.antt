-- What holds of each node.
use Rattle.std.proofs.Common.{◌≡◌, ℕ, ◌+◌, List, [], ◌∷◌, ◌++◌, length, arith, length-append}
use Rattle.std.specs.List.{All}
use Rattle.std.proofs.lemmas.List.Elements.{All-append, All-nil, All-cons, All-head, All-tail}
use Rattle.vertex_expr.specs.Tree.{Tree, nodes, literal, param, val, outdeg, weight, attr, id, agg}
use Rattle.vertex_expr.specs.Tree.{old, plus, minus, times, over, least, greatest, clamp, choose}
use Rattle.vertex_expr.specs.Safe.{EachNode, postorder}

-- two facts of each node make a third one
pub each_with : (P Q R : Tree → Type 0) → ((s : Tree) → P s → Q s → R s) → (t : Tree)
    → EachNode P t → EachNode Q t → EachNode R t
each_with P Q R f (literal x) p q = f (literal x) p q
each_with P Q R f (param k) p q = f (param k) p q
each_with P Q R f (val k) p q = f (val k) p q
each_with P Q R f outdeg p q = f outdeg p q
each_with P Q R f weight p q = f weight p q
each_with P Q R f attr p q = f attr p q
each_with P Q R f id p q = f id p q
each_with P Q R f (agg k) p q = f (agg k) p q
each_with P Q R f (old k) p q = f (old k) p q
each_with P Q R f (plus x y) p q = (
  each_with P Q R f x p.0 q.0,
  each_with P Q R f y p.1 q.1,
  f
      (plus x y) p.2 q.2,
)
each_with P Q R f (minus x y) p q = (
  each_with P Q R f x p.0 q.0,
  each_with P Q R f y p.1 q.1,
  f
      (minus x y) p.2 q.2,
)
each_with P Q R f (times x y) p q = (
  each_with P Q R f x p.0 q.0,
  each_with P Q R f y p.1 q.1,
  f
      (times x y) p.2 q.2,
)
each_with P Q R f (over x y) p q = (
  each_with P Q R f x p.0 q.0,
  each_with P Q R f y p.1 q.1,
  f
      (over x y) p.2 q.2,
)
each_with P Q R f (least x y) p q = (
  each_with P Q R f x p.0 q.0,
  each_with P Q R f y p.1 q.1,
  f
      (least x y) p.2 q.2,
)
each_with P Q R f (greatest x y) p q =
    (each_with P Q R f x p.0 q.0, each_with P Q R f y p.1 q.1, f (greatest x y) p.2 q.2)
each_with P Q R f (clamp x y z) p q = (
  each_with P Q R f x p.0 q.0,
  each_with P Q R f y p.1 q.1,
  each_with P Q R f z p.2 q.2,
  f
      (clamp x y z) p.3 q.3,
)
each_with P Q R f (choose c u v x y) p q = (
  each_with P Q R f u p.0 q.0,
  each_with P Q R f v p.1 q.1,
  each_with P Q R f x p.2 q.2,
  each_with P Q R f y p.3 q.3,
  f (choose c u v x y) p.4 q.4,
)

-- a fact of each node makes another one
pub each_then : (P Q : Tree → Type 0) → ((s : Tree) → P s → Q s) → (t : Tree) → EachNode P t
    → EachNode Q t
each_then P Q f t p = each_with P P Q (λ s a b. f s a) t p p

-- ---- lists

all_left : (P : Tree → Type 0) (xs ys : List Tree) → All P (xs ++ ys) → All P xs
all_left P [] ys h = All-nil P
all_left P (x ∷ xs) ys h = All-cons P x xs (All-head P x (xs ++ ys) h)
    (all_left P xs ys (All-tail P x (xs ++ ys) h))

all_right : (P : Tree → Type 0) (xs ys : List Tree) → All P (xs ++ ys) → All P ys
all_right P [] ys h = h
all_right P (x ∷ xs) ys h = all_right P xs ys (All-tail P x (xs ++ ys) h)

pub all_of_one : {X : Type 0} (P : X → Type 0) (x : X) → P x → All P (x ∷ [])
all_of_one P x p = All-cons P x [] p (All-nil P)

all_with_last : (P : Tree → Type 0) (xs : List Tree) (t : Tree) → All P xs → P t
    → All P (xs ++ t ∷ [])
all_with_last P xs t h p = All-append P xs (t ∷ []) h (all_of_one P t p)

last_of : (P : Tree → Type 0) (xs : List Tree) (t : Tree) → All P (xs ++ t ∷ []) → P t
last_of P xs t h = All-head P t [] (all_right P xs (t ∷ []) h)

-- it holds of each node just where it holds of all of them in their order
pub all_from_each : (P : Tree → Type 0) (t : Tree) → EachNode P t → All P (postorder t)
all_from_each P (literal x) h = all_of_one P _ h
all_from_each P (param k) h = all_of_one P _ h
all_from_each P (val k) h = all_of_one P _ h
all_from_each P outdeg h = all_of_one P _ h
all_from_each P weight h = all_of_one P _ h
all_from_each P attr h = all_of_one P _ h
all_from_each P id h = all_of_one P _ h
all_from_each P (agg k) h = all_of_one P _ h
all_from_each P (old k) h = all_of_one P _ h
all_from_each P (plus x y) h = all_with_last P _ _
    (All-append P _ _ (all_from_each P x h.0) (all_from_each P y h.1)) h.2
all_from_each P (minus x y) h = all_with_last P _ _
    (All-append P _ _ (all_from_each P x h.0) (all_from_each P y h.1)) h.2
all_from_each P (times x y) h = all_with_last P _ _
    (All-append P _ _ (all_from_each P x h.0) (all_from_each P y h.1)) h.2
all_from_each P (over x y) h = all_with_last P _ _
    (All-append P _ _ (all_from_each P x h.0) (all_from_each P y h.1)) h.2
all_from_each P (least x y) h = all_with_last P _ _
    (All-append P _ _ (all_from_each P x h.0) (all_from_each P y h.1)) h.2
all_from_each P (greatest x y) h = all_with_last P _ _
    (All-append P _ _ (all_from_each P x h.0) (all_from_each P y h.1)) h.2
all_from_each P (clamp x y z) h =
    all_with_last P _ _ (All-append P _ _ (All-append P _ _ (all_from_each P x h.0)
    (all_from_each P y h.1)) (all_from_each P z h.2)) h.3
all_from_each P (choose c u v x y) h =
    all_with_last P _ _ (All-append P _ _ (All-append P _ _
    (All-append P _ _ (all_from_each P u h.0) (all_from_each P v h.1)) (all_from_each P x h.2))
    (all_from_each P y h.3)) h.4

-- the same of two operands' nodes and the node behind them
two_from_all : (P : Tree → Type 0) (x y t : Tree) → (All P (postorder x) → EachNode P x)
    → (All P (postorder y) → EachNode P y)
    → All P (postorder x ++ postorder y ++ t ∷ []) → EachNode P x × EachNode P y × P t
two_from_all P x y t f g h =
    let before = all_left P (postorder x ++ postorder y) (t ∷ []) h in (
      f (all_left P (postorder x) (postorder y) before),
      g
          (all_right P (postorder x) (postorder y) before),
      last_of P (postorder x ++ postorder y) t
          h,
    )

pub each_from_all : (P : Tree → Type 0) (t : Tree) → All P (postorder t) → EachNode P t
each_from_all P (literal x) h = All-head P _ [] h
each_from_all P (param k) h = All-head P _ [] h
each_from_all P (val k) h = All-head P _ [] h
each_from_all P outdeg h = All-head P _ [] h
each_from_all P weight h = All-head P _ [] h
each_from_all P attr h = All-head P _ [] h
each_from_all P id h = All-head P _ [] h
each_from_all P (agg k) h = All-head P _ [] h
each_from_all P (old k) h = All-head P _ [] h
each_from_all P (plus x y) h = two_from_all P x y (plus x y) (each_from_all P x)
    (each_from_all P y) h
each_from_all P (minus x y) h = two_from_all P x y (minus x y) (each_from_all P x)
    (each_from_all P y) h
each_from_all P (times x y) h = two_from_all P x y (times x y) (each_from_all P x)
    (each_from_all P y) h
each_from_all P (over x y) h = two_from_all P x y (over x y) (each_from_all P x)
    (each_from_all P y) h
each_from_all P (least x y) h = two_from_all P x y (least x y) (each_from_all P x)
    (each_from_all P y) h
each_from_all P (greatest x y) h = two_from_all P x y (greatest x y) (each_from_all P x)
    (each_from_all P y) h
each_from_all P (clamp x y z) h =
    let three = all_left P (postorder x ++ postorder y ++ postorder z) (clamp x y z ∷ []) h in
    let two = all_left P (postorder x ++ postorder y) (postorder z) three in (
      each_from_all P x (all_left P (postorder x) (postorder y) two),
      each_from_all P y (all_right P (postorder x) (postorder y) two),
      each_from_all P z (all_right P (postorder x ++ postorder y) (postorder z) three),
      last_of P (postorder x ++ postorder y ++ postorder z) (clamp x y z) h,
    )
each_from_all P (choose c u v x y) h =
    let four = all_left P (postorder u ++ postorder v ++ postorder x ++ postorder y)
    (choose c u v x y ∷ []) h in
    let three = all_left P (postorder u ++ postorder v ++ postorder x) (postorder y) four in
    let two = all_left P (postorder u ++ postorder v) (postorder x) three in (
      each_from_all P u (all_left P (postorder u) (postorder v) two),
      each_from_all P v (all_right P (postorder u) (postorder v) two),
      each_from_all P x (all_right P (postorder u ++ postorder v) (postorder x) three),
      each_from_all P y (all_right P (postorder u ++ postorder v ++ postorder x) (postorder y)
          four),
      last_of P (postorder u ++ postorder v ++ postorder x ++ postorder y) (choose c u v x y) h,
    )

-- ---- how many nodes there are

two_count : (xs ys : List Tree) (t : Tree) (m n : ℕ) → length xs ≡ m → length ys ≡ n
    → length (xs ++ ys ++ t ∷ []) ≡ m + n + 1
two_count xs ys t m n e f = omega (
  arith,
  e,
  f,
  length-append (xs ++ ys) (t ∷ []),
  length-append xs
      ys,
)

pub length-postorder : (t : Tree) → length (postorder t) ≡ nodes t
length-postorder (plus x y) = two_count _ _ _ _ _ (length-postorder x) (length-postorder y)
length-postorder (minus x y) = two_count _ _ _ _ _ (length-postorder x) (length-postorder y)
length-postorder (times x y) = two_count _ _ _ _ _ (length-postorder x) (length-postorder y)
length-postorder (over x y) = two_count _ _ _ _ _ (length-postorder x) (length-postorder y)
length-postorder (least x y) = two_count _ _ _ _ _ (length-postorder x) (length-postorder y)
length-postorder (greatest x y) = two_count _ _ _ _ _ (length-postorder x) (length-postorder y)
length-postorder (clamp x y z) =
    omega (
      arith,
      length-postorder x,
      length-postorder y,
      length-postorder z,
      length-append (postorder x ++ postorder y ++ postorder z) (clamp x y z ∷ []),
      length-append (postorder x ++ postorder y) (postorder z),
      length-append (postorder x) (postorder y),
    )
length-postorder (choose c u v x y) =
    omega (
      arith,
      length-postorder u,
      length-postorder v,
      length-postorder x,
      length-postorder y,
      length-append (postorder u ++ postorder v ++ postorder x ++ postorder y)
          (choose c u v x y ∷ []),
      length-append (postorder u ++ postorder v ++ postorder x) (postorder y),
      length-append (postorder u ++ postorder v) (postorder x),
      length-append (postorder u) (postorder v),
    )
length-postorder (literal x) = omega arith
length-postorder (param k) = omega arith
length-postorder (val k) = omega arith
length-postorder outdeg = omega arith
length-postorder weight = omega arith
length-postorder attr = omega arith
length-postorder id = omega arith
length-postorder (agg k) = omega arith
length-postorder (old k) = omega arith
