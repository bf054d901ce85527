-- What was read of an expression, as the grammar spells it.
use Rattle.std.proofs.Common.{◌≡◌, ℕ, ◌+◌, ◌<◌, ◌≤◌, List, [], ◌∷◌, ◌++◌, length, Option, Some}
use Rattle.std.proofs.Common.{None, Result, Ok, Err, suc, pos}
use Rattle.std.specs.Prelude.{neg_ℤ, ◌^◌}
use Rattle.vertex_expr.specs.Tree.{Tree, literal, sums, products}
use Rattle.text_words.specs.Token.{Token, number, word, dash, mark}
use Rattle.expr_text.specs.declared.reading.Cause.{Cause}
use Rattle.expr_text.specs.declared.reading.Sign.{Sign}
use Rattle.expr_text.specs.declared.reading.Factor.{Factor}
use Rattle.expr_text.specs.declared.reading.Call.TheVariants.{Min, Max, Clamp, If}
use Rattle.expr_text.specs.declared.reading.Lane.{Lane}
use Rattle.expr_text.specs.declared.reading.Place.{Place}
use Rattle.expr_text.specs.declared.reading.Place.TheVariants.{Whole, Group, MinFirst, MinSecond}
use Rattle.expr_text.specs.declared.reading.Place.TheVariants.{MaxFirst, MaxSecond, ClampFirst}
use Rattle.expr_text.specs.declared.reading.Place.TheVariants.{ClampSecond, ClampThird, IfFirst}
use Rattle.expr_text.specs.declared.reading.Place.TheVariants.{IfSecond, IfThird, IfFourth}
use Rattle.expr_text.specs.declared.reading.Frame.{Frame}
use Rattle.expr_text.specs.declared.reading.Due.{Due}
use Rattle.expr_text.specs.declared.reading.Due.TheVariants.{Primary, Digits, OpenParen}
use Rattle.expr_text.specs.declared.reading.Due.TheVariants.{OpenBracket, Index, CloseBracket}
use Rattle.expr_text.specs.declared.reading.Due.TheVariants.{Operator}
use Rattle.expr_text.specs.declared.reading.Reading.{Reading}
use Rattle.vertex_expr.specs.Writable.{Scope}
use Rattle.expr_text.specs.Reading.{meaning_of, lane, call, lane_of}
use Rattle.expr_text.specs.Grammar.{IsSign, factor_mark, compare_mark, Spells}

-- the left operand of a sum that is read, with its sign
abbrev pub SumSpelled : Scope → ℕ → Option (Sign × Tree) → List Token → Type 0
SumSpelled s r None x = x ≡ []
SumSpelled s r (Some p) x =
    (y : List Token) × (k : Token) × IsSign p.0 k × Spells s r sums p.1 y × (x ≡ y ++ k ∷ [])

-- and of a product
abbrev pub ProductSpelled : Scope → ℕ → Option (Factor × Tree) → List Token → Type 0
ProductSpelled s r None x = x ≡ []
ProductSpelled s r (Some p) x =
    (y : List Token) × Spells s r products p.1 y × (x ≡ y ++ factor_mark p.0 ∷ [])

-- what stands before the operand of a parenthesis that is read
abbrev pub PlaceSpelled : Scope → ℕ → Place → List Token → Type 0
PlaceSpelled s r Whole x = ⊥
PlaceSpelled s r Group x = x ≡ mark 40 ∷ []
PlaceSpelled s r MinFirst x =
    (w : List ℕ) × (meaning_of s w ≡ call Min) × (x ≡ word w ∷ mark 40 ∷ [])
PlaceSpelled s r (MinSecond a) x =
    (w : List ℕ) × (meaning_of s w ≡ call Min) × (y : List Token) × Spells s r sums a y
    × (x ≡ word w ∷ mark 40 ∷ (y ++ mark 44 ∷ []))
PlaceSpelled s r MaxFirst x =
    (w : List ℕ) × (meaning_of s w ≡ call Max) × (x ≡ word w ∷ mark 40 ∷ [])
PlaceSpelled s r (MaxSecond a) x =
    (w : List ℕ) × (meaning_of s w ≡ call Max) × (y : List Token) × Spells s r sums a y
    × (x ≡ word w ∷ mark 40 ∷ (y ++ mark 44 ∷ []))
PlaceSpelled s r ClampFirst x =
    (w : List ℕ) × (meaning_of s w ≡ call Clamp) × (x ≡ word w ∷ mark 40 ∷ [])
PlaceSpelled s r (ClampSecond a) x =
    (w : List ℕ) × (meaning_of s w ≡ call Clamp) × (y : List Token) × Spells s r sums a y
    × (x ≡ word w ∷ mark 40 ∷ (y ++ mark 44 ∷ []))
PlaceSpelled s r (ClampThird a b) x =
    (w : List ℕ) × (meaning_of s w ≡ call Clamp) × (y : List Token) × Spells s r sums a y
    × (z : List Token) × Spells s r sums b z
    × (x ≡ word w ∷ mark 40 ∷ (y ++ mark 44 ∷ (z ++ mark 44 ∷ [])))
PlaceSpelled s r IfFirst x = (w : List ℕ) × (meaning_of s w ≡ call If) × (x ≡ word w ∷ mark 40 ∷ [])
PlaceSpelled s r (IfSecond o a) x =
    (w : List ℕ) × (meaning_of s w ≡ call If) × (y : List Token) × Spells s r sums a y
    × (x ≡ word w ∷ mark 40 ∷ (y ++ compare_mark o ∷ []))
PlaceSpelled s r (IfThird o a b) x =
    (w : List ℕ) × (meaning_of s w ≡ call If) × (y : List Token) × Spells s r sums a y
    × (z : List Token) × Spells s r sums b z
    × (x ≡ word w ∷ mark 40 ∷ (y ++ compare_mark o ∷ (z ++ mark 44 ∷ [])))
PlaceSpelled s r (IfFourth o a b c) x =
    (w : List ℕ) × (meaning_of s w ≡ call If) × (y : List Token) × Spells s r sums a y
    × (z : List Token) × Spells s r sums b z × (v : List Token) × Spells s r sums c v
    × (x ≡ word w ∷ mark 40 ∷ (y ++ compare_mark o ∷ (z ++ mark 44 ∷ (v ++ mark 44 ∷ []))))

-- what stands before a frame's own tokens
abbrev pub OuterSpelled : Scope → ℕ → Place → List Frame → List Token → Type 0
OuterSpelled s r p [] x = (p ≡ Whole) × (x ≡ [])
OuterSpelled s r p (g ∷ gs) x =
    (o a b z : List Token) × OuterSpelled s (suc r) g.place gs o × SumSpelled s (suc r) g.sum a
    × ProductSpelled s (suc r) g.product b × PlaceSpelled s r p z × (x ≡ o ++ (a ++ (b ++ z)))

-- all tokens that were read, up to where an operand begins
pub record OpenSpelled (s : Scope) (r : ℕ) (p : Place) (sm : Option (Sign × Tree))
    (pr : Option (Factor × Tree)) (fs : List Frame) (x : List Token) : Type 0 where
  pub outer : List Token
  pub left : List Token
  pub factor : List Token
  pub outer_spelled : OuterSpelled s r p fs outer
  pub left_spelled : SumSpelled s r sm left
  pub factor_spelled : ProductSpelled s r pr factor
  pub all : x ≡ outer ++ (left ++ factor)

-- what was read of an operand where this is due
abbrev pub DueSpelled : Scope → ℕ → Due → List Token → Type 0
DueSpelled s r Primary x = x ≡ []
DueSpelled s r (Digits t) x =
    (n : ℕ) × (n ≤ 2 ^ 63) × (t ≡ literal (neg_ℤ (pos n))) × (x ≡ dash (Some n) ∷ [])
DueSpelled s r (OpenParen c) x = (w : List ℕ) × (meaning_of s w ≡ call c) × (x ≡ word w ∷ [])
DueSpelled s r (OpenBracket l) x = (w : List ℕ) × (meaning_of s w ≡ lane l) × (x ≡ word w ∷ [])
DueSpelled s r (Index l) x = (w : List ℕ) × (meaning_of s w ≡ lane l) × (x ≡ word w ∷ mark 91 ∷ [])
DueSpelled s r (CloseBracket t) x =
    (w : List ℕ) × (l : Lane) × (k : ℕ) × (meaning_of s w ≡ lane l) × (k < s.lanes)
    × (t ≡ lane_of l k) × (x ≡ word w ∷ mark 91 ∷ number k ∷ [])
DueSpelled s r (Operator t) x = Spells s r products t x

abbrev pub IsClear : Due → Option (Factor × Tree) → Type 0
IsClear (Operator t) pr = pr ≡ None
IsClear _ pr = Unit {0}

pub record IsRead (s : Scope) (r : Reading) (x : List Token) : Type 0 where
  pub room : ℕ
  pub deep : length r.below + room ≡ 32
  pub before : List Token
  pub begun : List Token
  pub opening : OpenSpelled s room r.top.place r.top.sum r.top.product r.below before
  pub due : DueSpelled s room r.due begun
  pub clear : IsClear r.due r.top.product
  pub all : x ≡ before ++ begun

abbrev pub Follows : Scope → List Token → Result Reading Cause → Type 0
Follows s x (Ok r) = IsRead s r x
Follows s x (Err c) = Unit {0}

abbrev pub st : ℕ → Frame → List Frame → Due → Reading
st n f fs d = record { nodes = n; top = f; below = fs; due = d }

abbrev pub frame : Place → Option (Sign × Tree) → Option (Factor × Tree) → Frame
frame p sm pr = record { place = p; sum = sm; product = pr }
