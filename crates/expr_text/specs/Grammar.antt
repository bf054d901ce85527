-- The grammar of expressions over tokens.
use Rattle.std.specs.Prelude.{◌≡◌, ℕ, pos, neg_ℤ, ◌^◌, ◌<◌, ◌≤◌, List, [], ◌∷◌, ◌++◌, Option, Some}
use Rattle.std.specs.Prelude.{Result, Ok}
use Rattle.vertex_expr.specs.Tree.{Tree, nodes, literal, least, greatest, clamp, choose, Level}
use Rattle.vertex_expr.specs.Tree.{sums, products, operands}
use Rattle.vertex_expr.specs.declared.expr.Compare.{Compare}
use Rattle.vertex_expr.specs.declared.expr.Compare.TheVariants.{Less, AtMost, Equal}
use Rattle.text_words.specs.Token.{Token, number, word, at_most, dash, mark}
use Rattle.expr_text.specs.declared.reading.Sign.{Sign}
use Rattle.expr_text.specs.declared.reading.Sign.TheVariants.{Plus, Minus}
use Rattle.expr_text.specs.declared.reading.Factor.{Factor}
use Rattle.expr_text.specs.declared.reading.Factor.TheVariants.{Times, Over}
use Rattle.expr_text.specs.declared.reading.Call.TheVariants.{Min, Max, Clamp, If}
use Rattle.expr_text.specs.declared.reading.Cause.{Cause}
use Rattle.expr_text.specs.declared.reading.Reading.{Reading}
use Rattle.expr_text.specs.declared.reading.Lane.{Lane}
use Rattle.vertex_expr.specs.Writable.{Scope}
use Rattle.expr_text.specs.Reading.{meaning_of, leaf, lane, call, signed, scaled, lane_of, step}
use Rattle.expr_text.specs.Reading.{◌>>=◌}

abbrev pub IsSign : Sign → Token → Type 0
IsSign Plus k = k ≡ mark 43
IsSign Minus k = (n : Option ℕ) × (k ≡ dash n)

abbrev pub factor_mark : Factor → Token
factor_mark Times = mark 42
factor_mark Over = mark 47

abbrev pub compare_mark : Compare → Token
compare_mark Less = mark 60
compare_mark AtMost = at_most
compare_mark Equal = mark 61

-- These tokens are an expression of this level that stands for this tree, with at most `room`
-- parentheses open at once.
pub data Spells (s : Scope) : (room : ℕ) → Level → Tree → List Token → Type 0 where
  product : (r : ℕ) (t : Tree) (x : List Token) → Spells s r products t x → Spells s r sums t x
  sum : (r : ℕ) (o : Sign) (k : Token) (a b : Tree) (x y : List Token) → IsSign o k
      → Spells s r sums a x → Spells s r products b y → Spells s r sums (signed o a b) (x ++ k ∷ y)
  operand : (r : ℕ) (t : Tree) (x : List Token) → Spells s r operands t x → Spells s r products t x
  multiple : (r : ℕ) (f : Factor) (a b : Tree) (x y : List Token) → Spells s r products a x
      → Spells s r operands b y → Spells s r products (scaled f a b) (x ++ factor_mark f ∷ y)
  numeral : (r n : ℕ) → n < 2 ^ 63 → Spells s r operands (literal (pos n)) (number n ∷ [])
  negative : (r n : ℕ) → n ≤ 2 ^ 63 → Spells s r operands (literal (neg_ℤ (pos n)))
      (dash (Some n) ∷ number n ∷ [])
  name : (r : ℕ) (w : List ℕ) (t : Tree) → nodes t ≡ 1 → meaning_of s w ≡ leaf t
      → Spells s r operands t (word w ∷ [])
  indexed : (r : ℕ) (w : List ℕ) (l : Lane) (k : ℕ) → meaning_of s w ≡ lane l → k < s.lanes
      → Spells s r operands (lane_of l k) (word w ∷ mark 91 ∷ number k ∷ mark 93 ∷ [])
  group : (q r : ℕ) (t : Tree) (x : List Token) → q < r → Spells s q sums t x
      → Spells s r operands t (mark 40 ∷ (x ++ mark 41 ∷ []))
  least_call : (q r : ℕ) (w : List ℕ) (a b : Tree) (x y : List Token) → q < r
      → meaning_of s w ≡ call Min → Spells s q sums a x → Spells s q sums b y
      → Spells s r operands (least a b) (word w ∷ mark 40 ∷ (x ++ mark 44 ∷ (y ++ mark 41 ∷ [])))
  greatest_call : (q r : ℕ) (w : List ℕ) (a b : Tree) (x y : List Token) → q < r
      → meaning_of s w ≡ call Max → Spells s q sums a x → Spells s q sums b y
      → Spells s r operands (greatest a b) (word w ∷ mark 40 ∷ (x ++ mark 44 ∷ (y ++ mark 41 ∷ [])))
  clamp_call : (q r : ℕ) (w : List ℕ) (a b c : Tree) (x y z : List Token) → q < r
      → meaning_of s w ≡ call Clamp → Spells s q sums a x → Spells s q sums b y
      → Spells s q sums c z
      → Spells s r operands (clamp a b c)
      (word w ∷ mark 40 ∷ (x ++ mark 44 ∷ (y ++ mark 44 ∷ (z ++ mark 41 ∷ []))))
  choice : (q r : ℕ) (w : List ℕ) (o : Compare) (a b c d : Tree) (x y z v : List Token) → q < r
      → meaning_of s w ≡ call If → Spells s q sums a x → Spells s q sums b y → Spells s q sums c z
      → Spells s q sums d v
      → Spells s r operands (choose o a b c d)
      (word w ∷ mark 40 ∷ (x ++ compare_mark o
      ∷ (y ++ mark 44 ∷ (z ++ mark 44 ∷ (v ++ mark 41 ∷ [])))))

-- what a run of tokens does
abbrev pub go : Scope → Reading → List Token → Result Reading Cause
go s r [] = Ok r
go s r (k ∷ ks) = step s r k >>= λ q. go s q ks
