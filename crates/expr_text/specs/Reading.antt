-- How an expression is read, a token at a time.
use Rattle.std.specs.Prelude.{ℕ, pos, neg_ℤ, ◌+◌, ◌^◌, ◌==◌, nat_lt, nat_le, Bool, false}
use Rattle.std.specs.Prelude.{if◌then◌else◌, List, [], ◌∷◌, length, Option, Some, None, Result, Ok}
use Rattle.std.specs.Prelude.{Err, codes, position}
use Rattle.std.specs.Str.{bytes_eq}
use Rattle.vertex_expr.specs.Tree.{Tree, literal, param, val, outdeg, weight, attr, id, agg, old}
use Rattle.vertex_expr.specs.Tree.{plus, minus, times, over, least, greatest, clamp, choose}
use Rattle.vertex_expr.specs.declared.expr.Compare.{Compare}
use Rattle.vertex_expr.specs.declared.expr.Compare.TheVariants.{Less, AtMost, Equal}
use Rattle.vertex_expr.specs.Writable.{Scope}
use Rattle.text_words.specs.Token.{Token, number, word, at_most, dash, mark}
use Rattle.vertex_expr.specs.declared.expr.Part.{Part}
use Rattle.vertex_expr.specs.declared.expr.Part.TheVariants.{Contribute, Apply}
use Rattle.expr_text.specs.declared.reading.Cause.{Cause}
use Rattle.expr_text.specs.declared.reading.Cause.TheVariants.{Syntax, Unknown, TooBig}
use Rattle.expr_text.specs.declared.reading.Sign.{Sign}
use Rattle.expr_text.specs.declared.reading.Sign.TheVariants.{Plus, Minus}
use Rattle.expr_text.specs.declared.reading.Factor.{Factor}
use Rattle.expr_text.specs.declared.reading.Factor.TheVariants.{Times, Over}
use Rattle.expr_text.specs.declared.reading.Lane.{Lane}
use Rattle.expr_text.specs.declared.reading.Lane.TheVariants.{Val, Agg, Old}
use Rattle.expr_text.specs.declared.reading.Call.{Call}
use Rattle.expr_text.specs.declared.reading.Call.TheVariants.{Min, Max, Clamp, If}
use Rattle.expr_text.specs.declared.reading.Place.{Place}
use Rattle.expr_text.specs.declared.reading.Place.TheVariants.{Whole, Group, MinFirst, MinSecond}
use Rattle.expr_text.specs.declared.reading.Place.TheVariants.{MaxFirst, MaxSecond, ClampFirst}
use Rattle.expr_text.specs.declared.reading.Place.TheVariants.{ClampSecond, ClampThird, IfFirst}
use Rattle.expr_text.specs.declared.reading.Place.TheVariants.{IfSecond, IfThird, IfFourth}
use Rattle.expr_text.specs.declared.reading.End.{End}
use Rattle.expr_text.specs.declared.reading.End.TheVariants.{Comma, Compare as Compare', Close}
use Rattle.expr_text.specs.declared.reading.Frame.{Frame}
use Rattle.expr_text.specs.declared.reading.Due.{Due}
use Rattle.expr_text.specs.declared.reading.Due.TheVariants.{Primary, Digits, OpenParen}
use Rattle.expr_text.specs.declared.reading.Due.TheVariants.{OpenBracket, Index, CloseBracket}
use Rattle.expr_text.specs.declared.reading.Due.TheVariants.{Operator}
use Rattle.expr_text.specs.declared.reading.Reading.{Reading}

infixl 10 ◌>>=◌
abbrev pub ◌>>=◌ : {A B : Type 0} → Result A Cause → (A → Result B Cause) → Result B Cause
(Ok x) >>= f = f x
(Err e) >>= f = Err e

-- what a word means
pub data Meaning : Type 0 where
  leaf : Tree → Meaning
  lane : Lane → Meaning
  call : Call → Meaning
  nothing : Meaning

abbrev pub in_contribute : Part → Meaning → Meaning
in_contribute Contribute m = m
in_contribute _ m = nothing

abbrev pub in_apply : Part → Meaning → Meaning
in_apply Apply m = m
in_apply _ m = nothing

abbrev pub param_of : Option ℕ → Meaning
param_of None = nothing
param_of (Some k) = leaf (param k)

unfoldable pub meaning_of : Scope → List ℕ → Meaning
meaning_of s w =
    if bytes_eq w (codes "min") then call Min
    else if bytes_eq w (codes "max") then call Max
    else if bytes_eq w (codes "clamp") then call Clamp
    else if bytes_eq w (codes "if") then call If
    else if bytes_eq w (codes "attr") then leaf attr
    else if bytes_eq w (codes "id") then leaf id
    else if bytes_eq w (codes "val") then in_contribute s.part (lane Val)
    else if bytes_eq w (codes "outdeg") then in_contribute s.part (leaf outdeg)
    else if bytes_eq w (codes "weight") then in_contribute s.part (leaf weight)
    else if bytes_eq w (codes "agg") then in_apply s.part (lane Agg)
    else if bytes_eq w (codes "old") then in_apply s.part (lane Old)
    else param_of (position (λ p. bytes_eq p w) s.params)

abbrev pub signed : Sign → Tree → Tree → Tree
signed Plus a b = plus a b
signed Minus a b = minus a b

abbrev pub scaled : Factor → Tree → Tree → Tree
scaled Times a b = times a b
scaled Over a b = over a b

abbrev pub lane_of : Lane → ℕ → Tree
lane_of Val k = val k
lane_of Agg k = agg k
lane_of Old k = old k

-- the product so far with one more operand
abbrev pub product_of : Option (Sign × Tree) → Tree → Tree
product_of None t = t
product_of (Some p) t = signed p.0 p.1 t

abbrev pub factor_of : Option (Factor × Tree) → Tree → Tree
factor_of None t = t
factor_of (Some p) t = scaled p.0 p.1 t

abbrev pub fresh : Place → Frame
fresh p = record { place = p; sum = None; product = None }

-- what is read at the beginning
abbrev pub start : Reading
start = record { nodes = 0; top = fresh Whole; below = []; due = Primary }

-- one node more
unfoldable pub counted : Reading → Result Reading Cause
counted r = if nat_lt r.nodes 256 then Ok (record r { nodes = r.nodes + 1 }) else Err TooBig

-- an operand was read
abbrev pub taken : Reading → Tree → Reading
taken r t =
    record r { top = record r.top { product = None }; due = Operator (factor_of r.top.product t) }

-- a parenthesis opens
unfoldable pub opened : Reading → Place → Result Reading Cause
opened r p =
    if nat_lt (length r.below) 32 then Ok
    (record r { below = r.top ∷ r.below; top = fresh p; due = Primary }) else Err TooBig

abbrev pub first_of : Call → Place
first_of Min = MinFirst
first_of Max = MaxFirst
first_of Clamp = ClampFirst
first_of If = IfFirst

-- where a comma leads, behind an operand
abbrev pub after_comma : Place → Tree → Option Place
after_comma MinFirst t = Some (MinSecond t)
after_comma MaxFirst t = Some (MaxSecond t)
after_comma ClampFirst t = Some (ClampSecond t)
after_comma (ClampSecond x) t = Some (ClampThird x t)
after_comma (IfSecond c a) t = Some (IfThird c a t)
after_comma (IfThird c a b) t = Some (IfFourth c a b t)
after_comma _ t = None

-- where a comparison leads
abbrev pub after_compare : Compare → Place → Tree → Option Place
after_compare c IfFirst t = Some (IfSecond c t)
after_compare c _ t = None

-- what a closing parenthesis makes
abbrev pub closed : Place → Tree → Option Tree
closed Group t = Some t
closed (MinSecond a) t = Some (least a t)
closed (MaxSecond a) t = Some (greatest a t)
closed (ClampThird x a) t = Some (clamp x a t)
closed (IfFourth c a b x) t = Some (choose c a b x t)
closed _ t = None

abbrev pub moved : Reading → Option Place → Result Reading Cause
moved r None = Err Syntax
moved r (Some p) = Ok (record r { top = fresh p; due = Primary })

abbrev pub popped : Reading → List Frame → Tree → Result Reading Cause
popped r [] t = Err Syntax
popped r (f ∷ fs) t = Ok (taken (record r { top = f; below = fs }) t)

abbrev pub shut : Reading → Option Tree → Result Reading Cause
shut r None = Err Syntax
shut r (Some t) = popped r r.below t

-- a word where an operand is due
abbrev pub named : Reading → Meaning → Result Reading Cause
named r (leaf t) = counted r >>= λ q. Ok (taken q t)
named r (lane l) = counted r >>= λ q. Ok (record q { due = OpenBracket l })
named r (call c) = counted r >>= λ q. Ok (record q { due = OpenParen c })
named r nothing = Err Unknown

-- a number where an operand is due
abbrev pub at_operand_number : Reading → ℕ → Result Reading Cause
at_operand_number r n =
    counted r >>= λ q. if nat_lt n (2 ^ 63) then Ok (taken q (literal (pos n))) else Err TooBig

abbrev pub at_operand_negative : Reading → ℕ → Result Reading Cause
at_operand_negative r n =
    counted r >>= λ q. if nat_le n (2 ^ 63) then Ok
    (record q { due = Digits (literal (neg_ℤ (pos n))) }) else Err TooBig

-- a token where an operand is due
abbrev pub at_operand : Scope → Reading → Token → Result Reading Cause
at_operand s r (number n) = at_operand_number r n
at_operand s r (dash None) = Err Syntax
at_operand s r (dash (Some n)) = at_operand_negative r n
at_operand s r (word w) = named r (meaning_of s w)
at_operand s r at_most = Err Syntax
at_operand s r (mark b) = if b == 40 then opened r Group else Err Syntax

abbrev pub times_next : Reading → Factor → Tree → Result Reading Cause
times_next r f t =
    counted r >>= λ q. Ok (record q { top = record q.top { product = Some (f, t) }; due = Primary })

abbrev pub plus_next : Reading → Sign → Tree → Result Reading Cause
plus_next r s t =
    counted r >>= λ q. Ok (record q {
      top = record q.top { sum = Some (s, product_of q.top.sum t) };
      due = Primary;
    })

abbrev pub ended_by : Reading → End → Tree → Result Reading Cause
ended_by r Comma t = moved r (after_comma r.top.place t)
ended_by r (Compare' c) t = moved r (after_compare c r.top.place t)
ended_by r Close t = shut r (closed r.top.place t)

-- a comma, a comparison or a closing parenthesis
abbrev pub ended : Reading → Tree → End → Result Reading Cause
ended r t e = ended_by r e (product_of r.top.sum t)

-- a token behind an operand
abbrev pub at_operator : Reading → Tree → Token → Result Reading Cause
at_operator r t (number n) = Err Syntax
at_operator r t (word w) = Err Syntax
at_operator r t at_most = ended r t (Compare' AtMost)
at_operator r t (dash n) = plus_next r Minus t
at_operator r t (mark b) =
    if b == 43 then plus_next r Plus t
    else if b == 42 then times_next r Times t
    else if b == 47 then times_next r Over t
    else if b == 44 then ended r t Comma
    else if b == 41 then ended r t Close
    else if b == 60 then ended r t (Compare' Less)
    else if b == 61 then ended r t (Compare' Equal)
    else Err Syntax

abbrev pub is_mark : ℕ → Token → Bool
is_mark m (mark b) = b == m
is_mark m _ = false

abbrev pub at_mark : ℕ → Token → Result Reading Cause → Result Reading Cause
at_mark m k next = if is_mark m k then next else Err Syntax

abbrev pub at_index : Scope → Reading → Lane → Token → Result Reading Cause
at_index s r l (number k) =
    if nat_lt k s.lanes then Ok (record r { due = CloseBracket (lane_of l k) }) else Err TooBig
at_index s r l _ = Err Syntax

-- what the next token does where this is due
abbrev pub due_step : Scope → Reading → Due → Token → Result Reading Cause
due_step s r Primary k = at_operand s r k
due_step s r (Digits t) k = Ok (taken r t)
due_step s r (OpenParen c) k = at_mark 40 k (opened r (first_of c))
due_step s r (OpenBracket l) k = at_mark 91 k (Ok (record r { due = Index l }))
due_step s r (Index l) k = at_index s r l k
due_step s r (CloseBracket t) k = at_mark 93 k (Ok (taken r t))
due_step s r (Operator t) k = at_operator r t k

unfoldable pub step : Scope → Reading → Token → Result Reading Cause
step s r k = due_step s (record r { due = Primary }) r.due k
