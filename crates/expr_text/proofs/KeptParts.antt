-- What is known of an expression that is being read: its trees can stand there, and its nodes are
-- counted.
use Rattle.std.proofs.Common.{◌≡◌, ℕ, ◌+◌, ◌<◌, ◌≤◌, Bool, true, false, cond, List, [], ◌∷◌, length}
use Rattle.std.proofs.Common.{Option, Some, None, Result, Ok, Err, refl, arith}
use Rattle.std.specs.Prelude.{nat_lt, codes}
use Rattle.std.proofs.lemmas.Bool.Decides.{nat_tests}
use Rattle.vertex_expr.specs.Tree.{Tree, nodes, outdeg, weight}
use Rattle.expr_text.specs.declared.reading.Cause.{Cause}
use Rattle.expr_text.specs.declared.reading.Factor.{Factor}
use Rattle.expr_text.specs.declared.reading.Lane.{Lane}
use Rattle.expr_text.specs.declared.reading.Lane.TheVariants.{Val, Agg, Old}
use Rattle.expr_text.specs.declared.reading.Place.{Place}
use Rattle.expr_text.specs.declared.reading.Place.TheVariants.{Whole, Group, MinFirst, MinSecond}
use Rattle.expr_text.specs.declared.reading.Place.TheVariants.{MaxFirst, MaxSecond, ClampFirst}
use Rattle.expr_text.specs.declared.reading.Place.TheVariants.{ClampSecond, ClampThird, IfFirst}
use Rattle.expr_text.specs.declared.reading.Place.TheVariants.{IfSecond, IfThird, IfFourth}
use Rattle.expr_text.specs.declared.reading.Frame.{Frame}
use Rattle.expr_text.specs.declared.reading.Due.{Due}
use Rattle.expr_text.specs.declared.reading.Due.TheVariants.{Primary, Digits, OpenParen}
use Rattle.expr_text.specs.declared.reading.Due.TheVariants.{OpenBracket, Index, CloseBracket}
use Rattle.expr_text.specs.declared.reading.Due.TheVariants.{Operator}
use Rattle.expr_text.specs.declared.reading.Reading.{Reading}
use Rattle.vertex_expr.specs.Writable.{Scope, IsPrintable}
use Rattle.expr_text.specs.Reading.{Meaning, meaning_of, leaf, lane, call, nothing, in_contribute}
use Rattle.expr_text.specs.Reading.{in_apply, param_of}
use Rattle.std.specs.List.{position_or_len}
use Rattle.std.specs.Str.{bytes_eq}
use Rattle.vertex_expr.specs.declared.expr.Part.{Part}
use Rattle.vertex_expr.specs.declared.expr.Part.TheVariants.{Init, Contribute, Aggregate, Apply}

abbrev pub part_is : Part → Lane → Type 0
part_is p Val = p ≡ Contribute
part_is p Agg = p ≡ Apply
part_is p Old = p ≡ Apply

abbrev pub MeaningFits : Scope → Meaning → Type 0
MeaningFits s (leaf t) = IsPrintable s t × (nodes t ≡ 1)
MeaningFits s (lane l) = part_is s.part l
MeaningFits s (call c) = Unit {0}
MeaningFits s nothing = Unit {0}

meaning_fits_either : (s : Scope) (b : Bool) (x y : Meaning) → MeaningFits s x → MeaningFits s y
    → MeaningFits s (cond b x y)
meaning_fits_either s true x y f g = f
meaning_fits_either s false x y f g = g

contribute_fits : (s : Scope) (p : Part) (m : Meaning) → s.part ≡ p
    → (s.part ≡ Contribute → MeaningFits s m) → MeaningFits s (in_contribute p m)
contribute_fits s Init m e f = tt
contribute_fits s Contribute m e f = f e
contribute_fits s Aggregate m e f = tt
contribute_fits s Apply m e f = tt

apply_fits : (s : Scope) (p : Part) (m : Meaning) → s.part ≡ p → (s.part ≡ Apply → MeaningFits s m)
    → MeaningFits s (in_apply p m)
apply_fits s Init m e f = tt
apply_fits s Contribute m e f = tt
apply_fits s Aggregate m e f = tt
apply_fits s Apply m e f = f e

param_fits : (s : Scope) (b : Bool) (k : ℕ) → (b ≡ true → k < length s.params)
    → MeaningFits s (param_of (cond b (Some k) None))
param_fits s true k f = (f refl, refl)
param_fits s false k f = tt

pub nat_lt_below : (k n : ℕ) → nat_lt k n ≡ true → k < n
nat_lt_below k n e = grind (arith, nat_tests)

pub meaning_fits : (s : Scope) (w : List ℕ) → MeaningFits s (meaning_of s w)
unfolding meaning_of
meaning_fits s w =
    meaning_fits_either s (bytes_eq w (codes "min")) _ _ tt
    (meaning_fits_either s (bytes_eq w (codes "max")) _ _ tt
    (meaning_fits_either s (bytes_eq w (codes "clamp")) _ _ tt
    (meaning_fits_either s (bytes_eq w (codes "if")) _ _ tt
    (meaning_fits_either s (bytes_eq w (codes "attr")) _ _ (tt, refl)
    (meaning_fits_either s (bytes_eq w (codes "id")) _ _ (tt, refl)
    (meaning_fits_either s (bytes_eq w (codes "val")) _ _
    (contribute_fits s s.part (lane Val) refl (λ e. e))
    (meaning_fits_either s (bytes_eq w (codes "outdeg")) _ _
    (contribute_fits s s.part (leaf outdeg) refl (λ e. (e, refl)))
    (meaning_fits_either s (bytes_eq w (codes "weight")) _ _
    (contribute_fits s s.part (leaf weight) refl (λ e. (e, refl)))
    (meaning_fits_either s (bytes_eq w (codes "agg")) _ _
    (apply_fits s s.part (lane Agg) refl (λ e. e))
    (meaning_fits_either s (bytes_eq w (codes "old")) _ _
    (apply_fits s s.part (lane Old) refl (λ e. e))
    (param_fits s (nat_lt (position_or_len (λ p. bytes_eq p w) s.params) (length s.params))
    (position_or_len (λ p. bytes_eq p w) s.params) (λ e. nat_lt_below _ _ e))))))))))))

abbrev pub place_nodes : Place → ℕ
place_nodes Whole = 0
place_nodes Group = 0
place_nodes MinFirst = 1
place_nodes (MinSecond a) = 1 + nodes a
place_nodes MaxFirst = 1
place_nodes (MaxSecond a) = 1 + nodes a
place_nodes ClampFirst = 1
place_nodes (ClampSecond x) = 1 + nodes x
place_nodes (ClampThird x a) = 1 + nodes x + nodes a
place_nodes IfFirst = 1
place_nodes (IfSecond c a) = 1 + nodes a
place_nodes (IfThird c a b) = 1 + nodes a + nodes b
place_nodes (IfFourth c a b x) = 1 + nodes a + nodes b + nodes x

abbrev pub PlaceFits : Scope → Place → Type 0
PlaceFits s (MinSecond a) = IsPrintable s a
PlaceFits s (MaxSecond a) = IsPrintable s a
PlaceFits s (ClampSecond x) = IsPrintable s x
PlaceFits s (ClampThird x a) = IsPrintable s x × IsPrintable s a
PlaceFits s (IfSecond c a) = IsPrintable s a
PlaceFits s (IfThird c a b) = IsPrintable s a × IsPrintable s b
PlaceFits s (IfFourth c a b x) = IsPrintable s a × IsPrintable s b × IsPrintable s x
PlaceFits s _ = Unit {0}

abbrev pub left_nodes : {A : Type 0} → Option (A × Tree) → ℕ
left_nodes None = 0
left_nodes (Some p) = nodes p.1 + 1

abbrev pub LeftFits : {A : Type 0} → Scope → Option (A × Tree) → Type 0
LeftFits s None = Unit {0}
LeftFits s (Some p) = IsPrintable s p.1

abbrev pub frame_nodes : Frame → ℕ
frame_nodes f = place_nodes f.place + left_nodes f.sum + left_nodes f.product

pub record FrameFits (s : Scope) (f : Frame) : Type 0 where
  pub place : PlaceFits s f.place
  pub sum : LeftFits s f.sum
  pub product : LeftFits s f.product

abbrev pub below_nodes : List Frame → ℕ
below_nodes [] = 0
below_nodes (f ∷ fs) = frame_nodes f + below_nodes fs

abbrev pub AllFit : Scope → List Frame → Type 0
AllFit s [] = Unit {0}
AllFit s (f ∷ fs) = FrameFits s f × AllFit s fs

abbrev pub due_nodes : Due → ℕ
due_nodes Primary = 0
due_nodes (Digits t) = nodes t
due_nodes (OpenParen c) = 1
due_nodes (OpenBracket l) = 1
due_nodes (Index l) = 1
due_nodes (CloseBracket t) = nodes t
due_nodes (Operator t) = nodes t

abbrev pub DueFits : Scope → Due → Type 0
DueFits s Primary = Unit {0}
DueFits s (Digits t) = IsPrintable s t
DueFits s (OpenParen c) = Unit {0}
DueFits s (OpenBracket l) = part_is s.part l
DueFits s (Index l) = part_is s.part l
DueFits s (CloseBracket t) = IsPrintable s t
DueFits s (Operator t) = IsPrintable s t

-- behind an operand no product waits
abbrev pub IsClear : Due → Option (Factor × Tree) → Type 0
IsClear (Operator t) pr = pr ≡ None
IsClear _ pr = Unit {0}

-- the trees are printable, and the nodes are counted
pub record Held (s : Scope) (n : ℕ) (f : Frame) (fs : List Frame) (hand : ℕ) : Type 0 where
  pub top : FrameFits s f
  pub rest : AllFit s fs
  pub count : n ≡ frame_nodes f + below_nodes fs + hand
  pub few : n ≤ 256

pub record Good (s : Scope) (r : Reading) : Type 0 where
  pub held : Held s r.nodes r.top r.below (due_nodes r.due)
  pub due : DueFits s r.due
  pub clear : IsClear r.due r.top.product

abbrev pub Kept : Scope → Result Reading Cause → Type 0
Kept s (Ok r) = Good s r
Kept s (Err c) = Unit {0}
