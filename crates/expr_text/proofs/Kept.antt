-- What is read has only trees that a text can have.
use Rattle.std.proofs.Common.{◌≡◌, ℕ, ◌+◌, ◌<◌, ◌≤◌, Bool, true, false, cond, List, [], ◌∷◌, length}
use Rattle.std.proofs.Common.{Option, Some, None, Result, Ok, Err, refl, sym, subst, arith, suc}
use Rattle.std.proofs.Common.{zero, pos}
use Rattle.std.specs.Prelude.{◌==◌, nat_lt, nat_le, neg_ℤ, ◌^◌}
use Rattle.std.proofs.lemmas.Bool.Decides.{nat_tests}
use Rattle.vertex_expr.specs.Tree.{Tree, literal, nodes}
use Rattle.vertex_expr.specs.declared.expr.Compare.{Compare}
use Rattle.vertex_expr.specs.declared.expr.Compare.TheVariants.{Less, AtMost, Equal}
use Rattle.text_words.specs.Token.{Token, number, word, at_most, dash, mark}
use Rattle.expr_text.specs.declared.reading.Cause.{Cause}
use Rattle.expr_text.specs.declared.reading.Cause.TheVariants.{TooBig}
use Rattle.expr_text.specs.declared.reading.Sign.{Sign}
use Rattle.expr_text.specs.declared.reading.Sign.TheVariants.{Plus, Minus}
use Rattle.expr_text.specs.declared.reading.Factor.{Factor}
use Rattle.expr_text.specs.declared.reading.Factor.TheVariants.{Times, Over}
use Rattle.expr_text.specs.declared.reading.Call.{Call}
use Rattle.expr_text.specs.declared.reading.Call.TheVariants.{Min, Max, Clamp, If}
use Rattle.expr_text.specs.declared.reading.Lane.{Lane}
use Rattle.expr_text.specs.declared.reading.Lane.TheVariants.{Val, Agg, Old}
use Rattle.expr_text.specs.declared.reading.Place.{Place}
use Rattle.expr_text.specs.declared.reading.Place.TheVariants.{Whole, Group, MinFirst, MinSecond}
use Rattle.expr_text.specs.declared.reading.Place.TheVariants.{MaxFirst, MaxSecond, ClampFirst}
use Rattle.expr_text.specs.declared.reading.Place.TheVariants.{ClampSecond, ClampThird, IfFirst}
use Rattle.expr_text.specs.declared.reading.Place.TheVariants.{IfSecond, IfThird, IfFourth}
use Rattle.expr_text.specs.declared.reading.Frame.{Frame}
use Rattle.expr_text.specs.declared.reading.Due.{Due}
use Rattle.expr_text.specs.declared.reading.Due.TheVariants.{Primary, Digits, OpenParen}
use Rattle.expr_text.specs.declared.reading.Due.TheVariants.{OpenBracket, Index, CloseBracket}
use Rattle.expr_text.specs.declared.reading.Due.TheVariants.{Operator}
use Rattle.expr_text.specs.declared.reading.Reading.{Reading}
use Rattle.vertex_expr.specs.Writable.{Scope, IsPrintable}
use Rattle.expr_text.specs.Reading.{Meaning, meaning_of, leaf, lane, call, counted, opened, taken}
use Rattle.expr_text.specs.Reading.{fresh, first_of, step, ◌>>=◌, named, lane_of, product_of}
use Rattle.expr_text.specs.Reading.{after_comma, after_compare, closed, moved, shut, at_operand}
use Rattle.expr_text.specs.Reading.{nothing, due_step, at_operator, times_next, plus_next, ended}
use Rattle.expr_text.specs.Reading.{is_mark, at_index}
use Rattle.expr_text.specs.declared.reading.End.{End}
use Rattle.expr_text.specs.declared.reading.End.TheVariants.{Comma, Compare as Compare', Close}
use Rattle.expr_text.proofs.KeptParts.{part_is, MeaningFits, nat_lt_below, meaning_fits}
use Rattle.expr_text.proofs.KeptParts.{place_nodes, PlaceFits, left_nodes, LeftFits, below_nodes}
use Rattle.expr_text.proofs.KeptParts.{AllFit, due_nodes, DueFits, IsClear, Held, Good, Kept}

abbrev st : ℕ → Frame → List Frame → Due → Reading
st n f fs d = record { nodes = n; top = f; below = fs; due = d }

counted_kept : (s : Scope) (r : Reading) (g : Reading → Result Reading Cause)
    → (r.nodes < 256 → Kept s (g (record r { nodes = r.nodes + 1 }))) → Kept s (counted r >>= g)
unfolding counted
counted_kept s r g h = split (nat_lt r.nodes 256) (λ e. h (nat_lt_below r.nodes 256 e))
  where
    split : (b : Bool) → (b ≡ true → Kept s (g (record r { nodes = r.nodes + 1 })))
        → Kept s (cond b (Ok (record r { nodes = r.nodes + 1 })) (Err TooBig) >>= g)
    split true f = f refl
    split false f = tt

taken_kept : (s : Scope) (n : ℕ) (p : Place) (sm : Option (Sign × Tree))
    (pr : Option (Factor × Tree)) (fs : List Frame) (t : Tree)
    → Held s n (record { place = p; sum = sm; product = pr }) fs (nodes t) → IsPrintable s t
    → Good s (taken (st n (record { place = p; sum = sm; product = pr }) fs Primary) t)
taken_kept s n p sm None fs t h fine =
    record {
      held = record { top = h.top; rest = h.rest; count = h.count; few = h.few };
      due = fine;
      clear = refl;
    }
taken_kept s n p sm (Some (Times, l)) fs t h fine =
    record {
      held = record {
        top = record { place = h.top.place; sum = h.top.sum; product = tt };
        rest = h.rest;
        count = omega (arith, h.count);
        few = h.few;
      };
      due = (h.top.product, fine);
      clear = refl;
    }
taken_kept s n p sm (Some (Over, l)) fs t h fine =
    record {
      held = record {
        top = record { place = h.top.place; sum = h.top.sum; product = tt };
        rest = h.rest;
        count = omega (arith, h.count);
        few = h.few;
      };
      due = (h.top.product, fine);
      clear = refl;
    }

opened_kept : (s : Scope) (n : ℕ) (f : Frame) (fs : List Frame) (d : Due) (p : Place)
    → Held s n f fs (place_nodes p) → PlaceFits s p → Kept s (opened (st n f fs d) p)
unfolding opened
opened_kept s n f fs d p h fine = split (nat_lt (length fs) 32)
  where
    split : (b : Bool) → Kept s (cond b (Ok (st n (fresh p) (f ∷ fs) Primary)) (Err TooBig))
    split true =
        record {
          held = record {
            top = record { place = fine; sum = tt; product = tt };
            rest = (h.top, h.rest);
            count = omega (arith, h.count);
            few = h.few;
          };
          due = tt;
          clear = tt;
        }
    split false = tt

-- one node more, in hand
held_one_more : {s : Scope} (n : ℕ) (f : Frame) (fs : List Frame) (c : ℕ) → Held s n f fs 0
    → n < 256 → c ≡ 1 → Held s (n + 1) f fs c
held_one_more n f fs c h few one =
    record { top = h.top; rest = h.rest; count = omega (arith, h.count); few = omega arith }

named_kept : (s : Scope) (n : ℕ) (p : Place) (sm : Option (Sign × Tree))
    (pr : Option (Factor × Tree)) (fs : List Frame) (m : Meaning)
    → Held s n (record { place = p; sum = sm; product = pr }) fs 0 → MeaningFits s m
    → Kept s (named (st n (record { place = p; sum = sm; product = pr }) fs Primary) m)
named_kept s n p sm pr fs (leaf t) h fine =
    counted_kept s (st n (record { place = p; sum = sm; product = pr }) fs Primary)
    (λ q. Ok (taken q t)) (λ few. taken_kept s (n + 1) p sm pr fs t
    (held_one_more n _ fs (nodes t) h few fine.1) fine.0)
named_kept s n p sm pr fs (lane l) h fine =
    counted_kept s (st n (record { place = p; sum = sm; product = pr }) fs Primary)
    (λ q. Ok (record q { due = OpenBracket l }))
    (λ few. record { held = held_one_more n _ fs 1 h few refl; due = fine; clear = tt })
named_kept s n p sm pr fs (call c) h fine =
    counted_kept s (st n (record { place = p; sum = sm; product = pr }) fs Primary)
    (λ q. Ok (record q { due = OpenParen c }))
    (λ few. record { held = held_one_more n _ fs 1 h few refl; due = tt; clear = tt })
named_kept s n p sm pr fs nothing h fine = tt

kept_if : (s : Scope) (b : Bool) (x y : Result Reading Cause) → (b ≡ true → Kept s x) → Kept s y
    → Kept s (cond b x y)
kept_if s true x y f g = f refl
kept_if s false x y f g = g

at_most_of : (k n : ℕ) → nat_le k n ≡ true → k ≤ n
at_most_of k n e = grind (arith, nat_tests)

negative_fits : (s : Scope) (n : ℕ) → n ≤ 2 ^ 63 → IsPrintable s (literal (neg_ℤ (pos n)))
negative_fits s zero few = omega arith
negative_fits s (suc n) few = few

at_operand_kept : (s : Scope) (n : ℕ) (p : Place) (sm : Option (Sign × Tree))
    (pr : Option (Factor × Tree)) (fs : List Frame) (k : Token)
    → Held s n (record { place = p; sum = sm; product = pr }) fs 0
    → Kept s (at_operand s (st n (record { place = p; sum = sm; product = pr }) fs Primary) k)
at_operand_kept s n p sm pr fs (number m) h =
    counted_kept s (st n (record { place = p; sum = sm; product = pr }) fs Primary)
    (λ q. cond (nat_lt m (2 ^ 63)) (Ok (taken q (literal (pos m)))) (Err TooBig))
    (λ few. kept_if s (nat_lt m (2 ^ 63)) _ _
    (λ e. taken_kept s (n + 1) p sm pr fs (literal (pos m)) (held_one_more n _ fs 1 h few refl)
    (nat_lt_below m (2 ^ 63) e)) tt)
at_operand_kept s n p sm pr fs (dash None) h = tt
at_operand_kept s n p sm pr fs (dash (Some m)) h =
    counted_kept s (st n (record { place = p; sum = sm; product = pr }) fs Primary)
    (λ q. cond (nat_le m (2 ^ 63)) (Ok (record q { due = Digits (literal (neg_ℤ (pos m))) }))
    (Err TooBig))
    (λ few. kept_if s (nat_le m (2 ^ 63)) _ _
    (λ e. record {
      held = held_one_more n _ fs 1 h few refl;
      due = negative_fits s m
          (at_most_of m (2 ^ 63) e);
      clear = tt;
    }) tt)
at_operand_kept s n p sm pr fs (word w) h =
    named_kept s n p sm pr fs (meaning_of s w) h (meaning_fits s w)
at_operand_kept s n p sm pr fs at_most h = tt
at_operand_kept s n p sm pr fs (mark b) h =
    kept_if s (b == 40) _ _ (λ e. opened_kept s n _ fs Primary Group h tt) tt

-- the sum so far
pub product_fits : (s : Scope) (sm : Option (Sign × Tree)) (t : Tree) → LeftFits s sm
    → IsPrintable s t → IsPrintable s (product_of sm t)
product_fits s None t f g = g
product_fits s (Some (Plus, a)) t f g = (f, g)
product_fits s (Some (Minus, a)) t f g = (f, g)

pub product_nodes : (sm : Option (Sign × Tree)) (t : Tree)
    → nodes (product_of sm t) ≡ left_nodes sm + nodes t
product_nodes None t = omega arith
product_nodes (Some (Plus, a)) t = omega arith
product_nodes (Some (Minus, a)) t = omega arith

times_kept : (s : Scope) (n : ℕ) (p : Place) (sm : Option (Sign × Tree)) (fs : List Frame)
    (o : Factor) (t : Tree) → Held s n (record { place = p; sum = sm; product = None }) fs (nodes t)
    → IsPrintable s t
    → Kept s (times_next (st n (record { place = p; sum = sm; product = None }) fs Primary) o t)
times_kept s n p sm fs o t h fine =
    counted_kept s (st n (record { place = p; sum = sm; product = None }) fs Primary)
    (λ q. Ok (record q { top = record q.top { product = Some (o, t) }; due = Primary }))
    (λ few. record {
      held = record {
        top = record
            { place = h.top.place; sum = h.top.sum; product = fine };
        rest = h.rest;
        count = omega
            (arith, h.count);
        few = omega arith;
      };
      due = tt;
      clear = tt;
    })

plus_kept : (s : Scope) (n : ℕ) (p : Place) (sm : Option (Sign × Tree)) (fs : List Frame) (o : Sign)
    (t : Tree) → Held s n (record { place = p; sum = sm; product = None }) fs (nodes t)
    → IsPrintable s t
    → Kept s (plus_next (st n (record { place = p; sum = sm; product = None }) fs Primary) o t)
plus_kept s n p sm fs o t h fine =
    counted_kept s (st n (record { place = p; sum = sm; product = None }) fs Primary)
    (λ q. Ok (record q {
      top = record q.top { sum = Some (o, product_of q.top.sum t) };
      due = Primary;
    }))
    (λ few. record {
      held = record {
        top = record
            { place = h.top.place; sum = product_fits s sm t h.top.sum fine; product = tt };
        rest = h.rest;
        count = omega (arith, h.count, product_nodes sm t);
        few = omega arith;
      };
      due = tt;
      clear = tt;
    })

-- a place to go on to, with what it must have
abbrev NextFits : Scope → ℕ → Option Place → Type 0
NextFits s n None = Unit {0}
NextFits s n (Some p) = PlaceFits s p × (place_nodes p ≡ n)

comma_fits : (s : Scope) (p : Place) (t : Tree) → PlaceFits s p → IsPrintable s t
    → NextFits s (place_nodes p + nodes t) (after_comma p t)
comma_fits s Whole t f g = tt
comma_fits s Group t f g = tt
comma_fits s MinFirst t f g = (g, refl)
comma_fits s (MinSecond a) t f g = tt
comma_fits s MaxFirst t f g = (g, refl)
comma_fits s (MaxSecond a) t f g = tt
comma_fits s ClampFirst t f g = (g, refl)
comma_fits s (ClampSecond x) t f g = ((f, g), refl)
comma_fits s (ClampThird x a) t f g = tt
comma_fits s IfFirst t f g = tt
comma_fits s (IfSecond c a) t f g = ((f, g), refl)
comma_fits s (IfThird c a b) t f g = ((f.0, f.1, g), refl)
comma_fits s (IfFourth c a b x) t f g = tt

compare_fits : (s : Scope) (o : Compare) (p : Place) (t : Tree) → PlaceFits s p → IsPrintable s t
    → NextFits s (place_nodes p + nodes t) (after_compare o p t)
compare_fits s o IfFirst t f g = (g, refl)
compare_fits s o Whole t f g = tt
compare_fits s o Group t f g = tt
compare_fits s o MinFirst t f g = tt
compare_fits s o (MinSecond a) t f g = tt
compare_fits s o MaxFirst t f g = tt
compare_fits s o (MaxSecond a) t f g = tt
compare_fits s o ClampFirst t f g = tt
compare_fits s o (ClampSecond x) t f g = tt
compare_fits s o (ClampThird x a) t f g = tt
compare_fits s o (IfSecond c a) t f g = tt
compare_fits s o (IfThird c a b) t f g = tt
compare_fits s o (IfFourth c a b x) t f g = tt

abbrev MadeFits : Scope → ℕ → Option Tree → Type 0
MadeFits s n None = Unit {0}
MadeFits s n (Some t) = IsPrintable s t × (nodes t ≡ n)

closed_fits : (s : Scope) (p : Place) (t : Tree) → PlaceFits s p → IsPrintable s t
    → MadeFits s (place_nodes p + nodes t) (closed p t)
closed_fits s Whole t f g = tt
closed_fits s Group t f g = (g, omega arith)
closed_fits s MinFirst t f g = tt
closed_fits s (MinSecond a) t f g = ((f, g), omega arith)
closed_fits s MaxFirst t f g = tt
closed_fits s (MaxSecond a) t f g = ((f, g), omega arith)
closed_fits s ClampFirst t f g = tt
closed_fits s (ClampSecond x) t f g = tt
closed_fits s (ClampThird x a) t f g = ((f.0, f.1, g), omega arith)
closed_fits s IfFirst t f g = tt
closed_fits s (IfSecond c a) t f g = tt
closed_fits s (IfThird c a b) t f g = tt
closed_fits s (IfFourth c a b x) t f g = ((f.0, f.1, f.2, g), omega arith)

-- what is in the frames below and what is in hand
moved_kept : (s : Scope) (n c : ℕ) (f : Frame) (fs : List Frame) (o : Option Place) → AllFit s fs
    → n ≡ below_nodes fs + c → n ≤ 256 → NextFits s c o → Kept s (moved (st n f fs Primary) o)
moved_kept s n c f fs None rest count few fine = tt
moved_kept s n c f fs (Some p) rest count few fine =
    record {
      held = record {
        top = record { place = fine.0; sum = tt; product = tt };
        rest = rest;
        count = omega (arith, fine.1);
        few = few;
      };
      due = tt;
      clear = tt;
    }

shut_kept : (s : Scope) (n c : ℕ) (f : Frame) (fs : List Frame) (o : Option Tree) → AllFit s fs
    → n ≡ below_nodes fs + c → n ≤ 256 → MadeFits s c o → Kept s (shut (st n f fs Primary) o)
shut_kept s n c f fs None rest count few fine = tt
shut_kept s n c f [] (Some t) rest count few fine = tt
shut_kept s n c f (g ∷ fs) (Some t) rest count few fine =
    taken_kept s n g.place g.sum g.product fs t
    (record { top = rest.0; rest = rest.1; count = omega (arith, fine.1); few = few }) fine.0

ended_kept : (s : Scope) (n : ℕ) (p : Place) (sm : Option (Sign × Tree)) (fs : List Frame)
    (t : Tree) (e : End) → Held s n (record { place = p; sum = sm; product = None }) fs (nodes t)
    → IsPrintable s t
    → Kept s (ended (st n (record { place = p; sum = sm; product = None }) fs Primary) t e)
ended_kept s n p sm fs t Comma h fine =
    let all = product_of sm t in
    moved_kept s n (place_nodes p + nodes all) (record { place = p; sum = sm; product = None }) fs
    (after_comma p all) h.rest (omega (arith, h.count, product_nodes sm t)) h.few
    (comma_fits s p all h.top.place (product_fits s sm t h.top.sum fine))
ended_kept s n p sm fs t (Compare' o) h fine =
    let all = product_of sm t in
    moved_kept s n (place_nodes p + nodes all) (record { place = p; sum = sm; product = None }) fs
    (after_compare o p all) h.rest (omega (arith, h.count, product_nodes sm t)) h.few
    (compare_fits s o p all h.top.place (product_fits s sm t h.top.sum fine))
ended_kept s n p sm fs t Close h fine =
    let all = product_of sm t in
    shut_kept s n (place_nodes p + nodes all) (record { place = p; sum = sm; product = None }) fs
    (closed p all) h.rest (omega (arith, h.count, product_nodes sm t)) h.few
    (closed_fits s p all h.top.place (product_fits s sm t h.top.sum fine))

at_operator_kept : (s : Scope) (n : ℕ) (p : Place) (sm : Option (Sign × Tree)) (fs : List Frame)
    (t : Tree) (k : Token) → Held s n (record { place = p; sum = sm; product = None }) fs (nodes t)
    → IsPrintable s t
    → Kept s (at_operator (st n (record { place = p; sum = sm; product = None }) fs Primary) t k)
at_operator_kept s n p sm fs t (number m) h fine = tt
at_operator_kept s n p sm fs t (word w) h fine = tt
at_operator_kept s n p sm fs t at_most h fine = ended_kept s n p sm fs t (Compare' AtMost) h fine
at_operator_kept s n p sm fs t (dash m) h fine = plus_kept s n p sm fs Minus t h fine
at_operator_kept s n p sm fs t (mark b) h fine =
    kept_if s (b == 43) _ _ (λ e. plus_kept s n p sm fs Plus t h fine)
    (kept_if s (b == 42) _ _ (λ e. times_kept s n p sm fs Times t h fine)
    (kept_if s (b == 47) _ _ (λ e. times_kept s n p sm fs Over t h fine)
    (kept_if s (b == 44) _ _ (λ e. ended_kept s n p sm fs t Comma h fine)
    (kept_if s (b == 41) _ _ (λ e. ended_kept s n p sm fs t Close h fine)
    (kept_if s (b == 60) _ _ (λ e. ended_kept s n p sm fs t (Compare' Less) h fine)
    (kept_if s (b == 61) _ _ (λ e. ended_kept s n p sm fs t (Compare' Equal) h fine) tt))))))

index_kept : (s : Scope) (n : ℕ) (f : Frame) (fs : List Frame) (l : Lane) (k : Token)
    → Held s n f fs 1 → part_is s.part l → Kept s (at_index s (st n f fs Primary) l k)
index_kept s n f fs l (number m) h fine =
    kept_if s (nat_lt m s.lanes) _ _
    (λ e. record { held = lane_held l; due = lane_fine l fine e; clear = tt }) tt
  where
    lane_held : (l : Lane) → Held s n f fs (nodes (lane_of l m))
    lane_held Val = h
    lane_held Agg = h
    lane_held Old = h

    lane_fine : (l : Lane) → part_is s.part l → nat_lt m s.lanes ≡ true
        → IsPrintable s (lane_of l m)
    lane_fine Val e on = (e, nat_lt_below m s.lanes on)
    lane_fine Agg e on = (e, nat_lt_below m s.lanes on)
    lane_fine Old e on = (e, nat_lt_below m s.lanes on)
index_kept s n f fs l (word w) h fine = tt
index_kept s n f fs l at_most h fine = tt
index_kept s n f fs l (dash m) h fine = tt
index_kept s n f fs l (mark b) h fine = tt

first_nodes : (c : Call) → place_nodes (first_of c) ≡ 1
first_nodes Min = refl
first_nodes Max = refl
first_nodes Clamp = refl
first_nodes If = refl

first_fits : (s : Scope) (c : Call) → PlaceFits s (first_of c)
first_fits s Min = tt
first_fits s Max = tt
first_fits s Clamp = tt
first_fits s If = tt

due_kept : (s : Scope) (n : ℕ) (p : Place) (sm : Option (Sign × Tree)) (pr : Option (Factor × Tree))
    (fs : List Frame) (d : Due) (k : Token)
    → Held s n (record { place = p; sum = sm; product = pr }) fs (due_nodes d) → DueFits s d
    → IsClear d pr
    → Kept s (due_step s (st n (record { place = p; sum = sm; product = pr }) fs Primary) d k)
due_kept s n p sm pr fs Primary k h fine clear = at_operand_kept s n p sm pr fs k h
due_kept s n p sm pr fs (Digits t) k h fine clear = taken_kept s n p sm pr fs t h fine
due_kept s n p sm pr fs (OpenParen c) k h fine clear =
    kept_if s (is_mark 40 k) _ _ (λ e. opened_kept s n
    (record { place = p; sum = sm; product = pr }) fs Primary (first_of c)
    (let P : ℕ → Type 0 = λ m. Held s n (record { place = p; sum = sm; product = pr }) fs m in
    subst P (sym (first_nodes c)) h) (first_fits s c)) tt
due_kept s n p sm pr fs (OpenBracket l) k h fine clear =
    kept_if s (is_mark 91 k) _ _ (λ e. record { held = h; due = fine; clear = tt }) tt
due_kept s n p sm pr fs (Index l) k h fine clear =
    index_kept s n (record { place = p; sum = sm; product = pr }) fs l k h fine
due_kept s n p sm pr fs (CloseBracket t) k h fine clear =
    kept_if s (is_mark 93 k) _ _ (λ e. taken_kept s n p sm pr fs t h fine) tt
due_kept s n p sm None fs (Operator t) k h fine clear = at_operator_kept s n p sm fs t k h fine
due_kept s n p sm (Some q) fs (Operator t) k h fine clear = absurd (let no : ⊥ = cc in no)

-- each step keeps what is read good
pub step_kept : (s : Scope) (r : Reading) (k : Token) → Good s r → Kept s (step s r k)
unfolding step
step_kept s r k g =
    due_kept s r.nodes r.top.place r.top.sum r.top.product r.below r.due k g.held g.due g.clear
