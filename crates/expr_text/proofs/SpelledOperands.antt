-- Operands that are read are spelled.
use Rattle.std.proofs.Common.{◌≡◌, ℕ, ◌+◌, ◌<◌, ◌≤◌, Bool, true, false, cond, List, [], ◌∷◌, ◌++◌}
use Rattle.std.proofs.Common.{length, Option, Some, None, Result, Ok, Err, refl, sym, ◌∙◌, ap}
use Rattle.std.proofs.Common.{subst, arith, suc, zero}
use Rattle.std.proofs.lemmas.List.{append_assoc, append-nil}
use Rattle.std.specs.Prelude.{◌==◌, nat_lt, nat_le}
use Rattle.std.proofs.lemmas.Bool.Decides.{nat_tests}
use Rattle.vertex_expr.specs.Tree.{Tree, sums, products, operands}
use Rattle.text_words.specs.Token.{Token}
use Rattle.expr_text.specs.declared.reading.Cause.{Cause}
use Rattle.expr_text.specs.declared.reading.Cause.TheVariants.{TooBig}
use Rattle.expr_text.specs.declared.reading.Sign.{Sign}
use Rattle.expr_text.specs.declared.reading.Factor.{Factor}
use Rattle.expr_text.specs.declared.reading.Place.{Place}
use Rattle.expr_text.specs.declared.reading.Frame.{Frame}
use Rattle.expr_text.specs.declared.reading.Due.{Due}
use Rattle.expr_text.specs.declared.reading.Due.TheVariants.{Primary}
use Rattle.expr_text.specs.declared.reading.Reading.{Reading}
use Rattle.vertex_expr.specs.Writable.{Scope}
use Rattle.expr_text.specs.Reading.{counted, opened, taken, fresh, ◌>>=◌, signed, scaled}
use Rattle.expr_text.specs.Reading.{product_of, factor_of}
use Rattle.expr_text.specs.Grammar.{factor_mark, Spells, product, sum, operand, multiple}
use Rattle.expr_text.proofs.KeptParts.{nat_lt_below}
use Rattle.expr_text.proofs.SpelledParts.{SumSpelled, ProductSpelled, PlaceSpelled, OpenSpelled}
use Rattle.expr_text.proofs.SpelledParts.{DueSpelled, IsClear, IsRead, Follows, st, frame}

-- the tests
pub at_most_of : (k n : ℕ) → nat_le k n ≡ true → k ≤ n
at_most_of k n e = grind (arith, nat_tests)

pub nat_eq_is : (k n : ℕ) → (k == n) ≡ true → k ≡ n
nat_eq_is k n e = grind (arith, nat_tests)

pub follows_either : (s : Scope) (x : List Token) (b : Bool) (f g : Result Reading Cause)
    → (b ≡ true → Follows s x f) → Follows s x g → Follows s x (cond b f g)
follows_either s x true f g h i = h refl
follows_either s x false f g h i = i

pub counted_follows : (s : Scope) (x : List Token) (r : Reading)
    (g : Reading → Result Reading Cause) → Follows s x (g (record r { nodes = r.nodes + 1 }))
    → Follows s x (counted r >>= g)
unfolding counted
counted_follows s x r g h = split (nat_lt r.nodes 256)
  where
    split : (b : Bool) → Follows s x
        (cond b (Ok (record r { nodes = r.nodes + 1 })) (Err TooBig) >>= g)
    split true = h
    split false = tt

-- a product and a sum are complete
pub product_done : (s : Scope) (r : ℕ) (pr : Option (Factor × Tree)) (y z : List Token) (t : Tree)
    → ProductSpelled s r pr y → Spells s r operands t z
    → Spells s r products (factor_of pr t) (y ++ z)
product_done s r None y z t e d =
    subst (λ (l : List Token). Spells s r products t (l ++ z)) (sym e) (operand r t z d)
product_done s r (Some (o, a)) y z t h d =
    subst (Spells s r products (scaled o a t))
    (sym (ap (λ (l : List Token). l ++ z) h.2 ∙ append_assoc h.0 (factor_mark o ∷ []) z))
    (multiple r o a t h.0 z h.1 d)

pub sum_done : (s : Scope) (r : ℕ) (sm : Option (Sign × Tree)) (y z : List Token) (t : Tree)
    → SumSpelled s r sm y → Spells s r products t z → Spells s r sums (product_of sm t) (y ++ z)
sum_done s r None y z t e d =
    subst (λ (l : List Token). Spells s r sums t (l ++ z)) (sym e) (product r t z d)
sum_done s r (Some (o, a)) y z t h d =
    subst (Spells s r sums (signed o a t))
    (sym (ap (λ (l : List Token). l ++ z) h.4 ∙ append_assoc h.0 (h.1 ∷ []) z))
    (sum r o h.1 a t h.0 z h.2 h.3 d)

-- an operand was read
pub taken_follows : (s : Scope) (r n : ℕ) (p : Place) (sm : Option (Sign × Tree))
    (pr : Option (Factor × Tree)) (fs : List Frame) (x z : List Token) (t : Tree)
    → length fs + r ≡ 32
    → OpenSpelled s r p sm pr fs x → Spells s r operands t z
    → IsRead s (taken (st n (frame p sm pr) fs Primary) t) (x ++ z)
taken_follows s r n p sm pr fs x z t deep h d = record {
  room = r;
  deep = deep;
  before = h.outer ++ (h.left ++ []);
  begun = h.factor ++ z;
  opening =
      record {
        outer = h.outer;
        left = h.left;
        factor = [];
        outer_spelled = h.outer_spelled;
        left_spelled = h.left_spelled;
        factor_spelled = refl;
        all = refl;
      };
  due = product_done s r pr h.factor z t h.factor_spelled d;
  clear = refl;
  all =
      ap (λ (l : List Token). l ++ z) h.all ∙ append_assoc h.outer (h.left ++ h.factor) z
      ∙ ap (λ (l : List Token). h.outer ++ l) (append_assoc h.left h.factor z)
      ∙ ap (λ (l : List Token). h.outer ++ (l ++ (h.factor ++ z))) (sym (append-nil h.left))
      ∙ sym (append_assoc h.outer (h.left ++ []) (h.factor ++ z));
}

-- the same where a part of the operand was read before
pub taken_with : (s : Scope) (r n : ℕ) (p : Place) (sm : Option (Sign × Tree))
    (pr : Option (Factor × Tree)) (fs : List Frame) (x b : List Token) (k : Token) (t : Tree)
    → length fs + r ≡ 32
    → OpenSpelled s r p sm pr fs x → Spells s r operands t (b ++ k ∷ [])
    → IsRead s (taken (st n (frame p sm pr) fs Primary) t) ((x ++ b) ++ k ∷ [])
taken_with s r n p sm pr fs x b k t deep h d =
    subst (IsRead s (taken (st n (frame p sm pr) fs Primary) t)) (sym (append_assoc x b (k ∷ [])))
    (taken_follows s r n p sm pr fs x (b ++ k ∷ []) t deep h d)

-- a part of an operand was read
pub waiting_is_read : (s : Scope) (r n : ℕ) (p : Place) (sm : Option (Sign × Tree))
    (pr : Option (Factor × Tree)) (fs : List Frame) (x b : List Token) (k : Token) (d : Due)
    → length fs + r ≡ 32
    → OpenSpelled s r p sm pr fs x → DueSpelled s r d (b ++ k ∷ []) → IsClear d pr
    → IsRead s (st n (frame p sm pr) fs d) ((x ++ b) ++ k ∷ [])
waiting_is_read s r n p sm pr fs x b k d deep h due clear =
    record {
      room = r;
      deep = deep;
      before = x;
      begun = b ++ k
          ∷ [];
      opening = h;
      due = due;
      clear = clear;
      all = append_assoc x b (k ∷ []);
    }

-- a parenthesis opens
pub opened_follows : (s : Scope) (r n : ℕ) (p : Place) (sm : Option (Sign × Tree))
    (pr : Option (Factor × Tree)) (fs : List Frame) (q : Place) (x z : List Token)
    → length fs + r ≡ 32
    → OpenSpelled s r p sm pr fs x → ((m : ℕ) → PlaceSpelled s m q z)
    → Follows s (x ++ z) (opened (st n (frame p sm pr) fs Primary) q)
unfolding opened
opened_follows s zero n p sm pr fs q x z deep h place = split (nat_lt (length fs) 32) refl
  where
    split : (b : Bool) → nat_lt (length fs) 32 ≡ b
        → Follows s (x ++ z) (cond b (Ok (st n (fresh q) (frame p sm pr ∷ fs) Primary))
        (Err TooBig))
    split true e = let few : length fs < 32 = nat_lt_below (length fs) 32 e in absurd (omega arith)
    split false e = tt
opened_follows s (suc r) n p sm pr fs q x z deep h place = split (nat_lt (length fs) 32)
  where
    split : (b : Bool) → Follows s (x ++ z)
        (cond b (Ok (st n (fresh q) (frame p sm pr ∷ fs) Primary)) (Err TooBig))
    split true = record {
      room = r;
      deep = omega arith;
      before = h.outer ++ (h.left ++ (h.factor ++ z)) ++ ([] ++ []);
      begun = [];
      opening = record {
        outer = h.outer ++ (h.left ++ (h.factor ++ z));
        left = [];
        factor = [];
        outer_spelled = (
          h.outer,
          h.left,
          h.factor,
          z,
          h.outer_spelled,
          h.left_spelled,
          h.factor_spelled,
          place
              r,
          refl,
        );
        left_spelled = refl;
        factor_spelled = refl;
        all = refl;
      };
      due = refl;
      clear = tt;
      all =
          ap (λ (l : List Token). l ++ z) h.all ∙ append_assoc h.outer (h.left ++ h.factor) z
          ∙ ap (λ (l : List Token). h.outer ++ l) (append_assoc h.left h.factor z)
          ∙ sym (append-nil (h.outer ++ (h.left ++ (h.factor ++ z))))
          ∙ sym (append-nil ((h.outer ++ (h.left ++ (h.factor ++ z))) ++ []));
    }
    split false = tt
