-- Params are found by their names.
use Rattle.std.proofs.Common.{◌≡◌, ℕ, zero, suc, ◌+◌, ◌<◌, ◌≤◌, Bool, true, false, cond, List, []}
use Rattle.std.proofs.Common.{◌∷◌, length, take, Some, None, refl, ◌∙◌, ap, arith}
use Rattle.std.specs.Prelude.{◌==◌, ◌||◌, ◌&&◌, not, nat_lt, codes, position, slice_index_or}
use Rattle.std.specs.Str.{bytes_eq}
use Rattle.std.specs.List.{prefix_len, list_any, list_all, position_or_len}
use Rattle.std.specs.Char.{is_ascii_lowercase}
use Rattle.std.proofs.lemmas.Bool.Decides.{nat_tests}
use Rattle.vertex_expr.specs.Tree.{param}
use Rattle.vertex_expr.specs.Names.{is_name_byte, is_name, is_taken, is_reserved, param_name}
use Rattle.vertex_expr.specs.Names.{AreNames}
use Rattle.vertex_expr.specs.Writable.{Scope}
use Rattle.expr_text.specs.Reading.{Meaning, meaning_of, leaf, param_of}
use Rattle.expr_text.proofs.Canonical.{HasNames}
use Rattle.text_words.proofs.Lexing.{Passes}
use Rattle.text_words.proofs.FieldLemmas.{list_passes}
use Rattle.expr_text.proofs.Lexed.{HasForms, IsWord}

or_false : (x y : Bool) → (x || y) ≡ false → (x ≡ false) × (y ≡ false)
or_false true true e = (e, e)
or_false true false e = (e, refl)
or_false false true e = (refl, e)
or_false false false e = (refl, refl)

cond_second : (b : Bool) (x y z : Meaning) → b ≡ false → y ≡ z → cond b x y ≡ z
cond_second b x y z e f = ap (λ d. cond d x y) e ∙ f

cond_false : (b c : Bool) → cond b true c ≡ false → (b ≡ false) × (c ≡ false)
cond_false true c e = absurd (let no : ⊥ = cc in no)
cond_false false c e = (refl, e)

-- the first name that equals a word
found_at : (p : List ℕ → Bool) (xs : List (List ℕ)) (k : ℕ) → k < length xs
    → list_any p (take k xs) ≡ false → p (slice_index_or xs k []) ≡ true
    → prefix_len (λ x. not (p x)) xs ≡ k
found_at p [] k l e f = absurd (omega arith)
found_at p (x ∷ xs) zero l e f = ap (λ b. cond (not b) (1 + prefix_len (λ y. not (p y)) xs) 0) f
found_at p (x ∷ xs) (suc k) l e f =
    let h = or_false (p x) (list_any p (take k xs)) e in
    ap (λ b. cond (not b) (1 + prefix_len (λ y. not (p y)) xs) 0) h.0
    ∙ ap (λ n. 1 + n) (found_at p xs k (omega arith) h.1 f)
    ∙ (let g : 1 + k ≡ suc k = omega arith in g)

param_means : (s : Scope) (w : List ℕ) (k : ℕ) → is_reserved w ≡ false
    → position (λ p. bytes_eq p w) s.params ≡ Some k → meaning_of s w ≡ leaf (param k)
unfolding meaning_of is_reserved
param_means s w k free at =
    let a1 = or_false _ (bytes_eq w (codes "if")) free in
    let a2 = or_false _ (bytes_eq w (codes "clamp")) a1.0 in
    let a3 = or_false _ (bytes_eq w (codes "max")) a2.0 in
    let a4 = or_false _ (bytes_eq w (codes "min")) a3.0 in
    let a5 = or_false _ (bytes_eq w (codes "old")) a4.0 in
    let a6 = or_false _ (bytes_eq w (codes "agg")) a5.0 in
    let a7 = or_false _ (bytes_eq w (codes "id")) a6.0 in
    let a8 = or_false _ (bytes_eq w (codes "attr")) a7.0 in
    let a9 = or_false _ (bytes_eq w (codes "weight")) a8.0 in
    let a10 = or_false (bytes_eq w (codes "val")) (bytes_eq w (codes "outdeg")) a9.0 in
    cond_second (bytes_eq w (codes "min")) _ _ _ a4.1
    (cond_second (bytes_eq w (codes "max")) _ _ _ a3.1
    (cond_second (bytes_eq w (codes "clamp")) _ _ _ a2.1
    (cond_second (bytes_eq w (codes "if")) _ _ _ a1.1
    (cond_second (bytes_eq w (codes "attr")) _ _ _ a8.1
    (cond_second (bytes_eq w (codes "id")) _ _ _ a7.1
    (cond_second (bytes_eq w (codes "val")) _ _ _ a10.0
    (cond_second (bytes_eq w (codes "outdeg")) _ _ _ a10.1
    (cond_second (bytes_eq w (codes "weight")) _ _ _ a9.1
    (cond_second (bytes_eq w (codes "agg")) _ _ _ a6.1
    (cond_second (bytes_eq w (codes "old")) _ _ _ a5.1 (ap param_of at)))))))))))

bytes_same : (w : List ℕ) → bytes_eq w w ≡ true
bytes_same [] = refl
bytes_same (b ∷ bs) = ap (λ d. d && bytes_eq bs bs) (one b) ∙ bytes_same bs
  where
    one : (b : ℕ) → (b == b) ≡ true
    one b = grind (arith, nat_tests)

pub names_found : (s : Scope) → AreNames s.params → HasNames s
unfolding is_taken
names_found s h = record {
  means = λ k l.
      let w = param_name s.params k in
      let p : List ℕ → Bool = λ x. bytes_eq x w in
      let f = cond_false (is_reserved w) (list_any p (take k s.params)) (h.free k l) in
      let n : position_or_len p s.params ≡ k = found_at p s.params k l f.1 (bytes_same w) in
      param_means s w k f.0 (ap (λ m. cond (nat_lt m (length s.params)) (Some m) None) n
      ∙ ap (λ b. cond b (Some k) None) (on k (length s.params) l));
}
  where
    on : (k n : ℕ) → k < n → nat_lt k n ≡ true
    on k n l = grind (arith, nat_tests)

a_word : (w : List ℕ) → is_name w ≡ true → IsWord w
unfolding is_name
a_word [] e = absurd (let no : ⊥ = cc in no)
a_word (b ∷ bs) e =
    pick (length (b ∷ bs) == 0) (nat_lt 32 (length (b ∷ bs))) (is_ascii_lowercase b) e
    (λ f. list_passes is_name_byte (b ∷ bs) f)
  where
    pick : (empty long first : Bool)
        → cond empty false (cond long false (cond first (list_all is_name_byte (b ∷ bs)) false))
        ≡ true → (list_all is_name_byte (b ∷ bs) ≡ true → Passes is_name_byte (b ∷ bs))
        → (first ≡ true) × Passes is_name_byte (b ∷ bs)
    pick true long first e f = absurd (let no : ⊥ = cc in no)
    pick false true first e f = absurd (let no : ⊥ = cc in no)
    pick false false true e f = (refl, f e)
    pick false false false e f = absurd (let no : ⊥ = cc in no)

pub forms_found : (s : Scope) → s.lanes ≤ 8 → AreNames s.params → HasForms s
forms_found s few h =
    record { lanes = omega arith; words = λ k l. a_word (param_name s.params k) (h.form k l) }
