-- Which entries are kept, and what is read from them.
use Rattle.std.proofs.Common.{◌≡◌, ◌≢◌, ℕ, ℤ, zero, suc, ◌+◌, ◌-◌, ◌<◌, ◌≤◌, Bool, true, false}
use Rattle.std.proofs.Common.{List, ◌∷◌, length, get_or, take, reverse, min, refl, sym, ap, ◌∙◌}
use Rattle.std.proofs.Common.{arith, inl, inr, length-take}
use Rattle.std.specs.Ordering.{int_eq}
use Rattle.std.specs.List.{suffix_len}
use Rattle.std.specs.Cmp.{signed_Decides}
use Rattle.std.specs.Cmp.Lexicographic.{pointwise}
use Rattle.std.specs.Bool.{Decides}
use Rattle.std.proofs.lemmas.Slice.Eq.{slice_eq-Decides}
use Rattle.std.proofs.lemmas.Bool.{cases_lt, and_parts, and_from}
use Rattle.std.proofs.lemmas.List.{get_or-take, get_or-reverse, length-reverse, take_all}
use Rattle.std.proofs.lemmas.List.Sums.{suffix_len-le-length, prefix_len_passes, prefix_len_stops}
use Rattle.bolt_base.specs.Keep.{Entry, same_entry, no_entry, last_of, rest_at, stored, read}
use Rattle.bolt_base.specs.Laws.{IsRest}

numbers_Decide : (a b : List ℤ) → Decides (pointwise int_eq a b) (a ≡ b)
numbers_Decide a b = slice_eq-Decides signed_Decides a b (pointwise int_eq a b) refl

pub same_entry_Decides : (a b : Entry) → Decides (same_entry a b) (a ≡ b)
same_entry_Decides a b = (
  (λ h. let parts = and_parts (pointwise int_eq a.0 b.0) (pointwise int_eq a.1 b.1) h in
      let p = (numbers_Decide a.0 b.0).0 parts.0 in let q = (numbers_Decide a.1 b.1).0 parts.1 in λ
      i. (p i, q i)),
  (λ e. and_from _ _ ((numbers_Decide a.0 b.0).1 (ap (λ (x : Entry). x.0) e))
      ((numbers_Decide a.1 b.1).1 (ap (λ (x : Entry). x.1) e))),
)

module _ (es : List Entry) (some : 0 < length es) where
  abbrev p : Entry → Bool
  p e = same_entry e (last_of es)

  -- the k-th from the back
  from_back : (j k : ℕ) → j + k + 1 ≡ length es
      → get_or (reverse es) k no_entry ≡ get_or es j no_entry
  from_back j k e = get_or-reverse es k no_entry (omega arith)
      ∙ ap (λ i. get_or es i no_entry) (let f : length es - 1 - k ≡ j = omega arith in f)

  last_passes : p (last_of es) ≡ true
  last_passes = (same_entry_Decides (last_of es) (last_of es)).1 refl

  some_pass : suffix_len p es ≡ 0 → ⊥
  some_pass none =
      let stops = prefix_len_stops p (reverse es) no_entry (omega (arith, length-reverse es)) in
      let first : get_or (reverse es) (suffix_len p es) no_entry
      ≡ last_of es = from_back (length es - 1) (suffix_len p es) (omega arith) in
      let a : p (last_of es) ≡ false = sym (ap p first) ∙ stops in
      cc last_passes

  pub rest_below : rest_at es < length es
  rest_below = elim (cases_lt 0 (suffix_len p es)) [
    | inl h ↦ omega arith
    | inr h ↦ absurd (some_pass (omega arith))
  ]

  pub entries_from_rest_are_last : (j : ℕ) → rest_at es ≤ j → j < length es
      → get_or es j no_entry ≡ last_of es
  entries_from_rest_are_last j h l =
      let k = length es - 1 - j in
      let passes = prefix_len_passes p (reverse es) k no_entry (omega arith) in
      (same_entry_Decides (get_or es j no_entry) (last_of es)).0
      (ap p (sym (from_back j k (omega arith))) ∙ passes)

  pub differs_before_rest : 0 < rest_at es → get_or es (rest_at es - 1) no_entry ≢ last_of es
  differs_before_rest h e =
      let fewer = suffix_len-le-length p es in
      let stops = prefix_len_stops p (reverse es) no_entry (omega (arith, length-reverse es)) in
      let here : get_or (reverse es) (suffix_len p es) no_entry
      ≡ get_or es (rest_at es - 1) no_entry = from_back (rest_at es - 1) (suffix_len p es)
      (omega arith) in
      let a : p (last_of es) ≡ false = sym (ap p (here ∙ e)) ∙ stops in
      cc last_passes

  pub is_rest : IsRest es (rest_at es)
  is_rest = record {
    inside = rest_below;
    equal = entries_from_rest_are_last;
    before = differs_before_rest;
  }

-- no earlier iteration will do
pub rest_least : (es : List Entry) (n : ℕ) → IsRest es n → (m : ℕ)
    → ((j : ℕ) → m ≤ j → j < length es → get_or es j no_entry ≡ last_of es) → n ≤ m
rest_least es n rest m equal = elim (cases_lt m n) [
  | inl l ↦ let inside = rest.inside in absurd
      (rest.before (omega arith) (equal (n - 1) (omega arith) (omega arith)))
  | inr l ↦ l
]

-- one iteration alone is such
pub rest_only : (es : List Entry) (n : ℕ) → IsRest es n → n ≡ rest_at es
rest_only es n rest =
    let inside = rest.inside in
    let own = is_rest es (omega arith) in
    let a : n ≤ rest_at es = rest_least es n rest (rest_at es) own.equal in
    let b : rest_at es ≤ n = rest_least es (rest_at es) own n rest.equal in
    omega arith

-- ---- what is read
in_front : (first : Entry) (more : List Entry) (k i : ℕ) → i ≤ k
    → get_or (first ∷ take k more) i no_entry ≡ get_or (first ∷ more) i no_entry
in_front first more k zero h = refl
in_front first more k (suc i) h = get_or-take k more i no_entry (omega arith)

pub read_stored : (vertical : Bool) (first : Entry) (more : List Entry) (j : ℕ) → j ≤ length more
    → read first (stored vertical (first ∷ more)) j ≡ get_or (first ∷ more) j no_entry
read_stored true first more j h =
    let es : List Entry = first ∷ more in
    let below : rest_at es < length es = rest_below es (omega arith) in
    let long : length (take (rest_at es) more)
    ≡ rest_at es = omega (arith, length-take (rest_at es) more) in
    ap (λ n. get_or (first ∷ take (rest_at es) more) (min j n) no_entry) long
    ∙ elim (cases_lt (rest_at es) j) [
      | inl l ↦ ap (λ n. get_or (first ∷ take (rest_at es) more) n no_entry)
          (let m : min j (rest_at es) ≡ rest_at es = omega arith in m)
          ∙ in_front first more (rest_at es) (rest_at es) (omega arith)
          ∙ entries_from_rest_are_last es (omega arith) (rest_at es) (omega arith) below
          ∙ sym (entries_from_rest_are_last es (omega arith) j (omega arith) (omega arith))
      | inr l ↦ ap (λ n. get_or (first ∷ take (rest_at es) more) n no_entry)
          (let m : min j (rest_at es) ≡ j = omega arith in m) ∙ in_front first more (rest_at es) j l
    ]
read_stored false first more j h =
    let all : take (length (first ∷ more) - 1) more
    ≡ more = take_all (length (first ∷ more) - 1) more (omega arith) in
    ap (λ kept. read first kept j) all
    ∙ ap (λ n. get_or (first ∷ more) n no_entry)
    (let m : min j (length more) ≡ j = omega arith in m)
