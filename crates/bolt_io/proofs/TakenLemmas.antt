-- Reads of a slot, one after another.
use Rattle.std.specs.Prelude.{◌≡◌, ◌≢◌, ℕ, ◌+◌, ◌-◌, ◌<◌, ◌≤◌, min, List, [], ◌∷◌, ◌++◌, length}
use Rattle.std.specs.Prelude.{take, drop, Option, Some, None, IfSome, slice_set}
use Rattle.std.specs.Option.{option_map}
use Rattle.std.proofs.Common.{refl, sym, ◌∙◌, ap, subst, arith, add-zero, add_assoc, length-append}
use Rattle.std.proofs.Common.{length-drop, take-add}
use Rattle.std.proofs.lemmas.List.{append-nil, set-get_or, get_or-set_same, take-append-drop}
use Rattle.std.proofs.lemmas.List.{length-take-le, length-take, get_or_push, get_or_append_left}
use Rattle.std.proofs.lemmas.List.{get_or-set_other, take-take, take-append-le, take_all}
use Rattle.std.proofs.Math.Seq.{set-set, drop-drop, take-append-add}
use borrow.Rule.Slice.PartMut.{put_mid, post_of}
use Rattle.bolt_io.specs.Told.{Told, bytes_of, no_slot, slot_at, taken_of, file_of, left, opened_at}
use Rattle.bolt_io.specs.Told.{taken_from, GivesNext, TellsSlots, Took, IsWithinFile, IsTakenWhole}
use Rattle.bolt_io.specs.declared.files.Slot.{Slot}

module _ (k : ℕ) (t : Told) where
  -- no byte more was taken
  pub taken_from-none : taken_from k 0 t ≡ t
  taken_from-none =
      let s = slot_at t.slots k in
      let same : (let x : Slot = record { name = s.name; taken = s.taken + 0 } in x)
      ≡ s = (λ i. record { name = s.name; taken = add-zero s.taken i }) in
      ap (λ (l : List Slot). (let x : Told = record { files = t.files; slots = l } in x))
      (ap (λ (x : Slot). slice_set t.slots k x) same ∙ set-get_or t.slots k no_slot)

  module _ (m n : ℕ) (below : k < length t.slots) where
    -- the slot after m bytes more
    pub slot_at-taken_from : slot_at (taken_from k m t).slots k ≡ record {
      name = (slot_at t.slots k).name;
      taken = (slot_at t.slots k).taken + m;
    }
    slot_at-taken_from = get_or-set_same t.slots k _ no_slot below

    -- m bytes and then n more are m + n
    pub taken_from-twice : taken_from k n (taken_from k m t) ≡ taken_from k (m + n) t
    taken_from-twice =
        let s = slot_at t.slots k in
        let x : Slot = record { name = s.name; taken = s.taken + m } in
        let told : List Slot → Told = λ (l : List Slot). record { files = t.files; slots = l } in
        let put : Slot → List Slot = λ (y : Slot). slice_set (slice_set t.slots k x) k
        (record { name = y.name; taken = y.taken + n }) in
        let last : ℕ → List Slot = λ (j : ℕ). slice_set t.slots k
        (record { name = s.name; taken = j }) in
        ap told (ap put slot_at-taken_from
        ∙ set-set t.slots k x (record { name = s.name; taken = s.taken + m + n })
        ∙ ap last (add_assoc s.taken m n))

    -- what is left after m bytes more
    pub left-taken_from : left (taken_from k m t) k ≡ drop m (left t k)
    left-taken_from =
        let s = slot_at t.slots k in
        let rest : Slot → List ℕ = λ (y : Slot). drop y.taken (bytes_of t.files y.name) in
        ap rest slot_at-taken_from ∙ sym (drop-drop m s.taken (bytes_of t.files s.name))

    -- how many were taken after m bytes more
    pub taken_of-taken_from : taken_of (taken_from k m t) k ≡ taken_of t k + m
    taken_of-taken_from = ap (λ (y : Slot). y.taken) slot_at-taken_from

    -- the slot's file stays
    pub file_of-taken_from : file_of (taken_from k m t) k ≡ file_of t k
    file_of-taken_from = ap (λ (y : Slot). bytes_of t.files y.name) slot_at-taken_from

-- before the first read
pub Took-none : (old : Option Told) (k : ℕ) → Took old old k []
Took-none None k = record { told = refl; bytes = tt }
Took-none (Some t) k = record {
  told = ap (λ (x : Told). Some x) (sym (taken_from-none k t));
  bytes = refl;
}

-- one read more
pub Took-then : (a b c : Option Told) (k n : ℕ) (s buf : List ℕ)
    → IfSome a (λ t. k < length t.slots) → Took a b k s → c ≡ option_map (taken_from k n) b
    → IfSome b (λ t. GivesNext (left t k) n buf) → n ≤ length buf → Took a c k (s ++ take n buf)
Took-then None b c k n s buf below so_far told gives within = record {
  told = told ∙ ap (option_map (taken_from k n)) so_far.told;
  bytes = tt;
}
Took-then (Some t) b c k n s buf below so_far told gives within =
    let m = length s in
    let mid = taken_from k m t in
    let P : Option Told → Type 0 = λ o. IfSome o (λ x. GivesNext (left x k) n buf) in
    let now : GivesNext (left mid k) n buf = subst P so_far.told gives in
    let size : length (s ++ take n buf) ≡ m + n = length-append s (take n buf)
    ∙ ap (λ (j : ℕ). m + j) (length-take-le n buf within) in
    let piece : take n buf ≡ take n (drop m (left t k)) = now.bytes
    ∙ ap (λ (l : List ℕ). take n l) (left-taken_from k t m n below) in
    record {
      told = told ∙ ap (option_map (taken_from k n)) so_far.told
          ∙ ap (λ (x : Told). Some x)
          (taken_from-twice k t m n below ∙ ap (λ (j : ℕ). taken_from k j t) (sym size));
      bytes = ap (λ (l : List ℕ). l ++ take n buf) so_far.bytes
          ∙ ap (λ (l : List ℕ). take m (left t k) ++ l) piece ∙ sym (take-add m n (left t k))
          ∙ ap (λ (j : ℕ). take j (left t k)) (sym size);
    }

-- what stands in front of a list after a read into its places from one on
pub filled_front : (view buf : List ℕ) (at k n : ℕ) → at ≤ length view → n ≤ length buf
    → take (at + n) (put_mid at k view buf) ≡ take at view ++ take n buf
filled_front view buf at k n inside within =
    let size : length (take at view) ≡ at = length-take-le at view inside in
    let rest = post_of at k view in
    let front : take (length (take at view) + n) (take at view ++ (buf ++ rest))
    ≡ take at view ++ take n (buf ++ rest) = take-append-add (take at view) (buf ++ rest) n in
    ap (λ (j : ℕ). take (j + n) (take at view ++ (buf ++ rest))) (sym size) ∙ front
    ∙ ap (λ (l : List ℕ). take at view ++ l) (take-append-le n buf rest within)

-- what a vector has after places were made ready behind its items, a read has filled the first n of
-- them, and the others were dropped
pub read_behind : (old ready view items buf rest : List ℕ) (at k n len most : ℕ)
    → at ≡ length old → at ≤ most → ready ≡ take most old ++ rest → view ≡ ready
    → n ≤ length buf → at + n ≤ len
    → items ≡ take (at + n)
    (take len (put_mid at k view buf ++ drop (length (put_mid at k view buf)) ready))
    → items ≡ old ++ take n buf
read_behind old ready view items buf rest at k n len most begins few grown seen within room is =
    let filled = put_mid at k view buf in
    let size : length view ≡ length (take most old) + length rest =
    ap length (seen ∙ grown) ∙ length-append (take most old) rest in
    let inside : at ≤ length view = omega (arith, size, length-take most old, begins, few) in
    let long : at + n ≤ length filled =
    omega (
      arith,
      length-append (take at view) (buf ++ post_of at k view),
      length-append buf (post_of at k view),
      length-take-le at view inside,
      within,
    ) in
    let front : take at view ≡ old =
    ap (take at) (seen ∙ grown)
    ∙ ap (λ (l : List ℕ). take at (l ++ rest)) (take_all most old (omega (arith, begins, few)))
    ∙ take-append-le at old rest (omega (arith, begins))
    ∙ take_all at old (omega (arith, begins)) in
    is ∙ take-take (at + n) len (filled ++ drop (length filled) ready) room
    ∙ take-append-le (at + n) filled (drop (length filled) ready) long
    ∙ filled_front view buf at k n inside within
    ∙ ap (λ (l : List ℕ). l ++ take n buf) front

-- a read of nothing, which is the end
pub Took-end : (a b c : Option Told) (k : ℕ) (s buf : List ℕ) → IfSome a (λ t. k < length t.slots)
    → Took a b k s → c ≡ option_map (taken_from k 0) b → IfSome b (λ t. GivesNext (left t k) 0 buf)
    → Took a c k s × IfSome a (λ t. s ≡ left t k)
Took-end None b c k s buf below so_far told gives =
    (record { told = told ∙ ap (option_map (taken_from k 0)) so_far.told; bytes = tt }, tt)
Took-end (Some t) b c k s buf below so_far told gives =
    let m = length s in
    let mid = taken_from k m t in
    let P : Option Told → Type 0 = λ o. IfSome o (λ x. GivesNext (left x k) 0 buf) in
    let now : GivesNext (left mid k) 0 buf = subst P so_far.told gives in
    let none : drop m (left t k) ≡ [] = sym (left-taken_from k t m 0 below) ∙ now.at_end refl in
    let all : take m (left t k) ≡ left t k = sym (append-nil (take m (left t k)))
    ∙ ap (λ (l : List ℕ). take m (left t k) ++ l) (sym none)
    ∙ take-append-drop m (left t k) in (
      record {
        told = told ∙ ap (option_map (taken_from k 0)) so_far.told
            ∙ ap (λ (x : Told). Some x) (taken_from-none k mid);
        bytes = so_far.bytes;
      },
      so_far.bytes ∙ all,
    )

-- what was taken is no more than there was
pub Took-le : (a b : Option Told) (k : ℕ) (s : List ℕ) → Took a b k s
    → IfSome a (λ t. length s ≤ length (left t k))
Took-le None b k s so_far = tt
Took-le (Some t) b k s so_far =
    let l = left t k in
    let size : length s ≡ min (length s) (length l) = ap length so_far.bytes
    ∙ length-take (length s) l in
    omega arith

-- where all that was left was taken, the file is taken whole
pub Took-whole : (a b : Option Told) (k : ℕ) (s : List ℕ) → IfSome a (λ t. k < length t.slots)
    → Took a b k s → IfSome a (λ t. s ≡ left t k)
    → IfSome a (λ t. IsWithinFile t k → IfSome b (λ u. IsTakenWhole u k))
Took-whole None b k s below so_far all = tt
Took-whole (Some t) b k s below so_far all = λ (within : IsWithinFile t k).
    let m = length s in
    let size : m ≡ length (file_of t k) - taken_of t k = ap length all
    ∙ length-drop (taken_of t k) (file_of t k) in
    let now : taken_of (taken_from k m t) k
    ≡ taken_of t k + m = taken_of-taken_from k t m 0 below in
    let same : length (file_of (taken_from k m t) k)
    ≡ length (file_of t k) = ap length (file_of-taken_from k t m 0 below) in
    let whole : IsTakenWhole (taken_from k m t) k = omega arith in
    subst (λ (o : Option Told). IfSome o (λ u. IsTakenWhole u k)) (sym so_far.told) whole

-- a slot that was opened is told
pub slot_told : (told : Option Told) (n k : ℕ) → TellsSlots told n → k < n
    → IfSome told (λ t. k < length t.slots)
slot_told None n k tells below = tt
slot_told (Some t) n k tells below = omega (arith, tells)

module _ (name : List ℕ) (t : Told) where
  slot : Slot
  slot = record { name = name; taken = 0 }

  at_end : slot_at (t.slots ++ slot ∷ []) (length t.slots) ≡ slot
  at_end = get_or_push t.slots slot no_slot (length t.slots) refl

  -- what a slot that was just opened has left
  pub left-opened_at : left (opened_at name t) (length t.slots) ≡ bytes_of t.files name
  unfolding slot
  left-opened_at = ap (λ (y : Slot). drop y.taken (bytes_of t.files y.name)) at_end

  -- nothing was taken from it
  pub taken_of-opened_at : taken_of (opened_at name t) (length t.slots) ≡ 0
  unfolding slot
  taken_of-opened_at = ap (λ (y : Slot). y.taken) at_end

  -- its file is the one of that name
  pub file_of-opened_at : file_of (opened_at name t) (length t.slots) ≡ bytes_of t.files name
  unfolding slot
  file_of-opened_at = ap (λ (y : Slot). bytes_of t.files y.name) at_end

  -- the slots before it stay
  pub slot_at-opened_at : (j : ℕ) → j < length t.slots
      → slot_at (opened_at name t).slots j ≡ slot_at t.slots j
  slot_at-opened_at j below = get_or_append_left t.slots _ no_slot j below

-- the other slots stay while one is read
pub slot_at-taken_from_other : (k n j : ℕ) (t : Told) → j ≢ k
    → slot_at (taken_from k n t).slots j ≡ slot_at t.slots j
slot_at-taken_from_other k n j t other = get_or-set_other t.slots k j _ no_slot other

-- what was taken whole stays so while its file and its slot stay
pub IsTakenWhole-same : (t u : Told) (j : ℕ) → u.files ≡ t.files
    → slot_at u.slots j ≡ slot_at t.slots j → IsTakenWhole t j → IsTakenWhole u j
IsTakenWhole-same t u j files slots whole =
    let files_at : bytes_of u.files (slot_at u.slots j).name
    ≡ bytes_of t.files (slot_at t.slots j).name = cc in
    let taken : taken_of u j ≡ taken_of t j = cc in
    taken ∙ whole ∙ ap length (sym files_at)

-- a slot that was just opened has nothing taken, and so no more than there is
pub IsWithinFile-opened : (a b : Option Told) (name : List ℕ) (n : ℕ) → TellsSlots a n
    → b ≡ option_map (opened_at name) a → IfSome b (λ t. IsWithinFile t n)
IsWithinFile-opened None b name n tells told = subst
    (λ (o : Option Told). IfSome o (λ t. IsWithinFile t n)) (sym told) tt
IsWithinFile-opened (Some t) b name n tells told =
    let none : taken_of (opened_at name t) n
    ≡ 0 = subst (λ m. taken_of (opened_at name t) m ≡ 0) tells (taken_of-opened_at name t) in
    let within : IsWithinFile (opened_at name t) n = omega (arith, none) in
    subst (λ (o : Option Told). IfSome o (λ u. IsWithinFile u n)) (sym told) within
