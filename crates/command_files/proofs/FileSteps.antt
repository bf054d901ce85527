-- A file that is opened and then read.
use Rattle.bolt_io.specs.declared.whole.TheConstants.{MOST_BYTES}
use Rattle.std.specs.Prelude.{◌≡◌, ℕ, ◌+◌, ◌-◌, ◌<◌, ◌≤◌, Bool, List, [], ◌∷◌, ◌++◌}
use Rattle.std.specs.Prelude.{length, take, Option, Some, None, Result, Ok, Err, IfSome, IfOk, OnOk}
use Rattle.std.specs.Prelude.{IsErrOf, slice_set}
use Rattle.std.specs.Option.{option_map}
use Rattle.std.proofs.Common.{refl, sym, ◌∙◌, ap, subst, arith, inl, inr, zero-add, length-append}
use Rattle.std.proofs.Common.{length-drop}
use Rattle.std.proofs.lemmas.List.{append-nil, get_or_push, take_all}
use Rattle.std.proofs.Math.Seq.{set-append_seam}
use Rattle.bolt_io.specs.Told.{Told, no_slot, left, opened_at, taken_from, TellsSlots}
use Rattle.bolt_io.specs.declared.files.Slot.{Slot}
use Rattle.bolt_io.proofs.TakenLemmas.{left-opened_at, left-taken_from}
use Rattle.text_lines.specs.Feed.{Advances, readable}
use Rattle.batch_steps.specs.Files.{Content, Named}
use Rattle.command_files.specs.declared.stop.Stop.{Stop}
use Rattle.command_files.specs.declared.stop.Stop.TheVariants.{TooLong}
use Rattle.command_files.specs.Files.{content, whole_file, IsNear, IsLong, MeetsLong}
use Rattle.command_files.specs.Reads.{with_slots, TookTo, Follows, Reads}

-- a slot of that file which has taken n bytes
abbrev pub one_slot : List ℕ → ℕ → List Slot
one_slot name n = record { name = name; taken = n } ∷ []

-- n bytes taken from the slot that was just opened
pub taken_from-opened_at : (name : List ℕ) (n : ℕ) (t : Told)
    → taken_from (length t.slots) n (opened_at name t) ≡ with_slots (one_slot name n) t
taken_from-opened_at name n t =
    let fresh : Slot = record { name = name; taken = 0 } in
    let told : List Slot → Told = λ (l : List Slot). record { files = t.files; slots = l } in
    let put : Slot → List Slot =
    λ (y : Slot). slice_set (t.slots ++ fresh ∷ []) (length t.slots)
    (record { name = y.name; taken = y.taken + n }) in
    let last : ℕ → List Slot = λ (j : ℕ). t.slots ++ record { name = name; taken = j } ∷ [] in
    ap told
    (ap put (get_or_push t.slots fresh no_slot (length t.slots) refl)
    ∙ set-append_seam t.slots fresh [] (record { name = name; taken = 0 + n })
    ∙ ap last (zero-add n))

-- a slot that was just opened has all the bytes of its file left
pub opened_left : (t : Told) (k : ℕ) (name : List ℕ) → length t.slots ≡ k
    → left (opened_at name t) k ≡ whole_file t name
opened_left t k name tells = ap (left (opened_at name t)) (sym tells) ∙ left-opened_at name t

-- and so what holds of what it has left holds of the file
pub opened_bytes : (P : List ℕ → Type 0) (a b : Option Told) (k : ℕ) (name : List ℕ)
    → TellsSlots a k → b ≡ option_map (opened_at name) a → IfSome b (λ u. P (left u k))
    → IfSome a (λ t. P (whole_file t name))
opened_bytes P None b k name tells opened h = tt
opened_bytes P (Some t) b k name tells opened h =
    let here : P (left (opened_at name t) k) =
    subst (λ (o : Option Told). IfSome o (λ u. P (left u k))) opened h in
    subst P (opened_left t k name tells) here

-- what follows from a fact of the shelf once a file was opened is a fact of the shelf before
pub opened_fact : (P Q : Told → Type 0) (a b : Option Told) (k : ℕ) (name : List ℕ)
    → ((t : Told) → length t.slots ≡ k → P (opened_at name t) → Q t) → TellsSlots a k
    → b ≡ option_map (opened_at name) a → IfSome b P → IfSome a Q
opened_fact P Q None b k name step tells opened h = tt
opened_fact P Q (Some t) b k name step tells opened h =
    step t tells (subst (λ (o : Option Told). IfSome o P) opened h)

-- where nothing is left of a short file then, all that counts of it was taken
all_taken : (t : Told) (k n : ℕ) (name : List ℕ) → length t.slots ≡ k
    → n ≤ length (left (opened_at name t) k) → length (left (opened_at name t) k) < MOST_BYTES
    → left (taken_from k n (opened_at name t)) k ≡ [] → n ≡ length (content t name)
all_taken t k n name tells within short none =
    let after = opened_at name t in
    let size : length after.slots ≡ length t.slots + 1 = length-append t.slots _ in
    let below : k < length after.slots = omega (arith, size, tells) in
    let all : left after k ≡ whole_file t name = opened_left t k name tells in
    let over : length (left after k) - n ≡ 0 =
    sym (length-drop n (left after k))
    ∙ ap length (sym (left-taken_from k after n 0 below) ∙ none) in
    let few : length (whole_file t name) ≤ MOST_BYTES = omega (arith, ap length all, short) in
    let same : length (content t name) ≡ length (whole_file t name) =
    ap length (take_all MOST_BYTES (whole_file t name) few) in
    omega (arith, ap length all, within, over, same)

-- no slot more
with_none : (told : Option Told) → told ≡ option_map (with_slots []) told
with_none None = refl
with_none (Some t) =
    ap (λ (l : List Slot). let o : Option Told = Some (record { files = t.files; slots = l }) in o)
    (sym (append-nil t.slots))

-- no slot was opened
pub Reads-none : {T : Type 0} (f : Content → List Named) (D : T → Type 0) (m : ℕ) (p : T → ℕ)
    (old new : Option Told) (i k : ℕ) (e : Stop) → new ≡ old → k ≡ i
    → ((let r : Result T Stop = Err e in r) ≡ Err TooLong → ⊥) → Reads f D m p old new i k (Err e)
Reads-none f D m p old new i k e told count not = record {
  more = [];
  told = told ∙ with_none old;
  count = omega (arith, count);
  within = omega arith;
  full = tt;
  follows = each old;
}
  where
    each : (o : Option Told) → IfSome o (λ t. Follows (content t) (f (content t)) D [] (Err e))
    each None = tt
    each (Some t) =
        record { first = tt; all = tt; done = tt; too_long = λ is. absurd (not is); not_long = tt }

-- no file is to be read, and none was
pub Reads-nothing : {T : Type 0} (f : Content → List Named) (D : T → Type 0) (m : ℕ) (p : T → ℕ)
    (old new : Option Told) (i k : ℕ) (x : T) → new ≡ old → k ≡ i → ¬ D x → p x ≡ 0
    → IfSome old (λ t. f (content t) ≡ []) → Reads f D m p old new i k (Ok x)
Reads-nothing f D m p old new i k x told count not zero is = record {
  more = [];
  told = told ∙ with_none old;
  count = omega (arith, count);
  within = omega arith;
  full = sym zero;
  follows = each old is;
}
  where
    each : (o : Option Told) → IfSome o (λ t. f (content t) ≡ [])
        → IfSome o (λ t. Follows (content t) (f (content t)) D [] (Ok x))
    each None is = tt
    each (Some t) is = record {
      first = tt;
      all = ap length (sym is);
      done = λ d. absurd (not d);
      too_long = λ wrong. cc;
      not_long = λ long. subst (MeetsLong (content t)) is long;
    }

-- one file was opened, and bytes of it were taken
module _ {T : Type 0} (name : List ℕ) (far : List ℕ → ℕ) (to_end : List ℕ → Bool) (D : T → Type 0)
  where
    -- the file, and how far it is read
    abbrev file : Content → Named
    file c = record { name = name; far = far (c name); to_end = to_end (c name) }

    pub one : (r : Result T Stop) → IfOk r (λ _. let n : ℕ = 1 in n ≡ 1)
    one (Ok x) = refl
    one (Err e) = tt

    -- the slot that it has then
    pub slot_is : (old mid new : Option Told) (slot n : ℕ) → IfSome old (λ t. length t.slots ≡ slot)
        → mid ≡ option_map (opened_at name) old → new ≡ option_map (taken_from slot n) mid
        → new ≡ option_map (with_slots (one_slot name n)) old
    slot_is None mid new slot n at opened taken = taken ∙ ap (option_map (taken_from slot n)) opened
    slot_is (Some t) mid new slot n at opened taken =
        taken ∙ ap (option_map (taken_from slot n)) opened
        ∙ ap (λ (j : ℕ). let o : Option Told = Some (taken_from j n (opened_at name t)) in o)
        (sym at) ∙ ap (λ (u : Told). let o : Option Told = Some u in o)
        (taken_from-opened_at name n t)

    module _ (t : Told) (mid new : Option Told) (slot n : ℕ) (at : length t.slots ≡ slot)
        (taken : new ≡ Some (taken_from slot n (opened_at name t)))
        (opened : mid ≡ Some (opened_at name t))
        (within : n ≤ length (left (opened_at name t) slot))
        (no_further : IsNear n (far (content t name))) where
      follows : (r : Result T Stop) → IfOk r
          (λ x. D x → IfSome mid (λ t. length (left t slot) < MOST_BYTES))
          → IfOk r (λ x. D x → IfSome new (λ t. left t slot ≡ []))
          → (IsErrOf r TooLong → IsLong (content t) (file (content t)))
          → OnOk r (¬ IsLong (content t) (file (content t)))
          → Follows (content t) (file (content t) ∷ []) D (one_slot name n) r
      follows (Ok x) short end too_long not_long = record {
        first = (record { name = refl; within = no_further }, tt);
        all = refl;
        done = λ d.
            let few : length (left (opened_at name t) slot) < MOST_BYTES =
            subst (λ (o : Option Told). IfSome o (λ u. length (left u slot) < MOST_BYTES)) opened
            (short d) in
            let none : left (taken_from slot n (opened_at name t)) slot ≡ [] =
            subst (λ (o : Option Told). IfSome o (λ u. left u slot ≡ [])) taken (end d) in
            ((λ _. all_taken t slot n name at within few none), tt);
        too_long = λ wrong. cc;
        not_long = meets;
      }
        where
          meets : ¬ MeetsLong (content t) (file (content t) ∷ [])
          meets (inl long) = not_long long
          meets (inr none) = none
      follows (Err e) short end too_long not_long = record {
        first = (record { name = refl; within = no_further }, tt);
        all = tt;
        done = tt;
        too_long = λ is. inl (too_long is);
        not_long = tt;
      }

    pub all_follow : (old mid new : Option Told) (slot n : ℕ) (r : Result T Stop)
        → IfSome old (λ t. length t.slots ≡ slot) → mid ≡ option_map (opened_at name) old
        → Advances mid new slot n → IfSome mid (λ t. IsNear n (far (readable t slot)))
        → IfOk r (λ x. D x → IfSome mid (λ t. length (left t slot) < MOST_BYTES))
        → IfOk r (λ x. D x → IfSome new (λ t. left t slot ≡ []))
        → (IsErrOf r TooLong → IfSome old (λ t. IsLong (content t) (file (content t))))
        → OnOk r (IfSome old (λ t. ¬ IsLong (content t) (file (content t))))
        → IfSome old (λ t. Follows (content t) (file (content t) ∷ []) D (one_slot name n) r)
    all_follow None mid new slot n r at opened took no_further short end too_long not_long = tt
    all_follow (Some t) mid new slot n r at opened took no_further short end too_long not_long =
        let taken : new ≡ Some (taken_from slot n (opened_at name t)) =
        took.told ∙ ap (option_map (taken_from slot n)) opened in
        let within : n ≤ length (left (opened_at name t) slot) =
        subst (λ (o : Option Told). IfSome o (λ u. n ≤ length (left u slot))) opened took.within in
        let there : IsNear n (far (readable (opened_at name t) slot)) =
        subst (λ (o : Option Told). IfSome o (λ u. IsNear n (far (readable u slot)))) opened
        no_further in
        let here : IsNear n (far (content t name)) =
        subst (λ (b : List ℕ). IsNear n (far (take MOST_BYTES b))) (opened_left t slot name at)
        there
        in
        follows t mid new slot n at taken opened within here r short end too_long not_long

    pub same_slot : (old : Option Told) (i slot : ℕ) → TellsSlots old i → slot ≡ i
        → IfSome old (λ t. length t.slots ≡ slot)
    same_slot None i slot tells is = tt
    same_slot (Some t) i slot tells is = tells ∙ sym is

    unfoldable pub Reads-file : (old mid new : Option Told) (i j k slot : ℕ) (r : Result T Stop)
        → TellsSlots old i → slot ≡ i → mid ≡ option_map (opened_at name) old → j ≡ i + 1
        → (took : TookTo far mid new slot) → k ≡ j
        → IfOk r (λ x. D x → IfSome mid (λ t. length (left t slot) < MOST_BYTES))
        → IfOk r (λ x. D x → IfSome new (λ t. left t slot ≡ []))
        → (IsErrOf r TooLong → IfSome old
        (λ t. IsLong (content t) (record
        { name = name; far = far (content t name); to_end = to_end (content t name) })))
        → OnOk r (IfSome old (λ t. ¬ IsLong (content t)
        (record { name = name; far = far (content t name); to_end = to_end (content t name) })))
        → Reads (λ c. record { name = name; far = far (c name); to_end = to_end (c name) } ∷ []) D 1
        (λ _. 1) old new i k r
    Reads-file old mid new i j k slot r tells is_slot opened one_more took same short end too_long
        not_long =
        let at : IfSome old (λ t. length t.slots ≡ slot) = same_slot old i slot tells is_slot in
        record {
          more = one_slot name took.0;
          told = slot_is old mid new slot took.0 at opened took.1.told;
          count = omega (arith, one_more, same);
          within = omega arith;
          full = one r;
          follows =
              all_follow old mid new slot took.0 r at opened took.1 took.2 short end too_long
              not_long;
        }

-- what is read to its end is read no further than its bytes
pub read_to_end_near : (taken far : ℕ) → taken ≤ far → IsNear taken far
read_to_end_near taken far h = omega (arith, h)
