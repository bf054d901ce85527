-- Calls that read one after another.
use Rattle.std.specs.Prelude.{◌≡◌, ℕ, ◌+◌, List, [], ◌∷◌, ◌++◌, length, Option, Some, None, Result}
use Rattle.std.specs.Prelude.{Ok, Err, IfSome, IfOk, IsErrOf}
use Rattle.std.specs.Option.{option_map}
use Rattle.std.proofs.Common.{sym, ◌∙◌, ap, subst, arith, inl, inr, append_assoc}
use Rattle.std.proofs.Common.{length-append}
use Rattle.bolt_io.specs.Told.{Told}
use Rattle.bolt_io.specs.declared.files.Slot.{Slot}
use Rattle.command_files.specs.declared.stop.Stop.{Stop}
use Rattle.command_files.specs.declared.stop.Stop.TheVariants.{TooLong}
use Rattle.batch_steps.specs.Files.{Content, Named}
use Rattle.command_files.specs.Files.{content, MeetsLong, AreFirst, AreRead}
use Rattle.command_files.specs.Reads.{with_slots, Follows, Reads}

AreFirst-more : (ss : List Slot) (fs gs : List Named) → AreFirst ss fs → AreFirst ss (fs ++ gs)
AreFirst-more [] fs gs h = tt
AreFirst-more (s ∷ ss) [] gs h = absurd h
AreFirst-more (s ∷ ss) (f ∷ fs) gs h = (h.0, AreFirst-more ss fs gs h.1)

AreFirst-then : (ss ts : List Slot) (fs gs : List Named) → length ss ≡ length fs → AreFirst ss fs
    → AreFirst ts gs → AreFirst (ss ++ ts) (fs ++ gs)
AreFirst-then [] ts [] gs all h k = k
AreFirst-then [] ts (f ∷ fs) gs all h k = absurd (omega (arith, all))
AreFirst-then (s ∷ ss) ts [] gs all h k = absurd h
AreFirst-then (s ∷ ss) ts (f ∷ fs) gs all h k =
    (h.0, AreFirst-then ss ts fs gs (omega (arith, all)) h.1 k)

AreRead-then : (c : Content) (ss ts : List Slot) (fs gs : List Named) → length ss ≡ length fs
    → AreRead c ss fs → AreRead c ts gs → AreRead c (ss ++ ts) (fs ++ gs)
AreRead-then c [] ts [] gs all h k = k
AreRead-then c [] ts (f ∷ fs) gs all h k = absurd (omega (arith, all))
AreRead-then c (s ∷ ss) ts [] gs all h k = absurd h
AreRead-then c (s ∷ ss) ts (f ∷ fs) gs all h k =
    (h.0, AreRead-then c ss ts fs gs (omega (arith, all)) h.1 k)

MeetsLong-more : (c : Content) (fs gs : List Named) → MeetsLong c fs → MeetsLong c (fs ++ gs)
MeetsLong-more c [] gs h = absurd h
MeetsLong-more c (f ∷ fs) gs (inl h) = inl h
MeetsLong-more c (f ∷ fs) gs (inr h) = inr (MeetsLong-more c fs gs h)

MeetsLong-later : (c : Content) (fs gs : List Named) → MeetsLong c gs → MeetsLong c (fs ++ gs)
MeetsLong-later c [] gs h = h
MeetsLong-later c (f ∷ fs) gs h = inr (MeetsLong-later c fs gs h)

MeetsLong-neither : (c : Content) (fs gs : List Named) → ¬ MeetsLong c fs → ¬ MeetsLong c gs
    → MeetsLong c (fs ++ gs) → ⊥
MeetsLong-neither c [] gs first later h = later h
MeetsLong-neither c (f ∷ fs) gs first later (inl h) = first (inl h)
MeetsLong-neither c (f ∷ fs) gs first later (inr h) =
    MeetsLong-neither c fs gs (λ k. first (inr k)) later h

module _ {A B : Type 0} (c : Content) (C : A → Type 0) (D : B → Type 0) (fs gs : List Named)
    (ss : List Slot) where
  -- all was read of the first files, and then others
  pub Follows-then : (ts : List Slot) (x : A) (r : Result B Stop) → Follows c fs C ss (Ok x)
      → IfOk r (λ y. D y → C x) → Follows c gs D ts r → Follows c (fs ++ gs) D (ss ++ ts) r
  Follows-then ts x (Ok y) h did k = record {
    first = AreFirst-then ss ts fs gs h.all h.first k.first;
    all = omega (arith, length-append ss ts, length-append fs gs, h.all, k.all);
    done = λ d. AreRead-then c ss ts fs gs h.all (h.done (did d)) (k.done d);
    too_long = λ wrong. MeetsLong-later c fs gs (k.too_long wrong);
    not_long = MeetsLong-neither c fs gs h.not_long k.not_long;
  }
  Follows-then ts x (Err e) h did k = record {
    first = AreFirst-then ss ts fs gs h.all h.first k.first;
    all = tt;
    done = tt;
    too_long = λ is. MeetsLong-later c fs gs (k.too_long is);
    not_long = tt;
  }

  -- the reading of the first ones stopped
  pub Follows-err : (e : Stop) → Follows c fs C ss (Err e) → Follows c (fs ++ gs) D ss (Err e)
  Follows-err e h = record {
    first = AreFirst-more ss fs gs h.first;
    all = tt;
    done = tt;
    too_long =
        λ is. let same : (let r : Result A Stop = Err e in r)
        ≡ Err TooLong = cc in MeetsLong-more c fs gs (h.too_long same);
    not_long = tt;
  }

-- the slots of two calls
pub with_both : (old mid new : Option Told) (ss ts : List Slot)
    → mid ≡ option_map (with_slots ss) old → new ≡ option_map (with_slots ts) mid
    → new ≡ option_map (with_slots (ss ++ ts)) old
with_both None mid new ss ts first later = later ∙ ap (option_map (with_slots ts)) first
with_both (Some t) mid new ss ts first later =
    later ∙ ap (option_map (with_slots ts)) first
    ∙ ap (λ (l : List Slot). let o : Option Told = Some (record { files = t.files; slots = l })
    in o) (append_assoc t.slots ss ts)

module _ {A B : Type 0} (f h : Content → List Named) (C : A → Type 0) (D : B → Type 0) (m n : ℕ)
    (p : A → ℕ) (q s : B → ℕ) (old : Option Told) where
  -- one call after another
  unfoldable pub Reads-then : (g : Content → List Named) (mid new : Option Told) (i j k : ℕ) (x : A)
      (r : Result B Stop) → Reads f C m p old mid i j (Ok x) → IfOk r (λ y. D y → C x)
      → IfOk r (λ y. s y ≡ p x + q y)
      → Reads g D n q mid new j k r → IfSome old
      (λ t. h (content t) ≡ f (content t) ++ g (content t)) → Reads h D (m + n) s old new i k r
  Reads-then g mid new i j k x r first did sums later is = record {
    more = first.more ++ later.more;
    told = with_both old mid new first.more later.more first.told later.told;
    count = omega (arith, length-append first.more later.more, first.count, later.count);
    within = omega (arith, length-append first.more later.more, first.within, later.within);
    full = both r sums later.full;
    follows = each old first.more later.more first.told first.follows later.follows is;
  }
    where
      both : (r : Result B Stop) → IfOk r (λ y. s y ≡ p x + q y)
          → IfOk r (λ y. length later.more ≡ q y)
          → IfOk r (λ y. length (first.more ++ later.more) ≡ s y)
      both (Ok y) sum k = omega (arith, length-append first.more later.more, first.full, k, sum)
      both (Err e) sum k = tt

      each : (o : Option Told) (ss ts : List Slot) → mid ≡ option_map (with_slots ss) o
          → IfSome o (λ t. Follows (content t) (f (content t)) C ss (Ok x))
          → IfSome mid (λ t. Follows (content t) (g (content t)) D ts r)
          → IfSome o (λ t. h (content t) ≡ f (content t) ++ g (content t))
          → IfSome o (λ t. Follows (content t) (h (content t)) D (ss ++ ts) r)
      each None ss ts told one two is = tt
      each (Some t) ss ts told one two is =
          let here : Follows (content t) (g (content t)) D ts r =
          subst (λ (o : Option Told). IfSome o (λ u. Follows (content u) (g (content u)) D ts r))
          told two in
          subst (λ (fs : List Named). Follows (content t) fs D (ss ++ ts) r) (sym is)
          (Follows-then (content t) C D (f (content t)) (g (content t)) ss ts x r one did here)

  -- the first call stopped
  pub Reads-err : (g : Content → List Named) (new : Option Told) (i k : ℕ) (e : Stop)
      → Reads f C m p old new i k (Err e)
      → IfSome old (λ t. h (content t) ≡ f (content t) ++ g (content t))
      → Reads h D (m + n) s old new i k (Err e)
  Reads-err g new i k e first is =
      record {
        more = first.more;
        told = first.told;
        count = first.count;
        within = omega
            (arith, first.within);
        full = tt;
        follows = each old first.more first.follows is;
      }
    where
      each : (o : Option Told) (ss : List Slot)
          → IfSome o (λ t. Follows (content t) (f (content t)) C ss (Err e))
          → IfSome o (λ t. h (content t) ≡ f (content t) ++ g (content t))
          → IfSome o (λ t. Follows (content t) (h (content t)) D ss (Err e))
      each None ss one is = tt
      each (Some t) ss one is =
          subst (λ (fs : List Named). Follows (content t) fs D ss (Err e)) (sym is)
          (Follows-err (content t) C D (f (content t)) (g (content t)) ss e one)

-- the same slots, as what another call did
module _ {A B : Type 0} (f h : Content → List Named) (C : A → Type 0) (D : B → Type 0) (m : ℕ)
    (p : A → ℕ) (q : B → ℕ) (old new : Option Told) (i k : ℕ)
    (same : IfSome old (λ t. h (content t) ≡ f (content t))) where
  pub Reads-as : (x : A) (y : B) → Reads f C m p old new i k (Ok x) → (D y → C x) → q y ≡ p x
      → Reads h D m q old new i k (Ok y)
  Reads-as x y reads did sum =
      record {
        more = reads.more;
        told = reads.told;
        count = reads.count;
        within = reads.within;
        full = reads.full ∙ sym sum;
        follows = each old reads.follows same;
      }
    where
      each : (o : Option Told) → IfSome o
          (λ t. Follows (content t) (f (content t)) C reads.more (Ok x))
          → IfSome o (λ t. h (content t) ≡ f (content t))
          → IfSome o (λ t. Follows (content t) (h (content t)) D reads.more (Ok y))
      each None one is = tt
      each (Some t) one is =
          subst (λ (fs : List Named). Follows (content t) fs D reads.more (Ok y)) (sym is)
          (record {
            first = one.first;
            all = one.all;
            done = λ d. one.done (did d);
            too_long = λ wrong. cc;
            not_long = one.not_long;
          })

  pub Reads-failed : (r : Result A Stop) (e : Stop) → Reads f C m p old new i k r
      → (e ≡ TooLong → IsErrOf r TooLong) → Reads h D m q old new i k (Err e)
  Reads-failed r e reads long =
      record {
        more = reads.more;
        told = reads.told;
        count = reads.count;
        within = reads.within;
        full = tt;
        follows = each old reads.follows same;
      }
    where
      each : (o : Option Told) → IfSome o (λ t. Follows (content t) (f (content t)) C reads.more r)
          → IfSome o (λ t. h (content t) ≡ f (content t))
          → IfSome o (λ t. Follows (content t) (h (content t)) D reads.more (Err e))
      each None one is = tt
      each (Some t) one is =
          subst (λ (fs : List Named). Follows (content t) fs D reads.more (Err e)) (sym is)
          (record {
            first = one.first;
            all = tt;
            done = tt;
            too_long = λ is_long. one.too_long
                (long (cc));
            not_long = tt;
          })

-- what holds of anything that is told
pub told_all : (P : Told → Type 0) (o : Option Told) → ((t : Told) → P t) → IfSome o P
told_all P None h = tt
told_all P (Some t) h = h t

pub told_map : (P Q : Told → Type 0) (o : Option Told) → ((t : Told) → P t → Q t) → IfSome o P
    → IfSome o Q
told_map P Q None h x = tt
told_map P Q (Some t) h x = h t x
