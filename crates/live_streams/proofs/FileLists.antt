-- Files that are read one after another.
use Rattle.std.proofs.Common.{◌≡◌, ◌∙◌, ℕ, ◌+◌, ◌-◌, ◌<◌, List, [], ◌∷◌, ◌++◌, length, refl}
use Rattle.std.proofs.Common.{sym, ap, subst, arith, take, drop, get_or, map}
use Rattle.std.specs.Prelude.{Option, Some, None, Result, Ok, Err, IfSome, IfOk, ⊤}
use Rattle.std.specs.Option.{option_map}
use Rattle.std.proofs.lemmas.List.{map-append, take_more, take-append-drop}
use Rattle.bolt_io.specs.Told.{Told}
use Rattle.bolt_io.specs.declared.files.Slot.{Slot}
use Rattle.batch_steps.specs.Files.{Content, stream_file}
use Rattle.command_files.specs.Files.{content}
use Rattle.command_files.specs.Reads.{Reads, with_slots}
use Rattle.command_files.specs.declared.stop.Stop.{Stop}
use Rattle.command_files.specs.declared.stop.Stop.TheVariants.{Memory, TooLong}
use Rattle.command_files.proofs.ReadSteps.{Reads-as, Reads-err, Reads-failed, Reads-then, told_all}
use Rattle.live_streams.specs.Texts.{whole_files}

-- what is made of each name, one further
further : {A : Type 0} (f : List ℕ → A) (names : List (List ℕ)) (k : ℕ) (name : List ℕ)
    → k < length names → get_or names k [] ≡ name
    → map f (take (k + 1) names) ≡ map f (take k names) ++ f name ∷ []
further f names k name below is =
    ap (map f) (take_more names k [] below) ∙ map-append f (take k names) _
    ∙ ap (λ (n : List ℕ). map f (take k names) ++ f n ∷ []) is

-- the first k files were read
abbrev pub AreReadTo : List (List ℕ) → ℕ → Option Told → Option Told → ℕ → ℕ → Type 0
AreReadTo names k old mid i j =
    Reads (whole_files (take k names)) (λ _. ⊤) k (λ _. k) old mid i j
    (let r : Result ⊤ Stop = Ok tt in r)

module _ {B : Type 0} (names : List (List ℕ)) (old : Option Told) (i k : ℕ) (name : List ℕ)
    (below : k < length names) (is : get_or names k [] ≡ name) (mid new : Option Told) (j m : ℕ)
    (first : AreReadTo names k old mid i j) where
  -- one more was read, or its reading stopped
  then : (r : Result B Stop)
      → Reads (λ c. stream_file c name ∷ []) (λ _. ⊤) 1 (λ _. 1) mid new j m r
      → Reads (whole_files (take (k + 1) names)) (λ _. ⊤) (k + 1) (λ _. k + 1) old new i m r
  unfolding Reads-then
  then r later =
      Reads-then (whole_files (take k names)) (whole_files (take (k + 1) names)) (λ _. ⊤) (λ _. ⊤) k
      1 (λ _. k) (λ _. 1) (λ _. k + 1) old (λ c. stream_file c name ∷ []) mid new i j m tt r first
      (did r) (sums r) later
      (told_all (λ t. whole_files (take (k + 1) names) (content t)
      ≡ whole_files (take k names) (content t) ++ stream_file (content t) name ∷ []) old
      (λ t. further (λ n. stream_file (content t) n) names k name below is))
    where
      did : (r : Result B Stop) → IfOk r (λ y. ⊤ → ⊤)
      did (Ok y) = λ d. d
      did (Err e) = tt

      sums : (r : Result B Stop) → IfOk r (λ y. (let n : ℕ = k + 1 in n) ≡ k + 1)
      sums (Ok y) = refl
      sums (Err e) = tt

  pub one_more : (y : B)
      → Reads (λ c. stream_file c name ∷ []) (λ _. ⊤) 1 (λ _. 1) mid new j m (Ok y)
      → AreReadTo names (k + 1) old new i m
  one_more y later =
      Reads-as (whole_files (take (k + 1) names)) (whole_files (take (k + 1) names)) (λ _. ⊤)
      (λ _. ⊤) (k + 1) (λ _. k + 1) (λ _. k + 1) old new i m (told_all _ old (λ t. refl)) y tt
      (then (Ok y) later) (λ d. d) refl

  -- no more files are read then
  rest : {A : Type 0} (n : ℕ) (e : Stop) → n ≡ length names
      → Reads (whole_files (take (k + 1) names)) (λ _. ⊤) (k + 1) (λ _. k + 1) old new i m
      (let r : Result B Stop = Err e in r)
      → Reads (whole_files names) (λ _. ⊤) n (λ _. n) old new i m
      (let r : Result A Stop = Err e in r)
  rest {A} n e size stopped =
      let all : (c : Content) → whole_files names c
      ≡ whole_files (take (k + 1) names) c ++ whole_files (drop (k + 1) names) c =
      λ c. ap (map (λ (f : List ℕ). stream_file c f)) (sym (take-append-drop (k + 1) names))
      ∙ map-append (λ f. stream_file c f) (take (k + 1) names) (drop (k + 1) names) in
      let h : Reads (whole_files names) (λ (x : A). ⊤) (k + 1 + (n - (k + 1))) (λ (x : A). n) old
      new
      i m (let r : Result A Stop = Err e in r) =
      Reads-err (whole_files (take (k + 1) names)) (whole_files names) (λ _. ⊤) (λ _. ⊤) (k + 1)
      (n - (k + 1)) (λ _. k + 1) (λ _. k + 1) (λ _. n) old
      (whole_files (drop (k + 1) names)) new i m e stopped (told_all _ old (λ t. all (content t)))
      in
      record {
        more = h.more;
        told = h.told;
        count = h.count;
        within = omega (arith, h.within, below, size);
        full = tt;
        follows = h.follows;
      }

  -- the reading of a file stopped
  pub stopped : {A : Type 0} (n : ℕ) (e : Stop) → n ≡ length names
      → Reads (λ c. stream_file c name ∷ []) (λ _. ⊤) 1 (λ _. 1) mid new j m
      (let r : Result B Stop = Err e in r)
      → Reads (whole_files names) (λ _. ⊤) n (λ _. n) old new i m
      (let r : Result A Stop = Err e in r)
  stopped n e size later = rest n e size (then (Err e) later)

  -- there was no memory for what a file says
  pub unkept : {A : Type 0} (n : ℕ) (y : B) → n ≡ length names
      → Reads (λ c. stream_file c name ∷ []) (λ _. ⊤) 1 (λ _. 1) mid new j m (Ok y)
      → Reads (whole_files names) (λ _. ⊤) n (λ _. n) old new i m
      (let r : Result A Stop = Err Memory in r)
  unkept n y size later =
      rest n Memory size
      (Reads-failed (whole_files (take (k + 1) names)) (whole_files (take (k + 1) names)) (λ _. ⊤)
      (λ _. ⊤) (k + 1) (λ _. k + 1) (λ _. k + 1) old new i m (told_all _ old (λ t. refl)) (Ok y)
      Memory (then (Ok y) later) (λ wrong. absurd (not wrong)))
    where
      not : (let e : Stop = Memory in e) ≡ TooLong → ⊥
      not e = cc e

-- what the files say
pub say_more : {A : Type 0} (says : List ℕ → A) (names : List (List ℕ)) (k : ℕ) (name : List ℕ)
    (old mid : Option Told) (more : List Slot) (all now : List A) (x : A) → k < length names
    → get_or names k [] ≡ name → mid ≡ option_map (with_slots more) old
    → IfSome old (λ t. all ≡ map (λ n. says (content t n)) (take k names))
    → IfSome mid (λ t. x ≡ says (content t name)) → now ≡ all ++ x ∷ []
    → IfSome old (λ t. now ≡ map (λ n. says (content t n)) (take (k + 1) names))
say_more says names k name None mid more all now x below is moved so_far here grown = tt
say_more says names k name (Some t) mid more all now x below is moved so_far here grown =
    let it : x ≡ says (content t name) =
    subst (λ (o : Option Told). IfSome o (λ u. x ≡ says (content u name))) moved here in
    grown ∙ ap (λ l. l ++ x ∷ []) so_far
    ∙ ap (λ y. map (λ n. says (content t n)) (take k names) ++ y ∷ []) it
    ∙ sym (further (λ n. says (content t n)) names k name below is)

-- ---- streams, and then questions
-- the reading of the first files stopped
pub first_stopped : {A T : Type 0} (xs ys : List (List ℕ)) (old new : Option Told) (i k m n : ℕ)
    (e : Stop) → Reads (whole_files xs) (λ _. ⊤) m (λ _. m) old new i k
    (let r : Result A Stop = Err e in r)
    → Reads (λ c. whole_files xs c ++ whole_files ys c) (λ _. ⊤) (m + n) (λ _. m + n) old new i k
    (let r : Result T Stop = Err e in r)
first_stopped xs ys old new i k m n e first =
    Reads-err (whole_files xs) (λ c. whole_files xs c ++ whole_files ys c) (λ _. ⊤) (λ _. ⊤) m n
    (λ _. m) (λ _. n) (λ _. m + n) old (whole_files ys) new i k e first
    (told_all _ old (λ t. refl))

module _ {A B : Type 0} (xs ys : List (List ℕ)) (old mid new : Option Told) (i j k m n : ℕ)
    (x : A) (first : Reads (whole_files xs) (λ _. ⊤) m (λ _. m) old mid i j (Ok x)) where
  both : (r : Result B Stop) → Reads (whole_files ys) (λ _. ⊤) n (λ _. n) mid new j k r
      → Reads (λ c. whole_files xs c ++ whole_files ys c) (λ _. ⊤) (m + n) (λ _. m + n) old new i k
      r
  unfolding Reads-then
  both r later =
      Reads-then (whole_files xs) (λ c. whole_files xs c ++ whole_files ys c) (λ _. ⊤) (λ _. ⊤) m n
      (λ _. m) (λ _. n) (λ _. m + n) old (whole_files ys) mid new i j k x r first (did r) (sums r)
      later (told_all _ old (λ t. refl))
    where
      did : (r : Result B Stop) → IfOk r (λ y. ⊤ → ⊤)
      did (Ok y) = λ d. d
      did (Err e) = tt

      sums : (r : Result B Stop) → IfOk r (λ y. (let l : ℕ = m + n in l) ≡ m + n)
      sums (Ok y) = refl
      sums (Err e) = tt

  -- all were read
  pub both_read : {T : Type 0} (y : B) (z : T)
      → Reads (whole_files ys) (λ _. ⊤) n (λ _. n) mid new j k (Ok y)
      → Reads (λ c. whole_files xs c ++ whole_files ys c) (λ _. ⊤) (m + n) (λ _. m + n) old new i k
      (let r : Result T Stop = Ok z in r)
  both_read y z later =
      Reads-as (λ c. whole_files xs c ++ whole_files ys c)
      (λ c. whole_files xs c ++ whole_files ys c) (λ _. ⊤) (λ _. ⊤) (m + n) (λ _. m + n)
      (λ _. m + n) old new i k (told_all _ old (λ t. refl)) y z (both (Ok y) later) (λ d. d) refl

  -- the reading of the later ones stopped
  pub second_stopped : {T : Type 0} (e : Stop) → Reads (whole_files ys) (λ _. ⊤) n (λ _. n) mid new
      j k
      (let r : Result B Stop = Err e in r)
      → Reads (λ c. whole_files xs c ++ whole_files ys c) (λ _. ⊤) (m + n) (λ _. m + n) old new i k
      (let r : Result T Stop = Err e in r)
  second_stopped e later =
      Reads-failed (λ c. whole_files xs c ++ whole_files ys c)
      (λ c. whole_files xs c ++ whole_files ys c) (λ _. ⊤) (λ _. ⊤) (m + n) (λ _. m + n)
      (λ _. m + n) old new i k (told_all _ old (λ t. refl)) (let r : Result B Stop = Err e in r) e
      (both (let r : Result B Stop = Err e in r) later)
      (λ is. ap (λ (x : Stop). let r : Result B Stop = Err x in r) is)
