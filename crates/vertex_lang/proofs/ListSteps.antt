-- Lists that are read an item a line.
use Rattle.std.proofs.Common.{◌≡◌, ℕ, ◌+◌, ◌<◌, ◌≤◌, List, [], ◌∷◌, ◌++◌, length}
use Rattle.std.proofs.Common.{refl, sym, ◌∙◌, ap, subst, arith, append_assoc, length-append}
use Rattle.std.specs.Prelude.{map, All}
use Rattle.std.proofs.lemmas.List.{append-nil, get_or-map, length-map}
use Rattle.std.proofs.Math.Seq.{get_or-append_seam}
use Rattle.vertex_lang.specs.declared.draft.Draft.{Draft}
use Rattle.vertex_lang.proofs.LineReads.{Reads, Steps}

-- the stage behind a list whose entries have this stage
abbrev pub after : {A : Type 0} → ℕ → ℕ → List A → ℕ
after s high [] = s
after s high (x ∷ xs) = high

after-same : {A : Type 0} (high : ℕ) (xs : List A) → after high high xs ≡ high
after-same high [] = refl
after-same high (x ∷ xs) = refl

-- Each item of a list is read from its line, so the list is.
pub list_steps : {A : Type 0} (draft : ℕ → List A → Draft) (line : ℕ → A → List ℕ)
    (lines : ℕ → List A → List (List ℕ)) (all : List A) (low high : ℕ) → low ≤ high
    → ((k : ℕ) → lines k [] ≡ []) → ((k : ℕ) (x : A) (xs : List A)
    → lines k (x ∷ xs) ≡ line k x ∷ lines (k + 1) xs)
    → ((s : ℕ) (done : List A) (x : A) (rest : List A) → done ++ x ∷ rest ≡ all → low ≤ s → s ≤ high
    → Reads (draft s done) (line (length done) x) (draft high (done ++ x ∷ [])))
    → (s : ℕ) (done rest : List A) (k : ℕ) → done ++ rest ≡ all → low ≤ s → s ≤ high
    → k ≡ length done → Steps (draft s done) (lines k rest)
    (draft (after s high rest) (done ++ rest))
list_steps draft line lines all low high order nil cons each s done [] k is least most count =
    let P : List (List ℕ) → Type 0 = λ ls. Steps (draft s done) ls (draft s (done ++ [])) in
    subst P (sym (nil k)) (ap (draft s) (sym (append-nil done)))
list_steps draft line lines all low high order nil cons each s done (x ∷ xs) k is least most count =
    let next = done ++ x ∷ [] in
    let same : next ++ xs ≡ done ++ x ∷ xs = append_assoc done (x ∷ []) xs in
    let longer : k + 1 ≡ length next = omega (arith, length-append done (x ∷ [])) in
    let rest : Steps (draft high next) (lines (k + 1) xs) (draft (after high high xs) (next ++ xs))
    =
    list_steps draft line lines all low high order nil cons each high next xs (k + 1) (same ∙ is)
    order (omega arith) longer in
    let E : Draft → Type 0 = λ e. Steps (draft high next) (lines (k + 1) xs) e in
    let rest' : Steps (draft high next) (lines (k + 1) xs) (draft high (done ++ x ∷ xs)) =
    subst E (λ i. draft (after-same high xs i) (same i)) rest in
    let K : ℕ → Type 0 = λ n. Reads (draft s done) (line n x) (draft high next) in
    let P : List (List ℕ) → Type 0 = λ ls. Steps (draft s done) ls (draft high (done ++ x ∷ xs)) in
    subst P (sym (cons k x xs)) (
      draft high next,
      subst K (sym count)
          (each s done x xs is least most),
      rest',
    )

-- an item in the middle of a list
pub middle_below : {A : Type 0} (xs ys : List A) (y : A) → length xs < length (xs ++ y ∷ ys)
middle_below xs ys y = omega (arith, length-append xs (y ∷ ys))

pub mapped_middle : {A B : Type 0} (f : A → B) (P : B → Type 0) (all xs ys : List A) (y : A)
    → xs ++ y ∷ ys ≡ all → All P (map f all) → P (f y)
mapped_middle f P all xs ys y is h =
    let Q : List _ → Type 0 = λ l. All P (map f l) in
    let here : All P (map f (xs ++ y ∷ ys)) = subst Q (sym is) h in
    let few = middle_below xs ys y in
    subst P (get_or-map f (xs ++ y ∷ ys) (length xs) y (f y) few
    ∙ ap f (get_or-append_seam xs y ys y))
    (here (length xs) (f y) (omega (arith, length-map (xs ++ y ∷ ys) f)))

pub all_middle : {A : Type 0} (P : A → Type 0) (all xs ys : List A) (y : A) → xs ++ y ∷ ys ≡ all
    → All P all → P y
all_middle P all xs ys y is h =
    let Q : List _ → Type 0 = λ l. All P l in
    let here : All P (xs ++ y ∷ ys) = subst Q (sym is) h in
    subst P (get_or-append_seam xs y ys y) (here (length xs) y (middle_below xs ys y))
