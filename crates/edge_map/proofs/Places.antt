-- There is a place for each vertex that is marked.
use Rattle.std.proofs.Common.{◌≡◌, ℕ, ◌+◌, ◌<◌, List, [], ◌∷◌, ◌++◌, length, take, set, sym}
use Rattle.std.proofs.Common.{ap, ◌∙◌, subst, arith, length-append, append_assoc, append-nil}
use Rattle.std.proofs.Common.{length-take, length-set, add-one}
use Rattle.std.specs.List.{All}
use Rattle.std.proofs.Math.Seq.{take-suc-set}
use Rattle.std.proofs.lemmas.List.Elements.{All-append, All-cons, All-nil}
use Rattle.agg_words.specs.Known.{MarksOnce}
use Rattle.agg_words.specs.View.{View, times}
use Rattle.agg_words.specs.declared.layout.Layout.{Layout}
use Rattle.agg_words.proofs.Pigeons.{few_bits}
use Rattle.agg_words.proofs.Views.{times-append}
use Rattle.edge_map.specs.Grew.{AreMarked, HasPlace}

one_below : (n dst : ℕ) → dst < n → All (λ (b : ℕ). b < n) (dst ∷ [])
one_below n dst h = All-cons (λ (b : ℕ). b < n) dst [] h (All-nil (λ (b : ℕ). b < n))

-- a vertex that has just been marked has a place
pub place_left : (k : Layout) (v w : View) (dst count : ℕ) (targets : List ℕ)
    → HasPlace v dst count targets → w.marks ≡ v.marks ++ dst ∷ [] → MarksOnce k w
    → count < length targets
place_left k v w dst count targets h is once =
    let n : ℕ = h.vertices in
    let m = h.marked in
    let ts : List ℕ = take count targets in
    let all : All (λ (b : ℕ). b < n) (ts ++ dst ∷ []) = All-append (λ (b : ℕ). b < n) ts (dst ∷ [])
    m.below (one_below n dst h.there) in
    let few = few_bits n (ts ++ dst ∷ []) all (λ b.
    let one = once.once b in
    let whole = ap (times b) (is ∙ ap (λ l. l ++ dst ∷ []) m.marks
    ∙ append_assoc m.others ts (dst ∷ [])) in
    let parts = times-append b m.others (ts ++ dst ∷ []) in
    omega arith) in
    let long = length-append ts (dst ∷ []) in
    let front = length-take count targets in
    let inside = m.inside in
    let room = h.room in
    omega arith

pub marked_more : (n : ℕ) (v w : View) (dst count : ℕ) (targets : List ℕ)
    → AreMarked n v count targets → dst < n → w.marks ≡ v.marks ++ dst ∷ []
    → count < length targets → AreMarked n w (count + 1) (set targets count dst)
marked_more n v w dst count targets m there is h =
    let next : take (count + 1) (set targets count dst) ≡ take count targets
    ++ dst ∷ [] = rw add-one (take-suc-set targets count dst h) in
    let long = length-set targets count dst in
    record {
      inside = omega arith;
      others = m.others;
      marks =
          is ∙ ap (λ l. l ++ dst ∷ []) m.marks
          ∙ append_assoc m.others (take count targets) (dst ∷ [])
          ∙ ap (λ l. m.others ++ l) (sym next);
      below = subst (All (λ (b : ℕ). b < n)) (sym next)
          (All-append (λ (b : ℕ). b < n) (take count targets) (dst ∷ []) m.below
          (one_below n dst there));
    }

pub marked_same : (n : ℕ) (v w : View) (count : ℕ) (targets : List ℕ)
    → AreMarked n v count targets → w.marks ≡ v.marks → AreMarked n w count targets
marked_same n v w count targets m is = record {
  inside = m.inside;
  others = m.others;
  marks = is ∙ m.marks;
  below = m.below;
}

-- nothing is marked yet
pub marked_none : (n : ℕ) (v : View) (targets : List ℕ) → AreMarked n v 0 targets
marked_none n v targets = record {
  inside = omega arith;
  others = v.marks;
  marks = sym (append-nil v.marks);
  below = All-nil (λ (b : ℕ). b < n);
}

-- the same under other names
pub marked_as : (n : ℕ) (v w : View) (count last : ℕ) (targets ever : List ℕ)
    → AreMarked n v count targets → w ≡ v → last ≡ count → ever ≡ targets → AreMarked n w last ever
marked_as n v w count last targets ever m a b c =
    subst (λ (l : List ℕ). AreMarked n w last l) (sym c)
    (subst (λ (k : ℕ). AreMarked n w k targets) (sym b)
    (subst (λ (u : View). AreMarked n u count targets) (sym a) m))
