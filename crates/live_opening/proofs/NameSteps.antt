-- The names that stand behind options.
use Rattle.std.proofs.Common.{◌≡◌, ◌∙◌, ℕ, ◌+◌, ◌<◌, Bool, true, false, List, [], ◌∷◌, ◌++◌, length}
use Rattle.std.proofs.Common.{map, take, drop, get_or, refl, sym, ap, cond, Bor}
use Rattle.std.specs.Prelude.{Option, Some, None}
use Rattle.std.specs.Str.{bytes_eq}
use Rattle.std.proofs.Math.Seq.{drop-append_seam, take-append_seam}
use Rattle.std.proofs.lemmas.List.{map-append, take_more, take-append-drop}
use Rattle.std.proofs.lemmas.Slice.Eq.{bytes_eq-Decides}
use Rattle.cli_words.specs.Words.{behind}
use Rattle.live_opening.specs.Files.{name_behind, names_behind}

-- what stands behind a prefix, by the test whether it is one
abbrev pub behind_if : List ℕ → List ℕ → Bool → Option (List ℕ)
behind_if prefix word is = cond is (Some (drop (length prefix) word)) None

-- a word that begins with a prefix
pub behind-rest : (prefix word rest : List ℕ) → word ≡ prefix ++ rest
    → behind prefix word ≡ Some rest
behind-rest prefix word rest is =
    let begins : bytes_eq (take (length prefix) word) prefix ≡ true =
    (bytes_eq-Decides (take (length prefix) word) prefix).1
    (ap (take (length prefix)) is ∙ take-append_seam prefix rest) in
    ap (behind_if prefix word) begins
    ∙ ap (λ (l : List ℕ). let o : Option (List ℕ) = Some l in o)
    (ap (drop (length prefix)) is ∙ drop-append_seam prefix rest)

-- and one that doesn't
pub behind-none : (prefix word : List ℕ) → ((rest : List ℕ) → word ≡ prefix ++ rest → ⊥)
    → behind prefix word ≡ None
behind-none prefix word not = each (bytes_eq (take (length prefix) word) prefix) refl
  where
    each : (is : Bool) → bytes_eq (take (length prefix) word) prefix ≡ is
        → behind_if prefix word is ≡ None
    each false same = refl
    each true same =
        absurd (not (drop (length prefix) word)
        (sym (take-append-drop (length prefix) word)
        ∙ ap (λ (l : List ℕ). l ++ drop (length prefix) word)
        ((bytes_eq-Decides (take (length prefix) word) prefix).0 same)))

-- one name more
pub names-more : (option : List ℕ) (words : List (List ℕ)) (places : List ℕ) (k at : ℕ)
    (names now : List (Bor (List ℕ))) (name : Bor (List ℕ)) → k < length places
    → at ≡ get_or places k 0 → now ≡ names ++ name ∷ [] → name.now ≡ name_behind option words at
    → map (λ n. n.now) names ≡ names_behind option words (take k places)
    → map (λ n. n.now) now ≡ names_behind option words (take (k + 1) places)
names-more option words places k at names now name below here grown is so_far =
    ap (map (λ n. n.now)) grown ∙ map-append (λ n. n.now) names (name ∷ [])
    ∙ ap (λ (l : List (List ℕ)). l ++ name.now ∷ []) so_far
    ∙ ap (λ (n : List ℕ). names_behind option words (take k places) ++ n ∷ []) is
    ∙ ap (λ (n : ℕ). names_behind option words (take k places) ++ name_behind option words n ∷ [])
    here
    ∙ sym (ap (names_behind option words) (take_more places k 0 below)
    ∙ map-append (name_behind option words) (take k places) (get_or places k 0 ∷ []))
