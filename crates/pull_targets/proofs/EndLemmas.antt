-- What was found, item by item.
use Rattle.std.proofs.Common.{◌≡◌, ℕ, ◌+◌, ◌<◌, ◌++◌, Bool, true, false, ◌||◌, eqb, set}
use Rattle.std.proofs.Common.{List, [], ◌∷◌, length, get_or, take, refl, sym, ap, ◌∙◌, arith}
use Rattle.std.proofs.Common.{inl, inr, length-set, replicate, true≢false}
use Rattle.std.proofs.Math.Bool.{or-true}
use Rattle.std.proofs.lemmas.Bool.{cases_eq, cases_lt, eq-eqb, ne_eqb}
use Rattle.std.proofs.lemmas.List.{get_or_past, get_or-set_same, get_or-set_other}
use Rattle.std.proofs.lemmas.List.{length-replicate, get_or-replicate}
use Rattle.std.proofs.lemmas.List.Elements.{All-nil, All-push}
use Rattle.std.proofs.lemmas.List.Folds.{list_any-append, list_any_more}
use Rattle.bolt_base.specs.declared.edge.Edge.{Edge}
use Rattle.pull_targets.specs.EndList.{AreFound, AreMarked, EndState, is_found}
use Rattle.pull_targets.specs.Ends.{ends_at}

or_assoc : (a b c : Bool) → ((a || b) || c) ≡ (a || (b || c))
or_assoc true b c = refl
or_assoc false b c = refl

or_false : (a : Bool) → (a || false) ≡ a
or_false true = refl
or_false false = refl

-- nothing more, and one thing after the other
pub found_none : (s : EndState) → AreFound s (λ _. false) s
found_none s = record { vertices = refl; ends = λ v. sym (or_false (is_found s.ends v)) }

pub found_both : (r s t : EndState) (p q : ℕ → Bool) → AreFound r p s → AreFound s q t
    → AreFound r (λ v. p v || q v) t
found_both r s t p q first second = record {
  vertices = second.vertices ∙ first.vertices;
  ends = λ v. second.ends v ∙ ap (λ b. b || q v) (first.ends v)
      ∙ or_assoc (is_found r.ends v) (p v) (q v);
}

pub found_same : (s t : EndState) (p q : ℕ → Bool) → ((v : ℕ) → p v ≡ q v) → AreFound s p t
    → AreFound s q t
found_same s t p q same found = record {
  vertices = found.vertices;
  ends = λ v. found.ends v ∙ ap (λ b. is_found s.ends v || b) (same v);
}

-- one more edge of a list
pub one_more_end : (s r t : EndState) (es : List Edge) (k : ℕ) (d : Edge) → k < length es
    → AreFound s (ends_at (take k es)) r → AreFound r (λ v. eqb (get_or es k d).dst v) t
    → AreFound s (ends_at (take (k + 1) es)) t
one_more_end s r t es k d small so_far one =
    found_same s t (λ v. ends_at (take k es) v || eqb (get_or es k d).dst v)
    (ends_at (take (k + 1) es)) (λ v. sym (list_any_more (λ e. eqb e.dst v) es k d small))
    (found_both s r t (ends_at (take k es)) (λ v. eqb (get_or es k d).dst v) so_far one)

-- ---- marks
pub none_marked : (n m : ℕ) → AreMarked n (replicate m false) []
none_marked n m = record {
  below = All-nil _;
  marked = λ v small.
      let long = length-replicate m false in
      get_or-replicate m v false false (omega arith);
}

pub found_more : (ends : List ℕ) (v w : ℕ)
    → is_found (ends ++ v ∷ []) w ≡ (is_found ends w || eqb v w)
found_more ends v w =
    list_any-append (λ x. eqb x w) ends (v ∷ [])
    ∙ ap (λ b. is_found ends w || b) (or_false (eqb v w))

module _ (n : ℕ) (marks : List Bool) (ends : List ℕ) (ok : AreMarked n marks ends) (v : ℕ) where
  -- a vertex whose mark is set has one
  set_has : get_or marks v false ≡ true → v < length marks
  set_has marked =
      elim (cases_lt v (length marks)) [
        | inl small ↦ small
        | inr past ↦ absurd (true≢false (sym marked ∙ get_or_past marks v false past))
      ]

  pub found_already : get_or marks v false ≡ true → (w : ℕ)
      → is_found ends w ≡ (is_found ends w || eqb v w)
  found_already marked w =
      elim (cases_eq v w) [
        | inl same ↦
            let found : is_found ends w ≡ true =
            ap (is_found ends) (sym same) ∙ sym (ok.marked v (set_has marked)) ∙ marked in
            found ∙ sym (ap (λ b. b || eqb v w) found)
        | inr apart ↦ sym (ap (λ b. is_found ends w || b) (ne_eqb v w apart)
            ∙ or_false (is_found ends w))
      ]

  pub marked_more : v < n → AreMarked n (set marks v true) (ends ++ v ∷ [])
  marked_more there =
      let long = length-set marks v true in
      record {
        below = All-push (λ x. x < n) ends v ok.below there;
        marked = λ w small. elim (cases_eq w v) [
          | inl same ↦ ap (λ k. get_or (set marks v true) k false) same
              ∙ get_or-set_same marks v true false (omega arith)
              ∙ sym (ap (is_found (ends ++ v ∷ [])) same ∙ found_more ends v v
              ∙ ap (λ b. is_found ends v || b) (eq-eqb v v refl)
              ∙ or-true (is_found ends v))
          | inr apart ↦ get_or-set_other marks v w true false apart
              ∙ ok.marked w (omega arith)
              ∙ sym (found_more ends v w
              ∙ ap (λ b. is_found ends w || b) (ne_eqb v w (λ e. apart (sym e)))
              ∙ or_false (is_found ends w))
        ];
      }
