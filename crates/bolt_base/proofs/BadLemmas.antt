-- The first bad edit.
use Rattle.std.proofs.Common.{◌≡◌, ℕ, zero, suc, ◌+◌, ◌-◌, ◌<◌, ◌≤◌, List, [], ◌∷◌, ◌++◌, length}
use Rattle.std.proofs.Common.{get_or, take, refl, ap, ◌∙◌, subst, arith, Option, Some, None}
use Rattle.std.proofs.Common.{MatchOption}
use Rattle.bolt_base.specs.Graph.{Graph}
use Rattle.bolt_base.specs.Edits.{edited, after, one, bad_or, bad_from, bad}
use Rattle.bolt_base.specs.Laws.{IsFirstBad, NoneIsBad}
use Rattle.bolt_base.specs.declared.edge.Edit.{Edit}
use Rattle.bolt_base.specs.declared.limits.Limits.{Limits}
use Rattle.bolt_base.specs.declared.limits.LineCause.{LineCause}

pub after-append : (g : Graph) (xs ys : List Edit) → after g (xs ++ ys) ≡ after (after g xs) ys
after-append g [] ys = refl
after-append g (x ∷ xs) ys = after-append (edited g x) xs ys

pub first_good : (o : Option LineCause) (k : ℕ) (later : Option (ℕ × LineCause))
    → bad_or o k later ≡ None → (o ≡ None) × (later ≡ None)
first_good None k later h = (refl, h)
first_good (Some cause) k later h = cc

-- after edits that are good the first bad one is among those that follow
pub bad_from-append : (l : Limits) (g : Graph) (k : ℕ) (xs ys : List Edit)
    → bad_from l g k xs ≡ None
    → bad_from l g k (xs ++ ys) ≡ bad_from l (after g xs) (k + length xs) ys
bad_from-append l g k [] ys h = ap (λ n. bad_from l g n ys) (let e : k ≡ k + 0 = omega arith in e)
bad_from-append l g k (x ∷ xs) ys h =
    let parts = first_good (one l g x) k (bad_from l (edited g x) (k + 1) xs) h in
    ap (λ o. bad_or o k (bad_from l (edited g x) (k + 1) (xs ++ ys))) parts.0
    ∙ bad_from-append l (edited g x) (k + 1) xs ys parts.1
    ∙ ap (λ n. bad_from l (after (edited g x) xs) n ys)
    (let e : k + 1 + length xs ≡ k + suc (length xs) = omega arith in e)

-- what was bad stays so, whatever follows
pub bad_from-stays : (l : Limits) (g : Graph) (k : ℕ) (xs ys : List Edit) (p : ℕ × LineCause)
    → bad_from l g k xs ≡ Some p → bad_from l g k (xs ++ ys) ≡ Some p
bad_from-stays l g k [] ys p h = cc
bad_from-stays l g k (x ∷ xs) ys p h = later (one l g x)
    (λ e. bad_from-stays l (edited g x) (k + 1) xs ys p e) h
  where
    later : (o : Option LineCause)
        → (bad_from l (edited g x) (k + 1) xs ≡ Some p
        → bad_from l (edited g x) (k + 1) (xs ++ ys) ≡ Some p)
        → bad_or o k (bad_from l (edited g x) (k + 1) xs) ≡ Some p
        → bad_or o k (bad_from l (edited g x) (k + 1) (xs ++ ys)) ≡ Some p
    later None more e = more e
    later (Some cause) more e = e

-- ---- the first one
-- of the edits from place k on
abbrev AnswersFrom : Limits → Graph → ℕ → List Edit → Option (ℕ × LineCause) → Type 0
AnswersFrom l g k edits o = MatchOption o (NoneIsBad l g edits)
    (λ p. (k ≤ p.0) × IsFirstBad l g edits (p.0 - k) p.1)

module _ (l : Limits) (g : Graph) (e : Edit) (es : List Edit) (k : ℕ) where
  bad_here : (cause : LineCause) → one l g e ≡ Some cause
      → AnswersFrom l g k (e ∷ es) (Some (k, cause))
  bad_here cause is = (
    omega arith,
    subst (λ n. IsFirstBad l g (e ∷ es) n cause) (let z : 0 ≡ k - k = omega arith in z)
        (record { inside = omega arith; bad = λ d. is; before = λ j d h. absurd (omega arith) }),
  )

  none_here : (o : Option (ℕ × LineCause)) → one l g e ≡ None
      → AnswersFrom l (edited g e) (k + 1) es o → AnswersFrom l g k (e ∷ es) o
  none_here None is rest = all
    where
      all : NoneIsBad l g (e ∷ es)
      all zero d h = is
      all (suc j) d h = rest j d (omega arith)
  none_here (Some p) is rest =
      let past = rest.0 in
      let first = rest.1 in (
        omega arith,
        subst (λ n. IsFirstBad l g (e ∷ es) n p.1)
            (let z : suc (p.0 - (k + 1)) ≡ p.0 - k = omega arith in z)
            (record {
              inside = let inside = first.inside in omega arith;
              bad = first.bad;
              before = before first;
            }),
      )
    where
      before : IsFirstBad l (edited g e) es (p.0 - (k + 1)) p.1 → (j : ℕ) (d : Edit)
          → j < suc (p.0 - (k + 1)) → one l (after g (take j (e ∷ es))) (get_or (e ∷ es) j d) ≡ None
      before first zero d h = is
      before first (suc j) d h = first.before j d (omega arith)

pub answers_from : (l : Limits) (g : Graph) (k : ℕ) (edits : List Edit)
    → AnswersFrom l g k edits (bad_from l g k edits)
answers_from l g k [] = λ j d h. absurd (omega arith)
answers_from l g k (e ∷ es) =
    let rest = answers_from l (edited g e) (k + 1) es in
    elim (one l g e) as (λ o. one l g e ≡ o
    → AnswersFrom l g k (e ∷ es) (bad_or o k (bad_from l (edited g e) (k + 1) es))) [
      | None ↦ λ is. none_here l g e es k (bad_from l (edited g e) (k + 1) es) is rest
      | Some cause ↦ λ is. bad_here l g e es k cause is
    ] refl

pub bad_first : (l : Limits) (g : Graph) (edits : List Edit)
    → MatchOption (bad l g edits) (NoneIsBad l g edits) (λ p. IsFirstBad l g edits p.0 p.1)
bad_first l g edits = from_front (bad_from l g 0 edits) (answers_from l g 0 edits)
  where
    from_front : (o : Option (ℕ × LineCause)) → AnswersFrom l g 0 edits o
        → MatchOption o (NoneIsBad l g edits) (λ p. IsFirstBad l g edits p.0 p.1)
    from_front None h = h
    from_front (Some p) h = subst (λ n. IsFirstBad l g edits n p.1)
        (let z : p.0 - 0 ≡ p.0 = omega arith in z) h.1
