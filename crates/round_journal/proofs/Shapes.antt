-- A journal keeps its shape.
use Rattle.std.proofs.Common.{◌≡◌, ◌≢◌, ℕ, zero, suc, ◌+◌, ◌<◌, ◌≤◌, ◌⊎◌, List, [], ◌∷◌, ◌++◌}
use Rattle.std.proofs.Common.{length, take, set, get_or, lt_of_not-le, sym, refl, ap, ◌∙◌, subst}
use Rattle.std.proofs.Common.{⊎_elim, inl, inr, arith, length-append, Some, None}
use Rattle.std.specs.Prelude.{slice_get, is_some}
use mathlib.Core.Logic.{dite}
use native.Mathlib.Decide.{dec_le}
use Rattle.std.proofs.lemmas.List.{take-append-le, take-set-le, length-set}
use Rattle.round_journal.specs.declared.entry.Entered.{Entered}
use Rattle.round_journal.specs.declared.outcome.Outcome.{Outcome}
use Rattle.round_journal.specs.Book.{IsShaped, accepted_count, one_if_accepted, IsRound}

-- the entry with this outcome
abbrev pub with_outcome : Entered → Outcome → Entered
with_outcome e o = record { origin = e.origin; batch = e.batch; outcome = Some o }

-- no entry from place d on is decided
abbrev pub IsOpenFrom : List Entered → ℕ → Type 0
IsOpenFrom es d = (k : ℕ) (e : Entered) → slice_get es k ≡ Some e → d ≤ k → e.outcome ≡ None

get_is_within : (es : List Entered) (k : ℕ) (x : Entered) → slice_get es k ≡ Some x → k < length es
get_is_within [] k x e = cc
get_is_within (y ∷ ys) zero x e = omega arith
get_is_within (y ∷ ys) (suc k) x e = let r = get_is_within ys k x e in omega arith

get_pushed : (es : List Entered) (e x : Entered) (k : ℕ) → slice_get (es ++ e ∷ []) k ≡ Some x
    → (slice_get es k ≡ Some x) ⊎ ((k ≡ length es) × (e ≡ x))
get_pushed [] e x zero h = inr (refl, cc)
get_pushed [] e x (suc k) h = cc
get_pushed (y ∷ ys) e x zero h = inl h
get_pushed (y ∷ ys) e x (suc k) h =
    ⊎_elim (λ a. inl a) (λ (b : (k ≡ length ys) × (e ≡ x)). inr (ap suc b.0, b.1))
    (get_pushed ys e x k h)

pub get_replaced : (es : List Entered) (d k : ℕ) (y z : Entered)
    → slice_get (set es d y) k ≡ Some z
    → ((k ≡ d) × (y ≡ z)) ⊎ ((k ≢ d) × (slice_get es k ≡ Some z))
get_replaced [] d k y z at = cc
get_replaced (x ∷ xs) zero zero y z at = inl (refl, cc)
get_replaced (x ∷ xs) zero (suc k) y z at = inr ((λ e. absurd (omega arith)), at)
get_replaced (x ∷ xs) (suc d) zero y z at = inr ((λ e. absurd (omega arith)), at)
get_replaced (x ∷ xs) (suc d) (suc k) y z at =
    ⊎_elim (λ (a : (k ≡ d) × (y ≡ z)). inl (ap suc a.0, a.1))
    (λ (b : (k ≢ d) × (slice_get xs k ≡ Some z)). inr ((λ e. b.0 (omega arith)), b.1))
    (get_replaced xs d k y z at)

pub get_is_read : (es : List Entered) (d : ℕ) (x : Entered) → d < length es → x ≡ get_or es d x
    → slice_get es d ≡ Some x
get_is_read [] d x h e = absurd (omega arith)
get_is_read (y ∷ ys) zero x h e = ap (λ (z : Entered). Some z) (sym e)
get_is_read (y ∷ ys) (suc d) x h e = get_is_read ys d x (omega arith) e

-- ---- counts of accepted entries
accepted_count-append : (es fs : List Entered)
    → accepted_count (es ++ fs) ≡ accepted_count es + accepted_count fs
accepted_count-append [] fs = omega arith
accepted_count-append (x ∷ xs) fs = let e = accepted_count-append xs fs in omega arith

pub undecided_counts_nothing : (es : List Entered) (e : Entered) → e.outcome ≡ None
    → accepted_count (es ++ e ∷ []) ≡ accepted_count es
undecided_counts_nothing es e none =
    let a = accepted_count-append es (e ∷ []) in
    let b : one_if_accepted e.outcome ≡ 0 = ap one_if_accepted none in omega arith

-- the accepted ones are among the decided ones
pub accepted_come_first : (es : List Entered) (d : ℕ) → IsOpenFrom es d
    → accepted_count (take d es) ≡ accepted_count es
accepted_come_first [] zero late = refl
accepted_come_first [] (suc d) late = refl
accepted_come_first (x ∷ xs) zero late =
    let a = accepted_come_first xs zero (λ k e at _. late (suc k) e at (omega arith)) in
    let b : one_if_accepted x.outcome ≡ 0 = ap one_if_accepted (late zero x refl (omega arith)) in
    omega arith
accepted_come_first (x ∷ xs) (suc d) late =
    ap (λ (n : ℕ). one_if_accepted x.outcome + n)
    (accepted_come_first xs d (λ k e at h. late (suc k) e at (omega arith)))

pub decided_is_counted : (es : List Entered) (d : ℕ) (o : Outcome) (x : Entered)
    → slice_get es d ≡ Some x → x.outcome ≡ None
    → accepted_count (set es d (with_outcome x o)) ≡ accepted_count es + one_if_accepted (Some o)
decided_is_counted [] d o x at none = cc
decided_is_counted (y ∷ ys) zero o x at none =
    let e : y ≡ x = cc in
    let b : one_if_accepted y.outcome ≡ 0 =
    ap (λ (z : Entered). one_if_accepted z.outcome) e ∙ ap one_if_accepted none in omega arith
decided_is_counted (y ∷ ys) (suc d) o x at none =
    let r = decided_is_counted ys d o x at none in omega arith

-- ---- the shape
pub shape_takes_entry : (es : List Entered) (d : ℕ) (e : Entered) → IsShaped es d
    → length es < d + 64 → e.outcome ≡ None → IsShaped (es ++ e ∷ []) d
shape_takes_entry es d e h few none =
    let l = length-append es (e ∷ []) in
    let w = h.within in
    record {
      within = omega arith;
      few = omega arith;
      decided_first = λ k x at.
          ⊎_elim (λ (a : slice_get es k ≡ Some x). h.decided_first k x a)
          (λ (b : (k ≡ length es) × (e ≡ x)). (
            (λ low. absurd (let q = b.0 in omega arith)),
            λ _. ap (λ (y : Entered). y.outcome) (sym b.1) ∙ none,
          ))
          (get_pushed es e x k at);
      rounds = λ k x at.
          ⊎_elim (λ (a : slice_get es k ≡ Some x).
          let p = get_is_within es k x a in
          let le : k ≤ length es = omega arith in
          subst (λ (l : List Entered). IsRound (accepted_count l + 1) x.outcome)
          (sym (take-append-le k es (e ∷ []) le)) (h.rounds k x a))
          (λ (b : (k ≡ length es) × (e ≡ x)).
          subst (λ (o : _). IsRound (accepted_count (take k (es ++ e ∷ [])) + 1) o)
          (sym (ap (λ (y : Entered). y.outcome) (sym b.1) ∙ none)) tt)
          (get_pushed es e x k at);
    }

pub shape_takes_outcome : (es : List Entered) (d : ℕ) (o : Outcome) (x : Entered) → IsShaped es d
    → slice_get es d ≡ Some x → IsRound (accepted_count es + 1) (Some o)
    → IsShaped (set es d (with_outcome x o)) (d + 1)
shape_takes_outcome es d o x h here round =
    let new = with_outcome x o in
    let low = get_is_within es d x here in
    let n = length-set es d new in
    let f = h.few in
    let early = accepted_come_first es d (λ k e at le. (h.decided_first k e at).1 le) in
    record {
      within = omega arith;
      few = omega arith;
      decided_first = λ k y at. ⊎_elim
          (λ (a : (k ≡ d) × (new ≡ y)). (
            (λ _. ap (λ (z : Entered). is_some z.outcome) (sym a.1)),
            λ le. absurd (let q = a.0 in omega arith),
          ))
          (λ (b : (k ≢ d) × (slice_get es k ≡ Some y)).
          let p = h.decided_first k y b.1 in
          let ne = b.0 in
          ((λ lt. p.0 (omega arith)), λ le. p.1 (omega arith)))
          (get_replaced es d k new y at);
      rounds = λ k y at. ⊎_elim
          (λ (a : (k ≡ d) × (new ≡ y)).
          let t : accepted_count (take k (set es d new)) ≡ accepted_count es =
          ap (λ (j : ℕ). accepted_count (take j (set es d new))) a.0
          ∙ ap accepted_count (take-set-le d es d new (omega arith)) ∙ early in
          rw (t, ap (λ (z : Entered). z.outcome) (sym a.1)) round)
          (λ (b : (k ≢ d) × (slice_get es k ≡ Some y)). dite (dec_le k d)
          (λ le. rw (take-set-le k es d new le) (h.rounds k y b.1))
          (λ gt. let q = (h.decided_first k y b.1).1 (let z = lt_of_not-le gt in omega arith) in
          rw q tt))
          (get_replaced es d k new y at);
    }
