-- The exchange that adds a round keeps the rule of the book.
use Rattle.std.proofs.Common.{◌≡◌, ℕ, ◌+◌, ◌<◌, ◌==◌, Bool, true, false, List, [], ◌∷◌, ◌++◌}
use Rattle.std.proofs.Common.{length, refl, ap, sym, subst, arith, inl, length-append, None}
use Rattle.std.proofs.lemmas.List.{append-nil}
use Rattle.std.proofs.lemmas.Bool.Decides.{nat_tests}
use mathlib.Core.List.{IsPrefix}
use prog.Atomic.{either}
use Rattle.logbook.specs.Pages.{Cell, cell, keeps, no_nib, step, Moves, Goes}
use Rattle.board.specs.declared.kinds.Entry.{Entry}
use Rattle.board.specs.Law.{IsKept, Adds}
use Rattle.board.proofs.Prefixes.{whole_prefix_is_all}

abbrev pub no_entry_shown : List Entry → List Entry
no_entry_shown log = []

abbrev pub is_moved : List Entry → List Entry → ℕ → Type 0
is_moved xs ys n = Unit {0}

exchange_goes : (log v : List Entry) (e : Entry) (old : ℕ) → length v ≡ old → IsPrefix v log
    → (b : Bool) → (length log == old) ≡ b
    → Goes IsKept no_entry_shown is_moved 0 (v, (no_nib, None))
    (λ n. either (n == old) (old + 1) n) (Adds (step 0 old (old + 1) e) (v, (no_nib, None)))
    ((length log, true) ∷ (0, true) ∷ []) log
exchange_goes log v e old len pre true is =
    let here : length log ≡ old = grind (arith, nat_tests) in
    let same : v ≡ log = whole_prefix_is_all v log pre (omega arith) in
    let n : either (length log == old) (old + 1) (length log)
    ≡ length (log ++ e ∷ []) = rw is (omega (arith, length-append log (e ∷ []))) in (
      keeps,
      e ∷ [],
      None,
      tt,
      ap (λ (k : ℕ). (k, true) ∷ (0, true) ∷ []) n,
      inl (refl, refl),
      rw is (ap (λ w. w ++ e ∷ []) (sym same)),
    )
exchange_goes log v e old len pre false is =
    let all : log ++ [] ≡ log = append-nil log in
    let n : either (length log == old) (old + 1) (length log)
    ≡ length (log ++ []) = rw is (ap length (sym all)) in (
      keeps,
      [],
      None,
      tt,
      ap (λ (k : ℕ). (k, true) ∷ (0, true) ∷ []) n,
      inl (refl, refl),
      rw is tt,
    )

-- whatever the book is, the exchange adds the round to all that was seen, or finds that the log is
-- longer
pub exchange_adds : (v : List Entry) (e : Entry) (old : ℕ) → length v ≡ old
    → Moves IsKept no_entry_shown is_moved 0 (v, (no_nib, None))
    (λ n. either (n == old) (old + 1) n) (Adds (step 0 old (old + 1) e) (v, (no_nib, None)))
exchange_adds v e old len cs log kept pre away =
    let P : List Cell → Type 0 = λ c. (0 < length c) × ((cell c 0).1 ≡ true)
    × Goes IsKept no_entry_shown is_moved 0 (v, (no_nib, None))
    (λ n. either (n == old) (old + 1) n)
    (Adds (step 0 old (old + 1) e) (v, (no_nib, None))) c log in
    subst P (sym kept) (
      omega arith,
      refl,
      exchange_goes log v e old len pre (length log == old)
          refl,
    )
