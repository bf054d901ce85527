-- What a search finds in a list whose keys rise.
use Rattle.std.proofs.Common.{◌≡◌, ◌⊎◌, ◌-◌, ℕ, ◌<◌, ◌≤◌, List, length, get_or, Result, Ok, Err}
use Rattle.std.proofs.Common.{IfOk, IfErr, sym, ap, arith, inl, inr, nat_le, nat_lt, true}
use Rattle.std.proofs.lemmas.List.{get_or_default}
use Rattle.std.specs.Ordering.{nat_cmp, ordering_index}
use Rattle.std.specs.declared.cmp.Ordering.TheVariants.{Less, Equal, Greater}
use Rattle.std.specs.List.Sorted.{IsSearchInRange, IsBinarySearchResult}
use Rattle.std.proofs.lemmas.Bool.{cases_lt}
use Rattle.std.proofs.lemmas.Bool.Decides.{nat_tests}
use Rattle.std.proofs.lemmas.Cmp.{ranked}
use Rattle.refine_tasks.specs.Sides.{HasKey, LacksKey}

-- a comparison with a fixed number rises with the other one
compared_more : (a b u : ℕ) → a ≤ b
    → ordering_index (nat_cmp a u) ≤ ordering_index (nat_cmp b u)
compared_more a b u h = grind (arith, nat_tests)

pub tells_most : (a b : ℕ) → nat_le a b ≡ true → a ≤ b
tells_most a b h = grind (arith, nat_tests)

pub tells_less : (a b : ℕ) → nat_lt a b ≡ true → a < b
tells_less a b h = grind (arith, nat_tests)

module _ {X : Type 0} (key : X → ℕ) (xs : List X) (u : ℕ) where
  pub searched_key : (r : Result ℕ ℕ) → IsSearchInRange r (length xs)
      → IsBinarySearchResult (λ x. nat_cmp (key x) u) xs r
      → IfOk r (HasKey key xs u) × IfErr r (λ _. LacksKey key xs u)
  searched_key (Ok at) within equal =
      (record { place = within; is = λ d. ranked _ u Equal (sym (equal d)) }, tt)
  searched_key (Err at) within parted = (
    tt,
    λ rise k small d same.
        let both = parted (λ i j e l h. compared_more (key (get_or xs i e)) (key (get_or xs j e)) u
        (rise i j e l h)) in
        elim (cases_lt k at) [
          | inl before ↦
              let less = ranked (key (get_or xs k d)) u Less
              (sym (both.0 k d (omega arith) before)) in
              absurd (omega arith)
          | inr past ↦
              let more = ranked (key (get_or xs k d)) u Greater (sym (both.1 k d past small)) in
              absurd (omega arith)
        ],
  )

  -- between two neighbours that rise there is none
  pub gap_lacks : (at : ℕ) → (d : X) → at ≤ length xs
      → (at ≡ 0) ⊎ (key (get_or xs (at - 1) d) < u)
      → (at ≡ length xs) ⊎ (u < key (get_or xs at d)) → LacksKey key xs u
  gap_lacks at d most low high rise k small e same = elim (cases_lt k at) [
    | inl before ↦ elim low [
      | inl none ↦ absurd (omega arith)
      | inr less ↦
          let up = rise k (at - 1) d (omega arith) (omega arith) in
          let there = ap key (get_or_default xs k e d small) in
          absurd (omega arith)
    ]
    | inr past ↦ elim high [
      | inl none ↦ absurd (omega arith)
      | inr more ↦
          let up = rise at k d (omega arith) small in
          let there = ap key (get_or_default xs k e d small) in
          absurd (omega arith)
    ]
  ]
