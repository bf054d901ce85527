-- Parts of a list, side by side.
use Rattle.std.proofs.Common.{◌≡◌, ℕ, zero, suc, ◌+◌, ◌-◌, ◌<◌, ◌≤◌, ◌++◌, List, [], ◌∷◌, length}
use Rattle.std.proofs.Common.{get_or, map, sym, ap, ◌∙◌, refl, arith}
use Rattle.std.specs.List.{range_with_len}
use Rattle.std.proofs.lemmas.List.{map-append}
use Rattle.std.proofs.lemmas.List.FromFn.{fill_by_all, map-range_with_len_more}
use Rattle.std.proofs.lemmas.List.Sums.{sum_by-append}
use Rattle.bolt_base.specs.Graph.{Graph, indeg}
use Rattle.run_model.specs.Visits.{in_visits}
use Rattle.pull_targets.specs.Reading.{part}

range-append : (a m n : ℕ)
    → range_with_len a (m + n) ≡ range_with_len a m ++ range_with_len (a + m) n
range-append a zero n =
    let left : 0 + n ≡ n = omega arith in
    let right : a ≡ a + 0 = omega arith in
    ap (range_with_len a) left ∙ ap (λ b. range_with_len b n) right
range-append a (suc m) n =
    let left : suc m + n ≡ suc (m + n) = omega arith in
    let right : a + 1 + m ≡ a + suc m = omega arith in
    ap (range_with_len a) left
    ∙ ap (λ xs. a ∷ xs)
    (range-append (a + 1) m n ∙ ap (λ b. range_with_len (a + 1) m ++ range_with_len b n) right)

module _ (ts : List ℕ) where
  pub part_split : (a b c : ℕ) → a ≤ b → b ≤ c → part ts a c ≡ part ts a b ++ part ts b c
  part_split a b c lo hi =
      let whole : c - a ≡ (b - a) + (c - b) = omega arith in
      let mid : a + (b - a) ≡ b = omega arith in
      ap (λ n. map (λ k. get_or ts k 0) (range_with_len a n)) whole
      ∙ ap (map (λ k. get_or ts k 0)) (range-append a (b - a) (c - b)
      ∙ ap (λ m. range_with_len a (b - a) ++ range_with_len m (c - b)) mid)
      ∙ map-append (λ k. get_or ts k 0) (range_with_len a (b - a)) (range_with_len b (c - b))

  pub part_more : (a b : ℕ) → a ≤ b → part ts a (b + 1) ≡ part ts a b ++ get_or ts b 0 ∷ []
  part_more a b lo =
      let n : (b + 1) - a ≡ (b - a) + 1 = omega arith in
      ap (λ k. map (λ k. get_or ts k 0) (range_with_len a k)) n
      ∙ map-range_with_len_more (λ k. get_or ts k 0) a (b - a) b (omega arith)

  pub part_all : part ts 0 (length ts) ≡ ts
  part_all =
      let none : length ts - 0 ≡ length ts = omega arith in
      ap (λ n. map (λ k. get_or ts k 0) (range_with_len 0 n)) none
      ∙ sym (fill_by_all (λ k. get_or ts k 0) ts (length ts) 0 refl (λ k small. refl))

  module _ (g : Graph) (a b : ℕ) (lo : a ≤ b) where
    -- one more vertex
    pub reads_more : in_visits g (part ts a (b + 1))
        ≡ in_visits g (part ts a b) + indeg g (get_or ts b 0)
    reads_more =
        let both = sum_by-append (indeg g) (part ts a b) (get_or ts b 0 ∷ []) in
        let more = ap (in_visits g) (part_more a b lo) in
        omega arith

    pub reads_both : (c : ℕ) → b ≤ c
        → in_visits g (part ts a c) ≡ in_visits g (part ts a b) + in_visits g (part ts b c)
    reads_both c hi =
        ap (in_visits g) (part_split a b c lo hi)
        ∙ sum_by-append (indeg g) (part ts a b) (part ts b c)

  pub reads_within : (g : Graph) (a b c : ℕ) → a ≤ b → b < c
      → in_visits g (part ts a b) + indeg g (get_or ts b 0) ≤ in_visits g (part ts a c)
  reads_within g a b c lo hi =
      let more = reads_more g a b lo in
      let both = reads_both g a (b + 1) (omega arith) c (omega arith) in
      omega arith

  pub mapped_more : {X : Type 0} (f : ℕ → X) (a b : ℕ) (xs ys : List X) (x : X) → a ≤ b
      → ys ≡ xs ++ x ∷ [] → xs ≡ map f (part ts a b) → x ≡ f (get_or ts b 0)
      → ys ≡ map f (part ts a (b + 1))
  mapped_more f a b xs ys x lo pushed so_far is =
      pushed ∙ (λ j. so_far j ++ is j ∷ [])
      ∙ sym (ap (map f) (part_more a b lo) ∙ map-append f (part ts a b) (get_or ts b 0 ∷ []))

  pub mapped_both : {X : Type 0} (f : ℕ → X) (a b c : ℕ) → a ≤ b → b ≤ c
      → map f (part ts a b) ++ map f (part ts b c) ≡ map f (part ts a c)
  mapped_both f a b c lo hi =
      sym (ap (map f) (part_split a b c lo hi) ∙ map-append f (part ts a b) (part ts b c))
