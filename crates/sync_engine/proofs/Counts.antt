-- How many edges are read.
use Rattle.std.proofs.Common.{◌≡◌, ℕ, ◌+◌, ◌-◌, ◌*◌, ◌<◌, ◌≤◌, ◌++◌, List, [], ◌∷◌, length, sym}
use Rattle.std.proofs.Common.{ap, ◌∙◌, arith}
use Rattle.std.specs.List.{All, range_with_len}
use Rattle.std.proofs.lemmas.List.FromFn.{get_or-range_with_len, length-range_with_len}
use Rattle.std.proofs.lemmas.List.FromFn.{map-range_with_len_more}
use Rattle.std.proofs.lemmas.List.{map-id}
use Rattle.bolt_base.specs.Graph.{Graph, IsGood, vertices, edges}
use Rattle.bolt_base.specs.declared.limits.Limits.{Limits}
use Rattle.bolt_base.proofs.Degrees.{all_in}
use Rattle.run_model.specs.Visits.{in_visits}

-- the edges into all vertices are all edges
all_read : (l : Limits) (h : Graph) → IsGood l h
    → in_visits h (range_with_len 0 (vertices h)) ≡ length (edges h)
all_read l h good = all_in h good.ends

pub these_read : (l : Limits) (h : Graph) (all : List ℕ) → IsGood l h
    → all ≡ range_with_len 0 (vertices h) → in_visits h all ≡ length (edges h)
these_read l h all good is = ap (in_visits h) is ∙ all_read l h good

-- the numbers below n are below n
pub all_below : (n : ℕ) → All (λ v. v < n) (range_with_len 0 n)
all_below n k d small =
    let long = length-range_with_len 0 n in
    let is = get_or-range_with_len 0 n k d (omega arith) in
    omega arith

pub range_more : (k : ℕ) → range_with_len 0 (k + 1) ≡ range_with_len 0 k ++ k ∷ []
range_more k =
    sym (map-id (range_with_len 0 (k + 1)))
    ∙ map-range_with_len_more (λ x. x) 0 k k (omega arith)
    ∙ ap (λ xs. xs ++ k ∷ []) (map-id (range_with_len 0 k))

-- ---- rounds of so many reads each
pub more_rounds : (i e : ℕ) → (i + 1) * e ≡ i * e + e
more_rounds i e = grind arith

pub some_rounds : (i n e : ℕ) → i ≤ n → i * e ≤ n * e
some_rounds i n e h = grind arith

pub all_rounds : (i n e : ℕ) → i ≤ n → i * e + (n - i) * e ≡ n * e
all_rounds i n e h = grind arith

-- one more round is within all of them
pub round_within : (i n e : ℕ) → i < n → i * e + e ≤ n * e
round_within i n e h = let a = more_rounds i e in let b = some_rounds (i + 1) n e (omega arith) in
    omega arith

-- the rounds up to the cut, and those past it
pub both_parts : (cut n m e : ℕ) → m ≡ n → cut ≤ n → cut * e + (m - cut) * e ≡ n * e
both_parts cut n m e same h = ap (λ k. cut * e + (k - cut) * e) same ∙ all_rounds cut n e h
