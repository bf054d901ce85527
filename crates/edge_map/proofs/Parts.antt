-- Runs of pieces.
use Rattle.std.specs.List.{sum_by}
use Rattle.std.proofs.Common.{min, zero-add, add-zero, ◌≡◌, ℕ, zero, suc, ◌+◌, ◌-◌, ◌<◌, ◌≤◌, List}
use Rattle.std.proofs.Common.{[], ◌∷◌, ◌++◌, length, take, drop, map, refl, sym, ap, ◌∙◌, subst}
use Rattle.std.proofs.Common.{arith}
use Rattle.std.specs.List.{All, range_with_len}
use Rattle.std.proofs.Math.Seq.{drop-append_seam}
use Rattle.std.proofs.lemmas.List.{take-append-le, map-append}
use Rattle.std.proofs.lemmas.List.Elements.{All-append, All-map, All-filter, filter_passes}
use Rattle.std.proofs.lemmas.List.FromFn.{length-range_with_len, get_or-range_with_len}
use Rattle.std.proofs.lemmas.List.Sums.{sum_by-append, sum_by-cons}
use Rattle.bolt_base.specs.Graph.{Graph, vertices}
use Rattle.bolt_base.specs.Pieces.{cut, pieces}
use Rattle.bolt_base.proofs.PieceLemmas.{pieces-append, pieces-whole}
use Rattle.run_model.specs.Additions.{Gift, amounts_of}
use Rattle.edge_map.specs.Additions.{source_at, works, dirty_places, gifts, gifts_of_works}
use Rattle.edge_map.specs.Additions.{adds_of_gifts, ends_of_gifts, visits, visits_of, task_gifts}
use Rattle.edge_map.specs.Additions.{task_visits}
use Rattle.edge_map.specs.Forks.{part_visits, part_gifts, part_adds, part_ends, piece_room}
use Rattle.edge_map.specs.Forks.{part_room}
use Rattle.edge_map.specs.Plans.{IsPlan}
use Rattle.edge_map.specs.Walks.{IsWork}
use Rattle.vertex_expr.specs.declared.program.ProgramEntries.{ProgramEntries}
use Rattle.edge_map.specs.declared.tasks.Plan.{Plan}
use Rattle.edge_map.specs.declared.tasks.Tasks.{Tasks}
use Rattle.edge_map.specs.declared.tasks.Work.{Work}
use Rattle.edge_map.specs.declared.tasks.Work.TheVariants.{Removed, Added, Dirty}
use Rattle.edge_map.proofs.RisingTasks.{added_has}
use Rattle.std.proofs.lemmas.List.Concat.{flat_map-append}

-- the slice between two cuts
pub part_is : (x : Plan) (xs : List Work) (total s e n m : ℕ) → xs ≡ x.works.items → total
    ≡ length x.works.items → s ≡ cut n total x.workers → e ≡ cut m total x.workers
    → take (e - s) (drop s xs) ≡ pieces x.works.items x.workers n m
part_is x xs total s e n m a b c d =
    (λ j. take (d j - c j) (drop (c j) (a j)))
    ∙ ap (λ (k : ℕ). take (cut m k x.workers - cut n k x.workers)
    (drop (cut n k x.workers) x.works.items)) b

pub part_split : (x : Plan) (a b c : ℕ) → 0 < x.workers → a ≤ b → b ≤ c
    → part_visits x a b + part_visits x b c ≡ part_visits x a c
part_split x a b c some ab bc =
    sym (sum_by-append (visits x.tasks.now) (pieces x.works.items x.workers a b)
    (pieces x.works.items x.workers b c))
    ∙ ap (visits_of x.tasks.now) (pieces-append x.works.items x.workers a b c some ab bc)

-- sums over a range that is cut
sum_range : (f : ℕ → ℕ) (a m n : ℕ)
    → sum_by f (range_with_len a (m + n))
    ≡ sum_by f (range_with_len a m) + sum_by f (range_with_len (a + m) n)
sum_range f a zero n = rw (zero-add n, add-zero a) (sym (zero-add (sum_by f (range_with_len a n))))
sum_range f a (suc m) n =
    let rest = sum_range f (a + 1) m n in
    let whole = sum_by-cons f a (range_with_len (a + 1) (m + n)) in
    let first = sum_by-cons f a (range_with_len (a + 1) m) in
    let same = ap (λ k. sum_by f (range_with_len k n))
    (let e : a + 1 + m ≡ a + suc m = omega arith in e) in
    let long : suc m + n ≡ suc (m + n) = omega arith in
    rw long (omega arith)

pub room_split : (g : Graph) (x : Plan) (a b c : ℕ) → a ≤ b → b ≤ c
    → part_room g x a b + part_room g x b c ≡ part_room g x a c
room_split g x a b c ab bc =
    let parts = sum_range (piece_room g x) a (b - a) (c - b) in
    let long = ap (λ k. sum_by (piece_room g x) (range_with_len a k))
    (let e : b - a + (c - b) ≡ c - a = omega arith in e) in
    let middle = ap (λ k. sum_by (piece_room g x) (range_with_len k (c - b)))
    (let e : a + (b - a) ≡ b = omega arith in e) in
    omega arith

-- one piece alone
pub room_alone : (g : Graph) (x : Plan) (a b : ℕ) → b ≡ a + 1
    → part_room g x a b ≡ min (vertices g) (part_visits x a b)
room_alone g x a b e =
    ap (λ k. sum_by (piece_room g x) (range_with_len a k)) (let f : b - a ≡ 1 = omega arith in f)
    ∙ (let one = sum_by-cons (piece_room g x) a [] in let f : sum_by (piece_room g x) (a ∷ [])
    ≡ piece_room g x a = omega arith in f)
    ∙ ap (λ k. min (vertices g) (part_visits x a k)) (sym e)

-- there are no more places than edges that are read
pub room_few : (g : Graph) (x : Plan) (a b : ℕ) → 0 < x.workers → a ≤ b
    → part_room g x a b ≤ part_visits x a b
room_few g x a b some h = go (b - a) a (omega arith) where
  go : (n a : ℕ) → b ≡ a + n → part_room g x a b ≤ part_visits x a b
  go zero a e =
      let none = ap (λ k. sum_by (piece_room g x) (range_with_len a k))
      (let f : b - a ≡ 0 = omega arith in f) in
      omega arith
  go (suc n) a e =
      let up : a ≤ a + 1 = omega arith in
      let down : a + 1 ≤ b = omega arith in
      let rest = go n (a + 1) (omega arith) in
      let rooms = room_split g x a (a + 1) b up down in
      let reads = part_split x a (a + 1) b some up down in
      let one = room_alone g x a (a + 1) refl in
      omega arith

gifts_split : (g : Graph) (x : Plan) (a b c : ℕ) → 0 < x.workers → a ≤ b → b ≤ c
    → part_gifts g x a b ++ part_gifts g x b c ≡ part_gifts g x a c
gifts_split g x a b c some ab bc =
    sym (flat_map-append (gifts x.program.now g x.tasks.now) (pieces x.works.items x.workers a b)
    (pieces x.works.items x.workers b c))
    ∙ ap (gifts_of_works x.program.now g x.tasks.now)
    (pieces-append x.works.items x.workers a b c some ab bc)

pub adds_split : (g : Graph) (x : Plan) (a b c : ℕ) → 0 < x.workers → a ≤ b → b ≤ c
    → part_adds g x a b ++ part_adds g x b c ≡ part_adds g x a c
adds_split g x a b c some ab bc = sym
    (flat_map-append (amounts_of x.program.now) (part_gifts g x a b) (part_gifts g x b c))
    ∙ ap (adds_of_gifts x.program.now) (gifts_split g x a b c some ab bc)

pub ends_split : (g : Graph) (x : Plan) (a b c : ℕ) → 0 < x.workers → a ≤ b → b ≤ c
    → part_ends g x a b ++ part_ends g x b c ≡ part_ends g x a c
ends_split g x a b c some ab bc = sym
    (map-append (λ (y : Gift). y.dst) (part_gifts g x a b) (part_gifts g x b c))
    ∙ ap ends_of_gifts (gifts_split g x a b c some ab bc)

-- two parts side by side, closed up
pub closed : (f m s : ℕ) (front back xs : List ℕ) → length front ≡ m → f ≤ m → xs
    ≡ take f (front ++ back) ++ take s (drop m (front ++ back)) → xs ≡ take f front ++ take s back
closed f m s front back xs long few e =
    e ∙ (λ j. take-append-le f front back (omega arith) j
    ++ take s (ap (λ (n : ℕ). drop n (front ++ back)) (sym long) j))
    ∙ ap (λ (l : List ℕ). take f front ++ take s l) (drop-append_seam front back)

-- ---- every item is one of the graph's
pub places_fit : (n : ℕ) → All (λ (k : ℕ). k < n) (range_with_len 0 n)
places_fit n k d h =
    let long = length-range_with_len 0 n in
    let small : k < n = omega arith in
    let is = get_or-range_with_len 0 n k d small in
    omega arith

pub works_fit : (g : Graph) (x : Plan) → IsPlan g x
    → All (IsWork x.program.now g x.tasks.now) x.works.items
works_fit g x plan =
    let p = x.program.now in
    let t = x.tasks.now in
    let agrees = plan.agrees in
    subst (All (IsWork p g t)) (sym plan.all)
    (All-append (IsWork p g t) (map Removed t.removed ++ map Added t.added)
    (map Dirty (dirty_places t))
    (All-append (IsWork p g t) (map Removed t.removed) (map Added t.added)
    (All-map (IsWork p g t) Removed t.removed (λ k d h. (agrees.removed k d h, agrees.had k d h)))
    (All-map (IsWork p g t) Added t.added
    (λ k d h. (agrees.added k d h, added_has p g t agrees k d h))))
    (All-map (IsWork p g t) Dirty (dirty_places t)
    (λ k d h. (
      All-filter (λ (i : ℕ). (source_at t i).dirty) (λ (i : ℕ). i < length t.sources)
          (range_with_len 0 (length t.sources)) (places_fit (length t.sources)) k d h,
      filter_passes
          (λ (i : ℕ). (source_at t i).dirty) (range_with_len 0 (length t.sources)) k d h,
    ))))

-- ---- all pieces
pub whole_visits : (x : Plan) (t : Tasks) (n : ℕ) → x.works.items ≡ works t → x.tasks.now ≡ t
    → x.workers ≡ n → 0 < n → part_visits x 0 n ≡ task_visits t
whole_visits x t n all same workers some =
    ap (λ (m : ℕ). visits_of x.tasks.now (pieces x.works.items m 0 n)) workers
    ∙ ap (visits_of x.tasks.now) (pieces-whole x.works.items n some)
    ∙ (λ j. visits_of (same j) (all j))

pub whole_gifts : (g : Graph) (x : Plan) (p : ProgramEntries) (t : Tasks) (n : ℕ) → x.works.items
    ≡ works t → x.program.now ≡ p → x.tasks.now ≡ t → x.workers ≡ n → 0 < n → part_gifts g x 0 n
    ≡ task_gifts p g t
whole_gifts g x p t n all program same workers some =
    ap (λ (m : ℕ). gifts_of_works x.program.now g x.tasks.now (pieces x.works.items m 0 n)) workers
    ∙ ap (gifts_of_works x.program.now g x.tasks.now) (pieces-whole x.works.items n some)
    ∙ (λ j. gifts_of_works (program j) g (same j) (all j))

-- the front of what was put to the front
pub kept : (n m : ℕ) (front back : List ℕ) → n ≤ m → n ≤ length front
    → take n (take m (front ++ back)) ≡ take n front
kept zero m front back a b = refl
kept (suc n) zero front back a b = absurd (omega arith)
kept (suc n) (suc m) [] back a b = absurd (omega arith)
kept (suc n) (suc m) (x ∷ front) back a b = ap (λ (l : List ℕ). x ∷ l)
    (kept n m front back (omega arith) (omega arith))
