-- A walk over rising edges beside rising added ones leaves the edges that weren't added.
use Rattle.std.proofs.Common.{◌≡◌, ◌⊎◌, ℕ, ◌+◌, ◌<◌, ◌≤◌, Bool, true, false, not, ◌&&◌, ◌||◌}
use Rattle.std.proofs.Common.{eqb, cond, List, [], ◌∷◌, filter, refl, sym, ap, ◌∙◌, arith, inl, inr}
use Rattle.std.specs.List.{AllByRecursion, list_any}
use Rattle.std.proofs.lemmas.Bool.{cases_eq, cases_lt, eq-eqb, ne_eqb}
use Rattle.bolt_base.specs.declared.edge.Edge.{Edge}
use Rattle.edge_map.specs.Walks.{unadded}
use Rattle.edge_map.specs.declared.tasks.TaskEdge.{TaskEdge}

-- ---- filters
pub filter_all : {X : Type 0} (p : X → Bool) (xs : List X) → AllByRecursion (λ x. p x ≡ true) xs
    → filter p xs ≡ xs
filter_all p [] h = refl
filter_all p (x ∷ xs) h =
    ap (λ b. cond b (x ∷ filter p xs) (filter p xs)) h.0 ∙ ap (λ ys. x ∷ ys) (filter_all p xs h.1)

pub filter_alike : {X : Type 0} (p q : X → Bool) (xs : List X)
    → AllByRecursion (λ x. p x ≡ q x) xs → filter p xs ≡ filter q xs
filter_alike p q [] h = refl
filter_alike p q (x ∷ xs) h =
    let rest = filter_alike p q xs h.1 in
    λ j. cond (h.0 j) (x ∷ rest j) (rest j)

-- ---- edges and added edges that rise
-- the ends rise, from a on
abbrev pub EndsFrom : ℕ → List Edge → Type 0
EndsFrom a [] = Unit {0}
EndsFrom a (e ∷ es) = (a ≤ e.dst) × EndsFrom (e.dst + 1) es

-- those of source k come first, and their ends rise, from a on
abbrev pub MineFrom : ℕ → ℕ → List TaskEdge → Type 0
MineFrom k a [] = Unit {0}
MineFrom k a (x ∷ xs) =
    ((x.source ≡ k) × (a ≤ x.edge.dst) × MineFrom k (x.edge.dst + 1) xs)
    ⊎ AllByRecursion (λ (y : TaskEdge). k < y.source) (x ∷ xs)

-- an added edge of source k ends there
abbrev pub is_mine : ℕ → ℕ → TaskEdge → Bool
is_mine k dst x = eqb x.source k && eqb x.edge.dst dst

abbrev pub has_mine : ℕ → List TaskEdge → ℕ → Bool
has_mine k xs dst = list_any (is_mine k dst) xs

-- one of the edges ends there
abbrev pub has_end : List Edge → ℕ → Bool
has_end es dst = list_any (λ e. eqb e.dst dst) es

-- the added edges of source k are among the edges
abbrev pub AreAmong : ℕ → List Edge → List TaskEdge → Type 0
AreAmong k es xs =
    AllByRecursion (λ (x : TaskEdge). x.source ≡ k → has_end es x.edge.dst ≡ true) xs

ends_weaker : (a b : ℕ) (es : List Edge) → b ≤ a → EndsFrom a es → EndsFrom b es
ends_weaker a b [] l h = tt
ends_weaker a b (e ∷ es) l h = let c = h.0 in (omega arith, h.1)

ends_above : (a : ℕ) (es : List Edge) → EndsFrom a es
    → AllByRecursion (λ (e : Edge). a ≤ e.dst) es
ends_above a [] h = tt
ends_above a (e ∷ es) h =
    let c = h.0 in
    (c, ends_above a es (ends_weaker (e.dst + 1) a es (omega arith) h.1))

no_end : (dst : ℕ) (es : List Edge) → AllByRecursion (λ (e : Edge). dst < e.dst) es
    → has_end es dst ≡ false
no_end dst [] h = refl
no_end dst (e ∷ es) h =
    let c = h.0 in
    ap (λ b. b || has_end es dst) (ne_eqb e.dst dst (λ q. omega arith)) ∙ no_end dst es h.1

mine_weaker : (k a b : ℕ) (xs : List TaskEdge) → b ≤ a → MineFrom k a xs → MineFrom k b xs
mine_weaker k a b [] l h = tt
mine_weaker k a b (x ∷ xs) l h = elim h [
  | inl m ↦ inl (m.0, (let c = m.1 in omega arith), m.2)
  | inr p ↦ inr p
]

not_mine : (k dst : ℕ) (x : TaskEdge) → k < x.source → is_mine k dst x ≡ false
not_mine k dst x h = ap (λ b. b && eqb x.edge.dst dst) (ne_eqb x.source k (λ q. omega arith))

none_mine : (k dst : ℕ) (xs : List TaskEdge)
    → AllByRecursion (λ (y : TaskEdge). k < y.source) xs → has_mine k xs dst ≡ false
none_mine k dst [] h = refl
none_mine k dst (x ∷ xs) h =
    ap (λ b. b || has_mine k xs dst) (not_mine k dst x h.0) ∙ none_mine k dst xs h.1

other_end : (k dst : ℕ) (x : TaskEdge) → dst < x.edge.dst → is_mine k dst x ≡ false
other_end k dst x h =
    ap (λ b. eqb x.source k && b) (ne_eqb x.edge.dst dst (λ q. omega arith))
    ∙ never (eqb x.source k)
  where
    never : (b : Bool) → (b && false) ≡ false
    never true = refl
    never false = refl

-- below where they begin there is none
mine_above : (k a dst : ℕ) (xs : List TaskEdge) → dst < a → MineFrom k a xs
    → has_mine k xs dst ≡ false
mine_above k a dst [] l h = refl
mine_above k a dst (x ∷ xs) l h = elim h [
  | inl m ↦
      let c = m.1 in
      ap (λ b. b || has_mine k xs dst) (other_end k dst x (omega arith))
      ∙ mine_above k (x.edge.dst + 1) dst xs (omega arith) m.2
  | inr p ↦ none_mine k dst (x ∷ xs) p
]

-- those that end past an edge are among the edges behind it
among_behind : (k a : ℕ) (e : Edge) (es : List Edge) (xs : List TaskEdge) → e.dst < a
    → MineFrom k a xs → AreAmong k (e ∷ es) xs → AreAmong k es xs
among_behind k a e es [] l m h = tt
among_behind k a e es (x ∷ xs) l m h = elim m [
  | inl n ↦
      let c = n.1 in (
        λ s. sym (ap (λ b. b || has_end es x.edge.dst)
            (ne_eqb e.dst x.edge.dst (λ q. omega arith))) ∙ h.0 s,
        among_behind k (x.edge.dst + 1) e es xs (omega arith) n.2 h.1,
      )
  | inr p ↦ past (x ∷ xs) p
]
  where
    past : (ys : List TaskEdge) → AllByRecursion (λ (y : TaskEdge). k < y.source) ys
        → AreAmong k es ys
    past [] p = tt
    past (y ∷ ys) p = let c = p.0 in (λ s. absurd (omega arith), past ys p.1)

-- ---- the walk
walk_past : (k : ℕ) (xs : List TaskEdge) (es : List Edge)
    → AllByRecursion (λ (y : TaskEdge). k < y.source) xs → unadded k xs es ≡ es
walk_past k xs [] h = refl
walk_past k [] (e ∷ es) h = refl
walk_past k (x ∷ xs) (e ∷ es) h =
    ap (λ b. cond b (unadded k xs es) (e ∷ unadded k (x ∷ xs) es)) (not_mine k e.dst x h.0)
    ∙ ap (λ l. e ∷ l) (walk_past k (x ∷ xs) es h)

keeps_all : (k : ℕ) (xs : List TaskEdge) (es : List Edge)
    → AllByRecursion (λ (y : TaskEdge). k < y.source) xs
    → AllByRecursion (λ (e : Edge). not (has_mine k xs e.dst) ≡ true) es
keeps_all k xs [] h = tt
keeps_all k xs (e ∷ es) h = (ap not (none_mine k e.dst xs h), keeps_all k xs es h)

-- an added edge is none of those that end past it
first_gone : (k : ℕ) (x : TaskEdge) (xs : List TaskEdge) (es : List Edge)
    → AllByRecursion (λ (e : Edge). x.edge.dst < e.dst) es
    → AllByRecursion
    (λ (e : Edge). not (has_mine k (x ∷ xs) e.dst) ≡ not (has_mine k xs e.dst)) es
first_gone k x xs [] h = tt
first_gone k x xs (e ∷ es) h = (
  ap (λ b. not (b || has_mine k xs e.dst)) (earlier_end e.dst h.0),
  first_gone k x xs es h.1,
)
  where
    never : (b : Bool) → (b && false) ≡ false
    never true = refl
    never false = refl

    earlier_end : (dst : ℕ) → x.edge.dst < dst → is_mine k dst x ≡ false
    earlier_end dst l =
        ap (λ b. eqb x.source k && b) (ne_eqb x.edge.dst dst (λ q. omega arith))
        ∙ never (eqb x.source k)

all_past : (dst a : ℕ) (es : List Edge) → dst < a → EndsFrom a es
    → AllByRecursion (λ (f : Edge). dst < f.dst) es
all_past dst a es l u = lift es (ends_above a es u)
  where
    lift : (fs : List Edge) → AllByRecursion (λ (f : Edge). a ≤ f.dst) fs
        → AllByRecursion (λ (f : Edge). dst < f.dst) fs
    lift [] h = tt
    lift (f ∷ fs) h = (let c = h.0 in omega arith, lift fs h.1)

abbrev WalkIsFilter : ℕ → List TaskEdge → List Edge → Type 0
WalkIsFilter k xs es = unadded k xs es ≡ filter (λ e. not (has_mine k xs e.dst)) es

walk_takes : (k : ℕ) (x : TaskEdge) (xs : List TaskEdge) (e : Edge) (es : List Edge)
    → x.source ≡ k → x.edge.dst ≡ e.dst → EndsFrom (e.dst + 1) es → WalkIsFilter k xs es
    → WalkIsFilter k (x ∷ xs) (e ∷ es)
walk_takes k x xs e es mine same up rest =
    let is : is_mine k e.dst x ≡ true =
    (λ j. eq-eqb x.source k mine j && eq-eqb x.edge.dst e.dst same j) in
    let behind = all_past x.edge.dst (e.dst + 1) es (omega arith) up in
    ap (λ b. cond b (unadded k xs es) (e ∷ unadded k (x ∷ xs) es)) is
    ∙ rest
    ∙ sym (filter_alike (λ f. not (has_mine k (x ∷ xs) f.dst)) (λ f. not (has_mine k xs f.dst)) es
    (first_gone k x xs es behind))
    ∙ sym (ap (λ b. cond (not (b || has_mine k xs e.dst))
    (e ∷ filter (λ f. not (has_mine k (x ∷ xs) f.dst)) es)
    (filter (λ f. not (has_mine k (x ∷ xs) f.dst)) es)) is)

walk_leaves : (k : ℕ) (x : TaskEdge) (xs : List TaskEdge) (e : Edge) (es : List Edge)
    → MineFrom k (e.dst + 1) (x ∷ xs) → e.dst < x.edge.dst → WalkIsFilter k (x ∷ xs) es
    → WalkIsFilter k (x ∷ xs) (e ∷ es)
walk_leaves k x xs e es mine later rest =
    ap (λ b. cond b (unadded k xs es) (e ∷ unadded k (x ∷ xs) es)) (other_end k e.dst x later)
    ∙ ap (λ l. e ∷ l) rest
    ∙ sym (ap (λ b. cond (not b) (e ∷ filter (λ f. not (has_mine k (x ∷ xs) f.dst)) es)
    (filter (λ f. not (has_mine k (x ∷ xs) f.dst)) es))
    (mine_above k (e.dst + 1) e.dst (x ∷ xs) (omega arith) mine))

pub walk_is_filter : (k a : ℕ) (xs : List TaskEdge) (es : List Edge) → MineFrom k a xs
    → EndsFrom a es → AreAmong k es xs → WalkIsFilter k xs es
walk_is_filter k a xs [] m up among = refl
walk_is_filter k a [] (e ∷ es) m up among =
    sym (filter_all (λ e. not (has_mine k [] e.dst)) (e ∷ es) (keeps_all k [] (e ∷ es) tt))
walk_is_filter k a (x ∷ xs) (e ∷ es) m up among = elim m [
  | inr p ↦
      walk_past k (x ∷ xs) (e ∷ es) p
      ∙ sym (filter_all (λ e. not (has_mine k (x ∷ xs) e.dst)) (e ∷ es)
      (keeps_all k (x ∷ xs) (e ∷ es) p))
  | inl n ↦ elim (cases_lt x.edge.dst e.dst) [
    | inl low ↦
        let none = no_end x.edge.dst (e ∷ es)
        (low, all_past x.edge.dst (e.dst + 1) es (omega arith) up.1) in
        let there = among.0 n.0 in
        absurd (cc (none, there))
    | inr high ↦ elim (cases_eq x.edge.dst e.dst) [
      | inl same ↦
          walk_takes k x xs e es n.0 same up.1
          (walk_is_filter k (x.edge.dst + 1) xs es n.2
          (ends_weaker (e.dst + 1) (x.edge.dst + 1) es (omega arith) up.1)
          (among_behind k (x.edge.dst + 1) e es xs (omega arith) n.2 among.1))
      | inr apart ↦
          let later : e.dst < x.edge.dst = omega arith in
          let mine : MineFrom k (e.dst + 1) (x ∷ xs) = inl (n.0, omega arith, n.2) in
          walk_leaves k x xs e es mine later
          (walk_is_filter k (e.dst + 1) (x ∷ xs) es mine up.1
          (among_behind k (e.dst + 1) e es (x ∷ xs) (omega arith) mine among))
    ]
  ]
]
