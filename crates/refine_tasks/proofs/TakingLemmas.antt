-- Taking, target by target.
use Rattle.std.proofs.Common.{◌≡◌, ℕ, zero, suc, ◌+◌, ◌<◌, ◌≤◌, Bool, true, false, cond}
use Rattle.std.proofs.Common.{List, [], ◌∷◌, ◌++◌, length, get_or, filter, take, drop, refl, sym}
use Rattle.std.proofs.Common.{ap, ◌∙◌, subst, arith, append-nil, drop-cons, add-one, inl, inr}
use Rattle.std.specs.List.{All}
use Rattle.std.proofs.lemmas.Bool.{cases_eq, cases_Bool}
use Rattle.std.proofs.lemmas.List.{append_assoc, take_all}
use Rattle.bolt_base.specs.Residue.{Amount}
use Rattle.agg_words.specs.View.{View, times}
use Rattle.agg_words.specs.declared.layout.Layout.{Layout}
use Rattle.vertex_expr.specs.declared.program.ProgramEntries.{ProgramEntries}
use Rattle.run_model.specs.Additions.{adds_of, items}
use Rattle.run_model.specs.Steps.{Step, is_target}
use Rattle.edge_map.proofs.Rising.{times_here, times_other}
use Rattle.sum_steps.specs.Taken.{AreLeft, takes, takes_at, takes_of}
use Rattle.sum_steps.proofs.TakenWords.{takes_grow}
use Rattle.refine_tasks.specs.Taking.{AreTakenTo, TakingBegins, TakingEnds}

pub taking_begins : TakingBegins
taking_begins p s k us vs v spread are = record {
  inside = omega arith;
  left = spread.left;
  grown = sym (append-nil v.amounts);
  ahead = sym are;
  marks = spread.marks;
}

-- ---- lists
none_dropped : (n : ℕ) (xs : List ℕ) → drop n xs ≡ [] → length xs ≤ n
none_dropped zero [] e = omega arith
none_dropped zero (x ∷ xs) e = absurd (let l = ap length e in omega arith)
none_dropped (suc n) [] e = omega arith
none_dropped (suc n) (x ∷ xs) e = let l = none_dropped n xs e in omega arith

some_dropped : (n x : ℕ) (us rest : List ℕ) → drop n us ≡ x ∷ rest
    → (n < length us) × (get_or us n 0 ≡ x) × (drop (n + 1) us ≡ rest)
some_dropped n x us rest e =
    let there : n < length us = within n us e in
    let next : drop n us ≡ get_or us n 0 ∷ drop (n + 1) us = rw add-one (drop-cons us n 0 there) in
    let same : get_or us n 0 ∷ drop (n + 1) us ≡ x ∷ rest = sym next ∙ e in
    (there, ap (λ l. get_or l 0 0) same, ap (drop 1) same)
  where
    within : (n : ℕ) (us : List ℕ) → drop n us ≡ x ∷ rest → n < length us
    within zero [] e = absurd (let l = ap length e in omega arith)
    within (suc n) [] e = absurd (let l = ap length e in omega arith)
    within zero (u ∷ us) e = omega arith
    within (suc n) (u ∷ us) e = let l = within n us e in omega arith

-- what passes of a list that lacks a number lacks it
times_filter : (f : ℕ → Bool) (v : ℕ) (xs : List ℕ) → times v xs ≡ 0
    → times v (filter f xs) ≡ 0
times_filter f v [] h = refl
times_filter f v (x ∷ xs) h = elim (cases_eq x v) [
  | inl same ↦ absurd (let more = times_here v x xs same in omega arith)
  | inr apart ↦
      let rest = times_filter f v xs (sym (times_other v x xs apart) ∙ h) in
      elim (f x) as (λ b. times v (cond b (x ∷ filter f xs) (filter f xs)) ≡ 0) [
        | true ↦ times_other v x (filter f xs) apart ∙ rest
        | false ↦ rest
      ]
]

-- ---- the next vertex that is applied
module _ (p : ProgramEntries) (s : Step) (k : Layout) (us : List ℕ) (start : List Amount)
    (next v : ℕ) (vs : List ℕ) (first : View)
    (before : AreTakenTo p s k us start next (v ∷ vs) first) (once : times v vs ≡ 0) where
  abbrev passed : List ℕ
  passed = filter (is_target p s) vs

  ahead_target : is_target p s v ≡ true → drop next us ≡ v ∷ passed
  ahead_target t = before.ahead ∙ ap (λ b. cond b (v ∷ passed) passed) t

  ahead_other : is_target p s v ≡ false → drop next us ≡ passed
  ahead_other t = before.ahead ∙ ap (λ b. cond b (v ∷ passed) passed) t

  -- where the next target is this vertex, it is a target
  pub next_is_target : next < length us → get_or us next 0 ≡ v → is_target p s v ≡ true
  next_is_target there is = elim (cases_Bool (is_target p s v)) [
    | inl t ↦ t
    | inr f ↦
        let left : drop next us ≡ get_or us next 0 ∷ drop (next + 1) us = rw add-one
        (drop-cons us next 0 there) in
        let same : passed ≡ get_or us next 0 ∷ drop (next + 1) us = sym (ahead_other f) ∙ left in
        let none = times_filter (is_target p s) v vs once in
        let here = times_here v (get_or us next 0) (drop (next + 1) us) is in
        let e = ap (times v) same in
        absurd (omega arith)
  ]

  -- and a target is the next one
  pub target_is_next : is_target p s v ≡ true → (next < length us) × (get_or us next 0 ≡ v)
  target_is_next t = let d = some_dropped next v us passed (ahead_target t) in (d.0, d.1)

  pub ahead_next : next < length us → get_or us next 0 ≡ v → drop next us ≡ v ∷ drop (next + 1) us
  ahead_next there is = rw add-one (drop-cons us next 0 there)
      ∙ ap (λ u. u ∷ drop (next + 1) us) is

  -- the words of a target are taken
  pub one_taken : next < length us → get_or us next 0 ≡ v → (after : View)
      → AreLeft p k (adds_of p s (items p s)) (drop (next + 1) us) after
      → after.amounts ≡ first.amounts ++ takes_at p (adds_of p s (items p s)) v
      → after.marks ≡ first.marks
      → AreTakenTo p s k us start (next + 1) vs after
  one_taken there is after left grown marks =
      let adds : List Amount = adds_of p s (items p s) in
      record {
        inside = omega arith;
        left = left;
        grown = grown
            ∙ ap (λ l. l ++ takes_at p adds v) before.grown
            ∙ append_assoc start (takes_of p adds (take next us)) (takes_at p adds v)
            ∙ ap (λ u. start ++ (takes_of p adds (take next us) ++ takes_at p adds u)) (sym is)
            ∙ ap (λ l. start ++ l) (sym (takes_grow p adds us next 0 there));
        ahead = (some_dropped next v us passed (ahead_target (next_is_target there is))).2;
        marks = subst (All (λ bit. 0 < times bit us)) (sym marks) before.marks;
      }

  -- others take nothing
  pub none_taken : is_target p s v ≡ false → AreTakenTo p s k us start next vs first
  none_taken f = record {
    inside = before.inside;
    left = before.left;
    grown = before.grown;
    ahead = ahead_other f;
    marks = before.marks;
  }

  pub other_stays : (next < length us → get_or us next 0 ≡ v → ⊥) → is_target p s v ≡ false
  other_stays n = elim (cases_Bool (is_target p s v)) [
    | inl t ↦ let d = target_is_next t in absurd (n d.0 d.1)
    | inr f ↦ f
  ]

-- ---- the end
pub taking_ends : TakingEnds
taking_ends p s k before us next first v spread added taken =
    let adds : List Amount = adds_of p s (items p s) in
    let long = none_dropped next us taken.ahead in
    record {
      none = subst (λ l. AreLeft p k adds l v) taken.ahead taken.left;
      marks = taken.marks;
      amounts = taken.grown
          ∙ ap (λ l. first.amounts ++ takes_of p adds l) (take_all next us long ∙ spread.targets)
          ∙ ap (λ l. l ++ takes p s) added
          ∙ append_assoc before adds (takes p s);
    }
