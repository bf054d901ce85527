-- Puts laid over rows.
use Rattle.std.proofs.Common.{◌≡◌, ◌≢◌, ℕ, zero, suc, ◌<◌, cond, eqb, List, [], ◌∷◌, ◌++◌, length}
use Rattle.std.proofs.Common.{Option, Some, None, inl, inr, refl, sym, ap, ◌∙◌, arith}
use Rattle.std.specs.Map.{lookup}
use Rattle.std.specs.Option.{unwrap_or}
use Rattle.std.proofs.lemmas.List.{get_or-set_same, get_or-set_other}
use Rattle.std.proofs.lemmas.Bool.{cases_eq, cases_Bool, eq-eqb, ne_eqb}
use Rattle.std.proofs.lemmas.Option.{none-some, same_Some}
use Rattle.bolt_base.specs.Keep.{Entry, Row}
use Rattle.bolt_base.specs.RowTable.{entry_at}
use Rattle.bolt_base.proofs.RowColumns.{same_rows, made_at, made_full, made_length}
use Rattle.agg_history.specs.Puts.{Round, round_at, put_at, with_put, laid_at, laid_over}
use Rattle.agg_history.specs.Laws.{LeadsTo, LaidOverIsNew, LaidOverReads, PutIsFound, NoneIsPut}
use Rattle.agg_history.specs.Laws.{RightPutsStayRight}

pub laid_reads : LaidOverReads
laid_reads n puts rows i v h l = made_at (laid_at puts rows) n (length rows) i v h l

-- what was put, or what was there, is the new entry
leads_at : (n : ℕ) (puts : List Round) (old new : List Row) → LeadsTo n puts old new → (i v : ℕ)
    → i < length new → v < n → laid_at puts old i v ≡ entry_at new i v
leads_at n puts old new leads i v h l = by_put (put_at puts i v) refl
  where
    by_put : (o : Option Entry) → put_at puts i v ≡ o → laid_at puts old i v ≡ entry_at new i v
    by_put None e = ap (λ o. unwrap_or o (entry_at old i v)) e ∙ leads.rest i v h l e
    by_put (Some x) e = ap (λ o. unwrap_or o (entry_at old i v)) e ∙ leads.right i v x h l e

pub laid_new : LaidOverIsNew
laid_new n puts old new long full leads =
    let f : ℕ → ℕ → Entry = laid_at puts old in
    same_rows n (laid_over n puts old) new (made_length f n (length old) ∙ long)
    (made_full f n (length old)) full
    (λ i v h l. let below : i < length old = omega (arith, made_length f n (length old)) in
    made_at f n (length old) i v below l ∙ leads_at n puts old new leads i v (omega arith) l)

-- ---- one more
lookup_new : (round : Round) (v : ℕ) (e : Entry) → lookup (λ u. eqb v u) round ≡ None
    → lookup (λ u. eqb v u) (round ++ (v, e) ∷ []) ≡ Some e
lookup_new [] v e h = ap (λ b. cond b (Some e) None) (eq-eqb v v refl)
lookup_new (p ∷ round) v e h = elim (cases_Bool (eqb v p.0)) [
  | inl match_here ↦ absurd
      (none-some p.1 (sym h ∙ ap (λ b. cond b (Some p.1) (lookup (λ u. eqb v u) round)) match_here))
  | inr other ↦
      ap (λ b. cond b (Some p.1) (lookup (λ u. eqb v u) (round ++ (v, e) ∷ []))) other
      ∙ lookup_new round v e
      (sym (ap (λ b. cond b (Some p.1) (lookup (λ u. eqb v u) round)) other) ∙ h)
]

lookup_other : (round : Round) (v u : ℕ) (e : Entry) → u ≢ v
    → lookup (λ w. eqb u w) (round ++ (v, e) ∷ []) ≡ lookup (λ w. eqb u w) round
lookup_other [] v u e n = ap (λ b. cond b (Some e) None) (ne_eqb u v n)
lookup_other (p ∷ round) v u e n = ap (cond (eqb u p.0) (Some p.1)) (lookup_other round v u e n)

pub put_found : PutIsFound
put_found puts i v e h none = record {
  here = ap (lookup (λ u. eqb v u)) (get_or-set_same puts i (round_at puts i ++ (v, e) ∷ []) [] h)
      ∙ lookup_new (round_at puts i) v e none;
  elsewhere = λ j u other. elim (cases_eq j i) [
    | inl same ↦ ap (λ k. put_at (with_put puts i v e) k u) same
        ∙ ap (lookup (λ w. eqb u w)) (get_or-set_same puts i (round_at puts i ++ (v, e) ∷ []) [] h)
        ∙ lookup_other (round_at puts i) v u e (other same) ∙ ap (λ k. put_at puts k u) (sym same)
    | inr n ↦ ap (lookup (λ w. eqb u w))
        (get_or-set_other puts i j (round_at puts i ++ (v, e) ∷ []) [] n)
  ];
}

pub none_put : NoneIsPut
none_put zero i v = refl
none_put (suc m) zero v = refl
none_put (suc m) (suc i) v = none_put m i v

pub right_more : RightPutsStayRight
right_more n puts more new i v is right j u e h l found = elim (cases_eq j i) [
  | inl same ↦ elim (cases_eq u v) [
    | inl one ↦ same_Some e (entry_at new j u)
        (sym found ∙ ap (λ k. put_at more k u) same ∙ ap (put_at more i) one ∙ is.here
        ∙ (λ k. Some (entry_at new (same_back same k) (same_back one k))))
    | inr other ↦ right j u e h l (sym (is.elsewhere j u (λ _ one. other one)) ∙ found)
  ]
  | inr n ↦ right j u e h l (sym (is.elsewhere j u (λ same _. absurd (n same))) ∙ found)
]
  where
    same_back : {a b : ℕ} → a ≡ b → b ≡ a
    same_back e = sym e
