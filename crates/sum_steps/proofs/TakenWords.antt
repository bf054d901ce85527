-- What is left once the words of a vertex were taken.
use Rattle.std.proofs.Common.{◌≡◌, ◌≢◌, ℕ, ℤ, ◌+◌, ◌*◌, ◌/◌, ◌%◌, ◌<◌, ◌≤◌, ◌+ℤ◌, List}
use Rattle.std.proofs.Common.{[], ◌∷◌, ◌++◌, get_or, take, refl, sym, ap, ◌∙◌, arith, inl, inr}
use Rattle.std.proofs.Common.{append-nil}
use Rattle.std.specs.Int.{cast_signed, int_wrap, w64}
use Rattle.std.specs.List.{flat_map}
use Rattle.std.proofs.lemmas.Bool.{cases_eq}
use Rattle.std.proofs.lemmas.List.{take_more}
use Rattle.std.proofs.lemmas.List.Concat.{flat_map-append}
use Rattle.std.proofs.lemmas.Nat.{div-add-mod', mod_below, same_from_place}
use Rattle.bolt_base.specs.Residue.{Amount, sum_at}
use Rattle.agg_words.specs.Known.{IsClear}
use Rattle.agg_words.specs.View.{View, times, minus}
use Rattle.agg_words.specs.declared.layout.Layout.{Layout}
use Rattle.agg_words.proofs.Adding.{one_amount}
use Rattle.agg_words.proofs.Clearing.{sum_at-other}
use Rattle.vertex_expr.specs.declared.program.ProgramEntries.{ProgramEntries}
use Rattle.run_model.specs.Additions.{word}
use Rattle.run_model.specs.Program.{lanes, number}
use Rattle.run_model.specs.Refined.{with_words}
use Rattle.edge_map.proofs.Residues.{same_range}
use Rattle.edge_map.proofs.Rising.{times_here, times_other, times_grow}
use Rattle.sum_steps.specs.Taken.{take_of, takes_at, takes_of, AreLeft, IsTaken}
use Rattle.sum_steps.specs.Laws.{TakesGrow}

-- what holds of the words once those of a vertex were taken, up to a lane
pub record AreZero (p : ProgramEntries) (v k : ℕ) (before after : List Amount) : Type 0 where
  pub zero : (l : ℕ) → l < k → sum_at (word p v l) after ≡ 0
  pub others : (w : ℕ) → ((l : ℕ) → l < k → w ≢ word p v l) → sum_at w after ≡ sum_at w before

pub zero_none : (p : ProgramEntries) (v : ℕ) (amounts : List Amount) → AreZero p v 0 amounts amounts
zero_none p v amounts = record { zero = λ l h. absurd (omega arith); others = λ w h. refl }

-- one lane more
pub zero_more : (p : ProgramEntries) (v k w n : ℕ) (before now after : List Amount)
    → AreZero p v k before now → w ≡ word p v k → after ≡ now ++ one_amount w n → sum_at w after ≡ 0
    → AreZero p v (k + 1) before after
zero_more p v k w n before now after are at is here = record {
  zero = λ l h. elim (cases_eq l k) [
    | inl same ↦ ap (λ i. sum_at i after) (ap (word p v) same ∙ sym at) ∙ here
    | inr apart ↦
        ap (sum_at (word p v l)) is
        ∙ sum_at-other w (word p v l) n now (λ e. apart (omega arith)) ∙ are.zero l (omega arith)
  ];
  others = λ u h.
      ap (sum_at u) is
      ∙ sum_at-other w u n now (λ e. h k (omega arith) (e ∙ at))
      ∙ are.others u (λ l small. h l (omega arith));
}

-- words of other vertices are other words
word_apart : (p : ProgramEntries) (u v l j : ℕ) → u ≢ v → l < lanes p → j < lanes p
    → word p u l ≢ word p v j
word_apart p u v l j apart small low e = apart (same_from_place u l v j (lanes p) small low e).0

module _ (p : ProgramEntries) (k : Layout) (amounts : List Amount) (old : List ℤ) (v : ℕ)
    (rest : List ℕ) (agg : List ℤ) (before after : View) where
  -- the first one of those that are left was taken
  pub taken_one : AreLeft p k amounts (v ∷ rest) before
      → AreZero p v (lanes p) before.amounts after.amounts → after.units ≡ before.units
      → agg ≡ with_words p before.amounts old v
      → after.amounts ≡ before.amounts ++ takes_at p before.amounts v
      → IsTaken p k amounts old v rest agg before after
  taken_one left are units is grown =
      let first = times_here v v rest refl in
      let here : (l : ℕ) → l < lanes p → sum_at (word p v l) before.amounts
      ≡ sum_at (word p v l) amounts =
      λ l small. left.held v l (omega arith) small in
      let only = left.once v in
      record {
        sum =
            is ∙ same_range
            (λ l. int_wrap w64 (number old l +ℤ cast_signed w64
            (sum_at (word p v l) before.amounts)))
            (λ l. int_wrap w64 (number old l +ℤ cast_signed w64 (sum_at (word p v l) amounts)))
            0 (lanes p) (λ l _ small. let e = here l (omega arith) in λ j. int_wrap w64
            (number old l +ℤ cast_signed w64 (e j)));
        grown =
            grown ∙ ap (λ l. before.amounts ++ l)
            (same_range (take_of p before.amounts v) (take_of p amounts v) 0 (lanes p)
            (λ l _ small. let e = here l (omega arith) in λ j. record
            { word = word p v l; amount = minus (e j) }));
        left = record {
          units = units ∙ left.units;
          once = λ u. let more = times_grow u v rest in let most = left.once u in omega arith;
          held = λ u l there small.
              let apart : u ≢ v = λ e. absurd (let same = ap (λ i. times i rest) e in omega arith)
              in
              are.others (word p u l) (λ j low. word_apart p u v l j apart small low)
              ∙ left.held u l (let more = times_grow u v rest in omega arith) small;
          zero = λ u l none small inside. elim (cases_eq u v) [
            | inl same ↦ ap (λ i. sum_at (word p i l) after.amounts) same ∙ are.zero l small
            | inr apart ↦
                are.others (word p u l) (λ j low. word_apart p u v l j apart small low)
                ∙ left.zero u l (times_other u v rest (λ e. apart (sym e)) ∙ none) small inside
          ];
        };
      }

-- nothing is left: all words are 0, and without marks the table is ready again
pub clear_from_none : (p : ProgramEntries) (k : Layout) (amounts : List Amount) (old new : View)
    → 1 ≤ lanes p → AreLeft p k amounts [] old → new.units ≡ old.units → new.amounts ≡ old.amounts
    → new.marks ≡ [] → new.met ≡ [] → IsClear k new
clear_from_none p k amounts old new some left units same marks met = record {
  units = units ∙ left.units;
  words = λ w inside.
      let low = mod_below w (lanes p) some in
      let is : w / lanes p * lanes p + w % lanes p ≡ w = div-add-mod' w (lanes p) in
      ap (sum_at w) same ∙ ap (λ i. sum_at i old.amounts) (sym is)
      ∙ left.zero (w / lanes p) (w % lanes p) refl low (omega arith);
  marks = marks;
  met = met;
}

pub takes_grow : TakesGrow
takes_grow p amounts us i d h =
    ap (flat_map (takes_at p amounts)) (take_more us i d h)
    ∙ flat_map-append (takes_at p amounts) (take i us) (get_or us i d ∷ [])
    ∙ ap (λ l. takes_of p amounts (take i us) ++ l)
    (append-nil (takes_at p amounts (get_or us i d)))
