-- How a seat's view grows.
use Rattle.std.proofs.Common.{append-nil, w64, ℤ, ◌≡◌, ℕ, ◌+◌, ◌*◌, ◌≤◌, List, [], ◌∷◌, ◌++◌}
use Rattle.std.proofs.Common.{length, map, refl}
use Rattle.std.proofs.Common.{sym, ap, ◌∙◌, arith, append_assoc}
use Rattle.bolt_base.specs.Residue.{Amount}
use Rattle.std.specs.Int.{cast_unsigned}
use Rattle.std.specs.List.{range_with_len}
use Rattle.agg_words.specs.Facts.{SeatFacts}
use Rattle.agg_words.specs.View.{View, times, bare, joined, with_amount, with_fewer, with_mark}
use Rattle.agg_words.specs.View.{with_met}
use Rattle.run_model.specs.Program.{number}
use Rattle.run_model.proofs.Gathering.{table_more}
use Rattle.edge_map.specs.Grew.{lane_add}
use Rattle.agg_words.proofs.Views.{times-append}
use Rattle.edge_map.specs.Grew.{Grew}

-- nothing has grown yet
pub grew_none : (v : View) → Grew v v [] [] []
grew_none v = record {
  units = refl;
  amounts = sym (append-nil v.amounts);
  marks = sym (append-nil v.marks);
  also = [];
  met = sym (append-nil v.met);
  bits = λ b. refl;
}

-- one vertex more, which is marked
pub grew_mark : (start v w : View) (more adds : List Amount) (ends ts us : List ℕ) (b : ℕ)
    → Grew start v more ends ts
    → w ≡ with_mark (record v { amounts = v.amounts ++ adds }) b → us ≡ ts ++ b ∷ []
    → Grew start w (more ++ adds) (ends ++ b ∷ []) us
grew_mark start v w more adds ends ts us b g e f = record {
  units = ap (λ (y : View). y.units) e ∙ g.units;
  amounts = ap (λ (y : View). y.amounts) e ∙ ap (λ l. l ++ adds) g.amounts
      ∙ append_assoc start.amounts more adds;
  marks = ap (λ (y : View). y.marks) e ∙ ap (λ l. l ++ b ∷ []) g.marks
      ∙ append_assoc start.marks ts (b ∷ []) ∙ ap (λ l. start.marks ++ l) (sym f);
  also = g.also;
  met = ap (λ (y : View). y.met) e ∙ g.met;
  bits = λ c. let p = g.bits c in let q = times-append c ends (b ∷ []) in let r = ap (times c) f in
      let t = times-append c ts (b ∷ []) in omega arith;
}

-- and one that was marked already
pub grew_met : (start v w : View) (more adds : List Amount) (ends ts us : List ℕ) (b : ℕ)
    → Grew start v more ends ts
    → w ≡ with_met (record v { amounts = v.amounts ++ adds }) b → us ≡ ts
    → Grew start w (more ++ adds) (ends ++ b ∷ []) us
grew_met start v w more adds ends ts us b g e f = record {
  units = ap (λ (y : View). y.units) e ∙ g.units;
  amounts = ap (λ (y : View). y.amounts) e ∙ ap (λ l. l ++ adds) g.amounts
      ∙ append_assoc start.amounts more adds;
  marks = ap (λ (y : View). y.marks) e ∙ g.marks ∙ ap (λ l. start.marks ++ l) (sym f);
  also = g.also ++ b ∷ [];
  met = ap (λ (y : View). y.met) e ∙ ap (λ l. l ++ b ∷ []) g.met
      ∙ append_assoc start.met g.also (b ∷ []);
  bits = λ c. let p = g.bits c in let q = times-append c ends (b ∷ []) in let r = ap (times c) f in
      let t = times-append c g.also (b ∷ []) in omega arith;
}

-- what two seats did, one has done
pub grew_joined : (old start mid new late both : View) (n : ℕ) (xs ys : List Amount)
    (ds es ts us vs : List ℕ) → n ≤ old.units → start ≡ with_fewer old n → new ≡ bare n
    → Grew start mid xs ds ts → Grew new late ys es us → both ≡ joined mid late → vs ≡ ts ++ us
    → Grew old both (xs ++ ys) (ds ++ es) vs
grew_joined old start mid new late both n xs ys ds es ts us vs fits s b g h j f =
    let su = ap (λ (v : View). v.units) s in let bu = ap (λ (v : View). v.units) b in let ju = ap
    (λ (v : View). v.units) j in let gu = g.units in let hu = h.units in record {
      units = omega arith;
      amounts =
          ap (λ (v : View). v.amounts) j
          ∙ ap (λ l. l ++ late.amounts) (g.amounts ∙ ap (λ (v : View). v.amounts ++ xs) s)
          ∙ ap (λ l. (old.amounts ++ xs) ++ l) (h.amounts ∙ ap (λ (v : View). v.amounts ++ ys) b)
          ∙ append_assoc old.amounts xs ys;
      marks =
          ap (λ (v : View). v.marks) j
          ∙ ap (λ l. l ++ late.marks) (g.marks ∙ ap (λ (v : View). v.marks ++ ts) s)
          ∙ ap (λ l. (old.marks ++ ts) ++ l) (h.marks ∙ ap (λ (v : View). v.marks ++ us) b)
          ∙ append_assoc old.marks ts us
          ∙ ap (λ l. old.marks ++ l) (sym f);
      also = g.also ++ h.also;
      met =
          ap (λ (v : View). v.met) j
          ∙ ap (λ l. l ++ late.met) (g.met ∙ ap (λ (v : View). v.met ++ g.also) s)
          ∙ ap (λ l. (old.met ++ g.also) ++ l) (h.met ∙ ap (λ (v : View). v.met ++ h.also) b)
          ∙ append_assoc old.met g.also h.also;
      bits = λ c.
          let p = g.bits c in let q = h.bits c in let r = times-append c ds es in let t = ap
          (times c) f in let u = times-append c ts us in let v = times-append c g.also h.also
          in omega arith;
    }

-- one amount more, as f gives it
pub amounts_more : (f : ℕ → Amount) (s t u : SeatFacts) (k : ℕ) (one : Amount)
    → t ≡ record s {
      view = record s.view
          { amounts = s.view.amounts ++ map f (range_with_len 0 k) };
    }
    → u ≡ record t { view = with_amount t.view one.word one.amount } → one ≡ f k
    → u ≡ record s {
      view = record s.view
          { amounts = s.view.amounts ++ map f (range_with_len 0 (k + 1)) };
    }
amounts_more f s t u k one e g is =
    let so_far : List Amount = map f (range_with_len 0 k) in
    g ∙ ap (λ (x : SeatFacts). record x { view = with_amount x.view one.word one.amount }) e
    ∙ ap (λ (l : List Amount). record s { view = record s.view { amounts = l } })
    (append_assoc s.view.amounts so_far (one ∷ [])
    ∙ ap (λ l. s.view.amounts ++ l)
    (table_more f k so_far (so_far ++ one ∷ []) one refl refl is))

-- one lane more
pub lanes_more : (s t u : SeatFacts) (dst : ℕ) (ys : List ℤ) (k : ℕ) (word amount : ℕ) → t
    ≡ record s {
      view = record s.view
          { amounts = s.view.amounts ++ map (lane_add dst ys) (range_with_len 0 k) };
    }
    → u ≡ record t { view = with_amount t.view word amount } → word ≡ dst * length ys + k → amount
    ≡ cast_unsigned w64 (number ys k)
    → u ≡ record s {
      view = record s.view
          { amounts = s.view.amounts ++ map (lane_add dst ys) (range_with_len 0 (k + 1)) };
    }
lanes_more s t u dst ys k word amount e f g h =
    amounts_more (lane_add dst ys) s t u k (record { word = word; amount = amount }) e f
    (λ j. record { word = g j; amount = h j })
