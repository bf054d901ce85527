-- Each option that is taken is one more, and there are at most 35.
use Rattle.std.proofs.Common.{◌≡◌, ℕ, ◌+◌, ◌-◌, ◌≤◌, T, Bool, true, false, List, [], ◌∷◌, ◌++◌}
use Rattle.std.proofs.Common.{length, drop, ap, ◌∙◌, sym, subst, arith, Some, None, refl}
use Rattle.std.specs.Prelude.{Option, is_none, if◌then◌else◌, nat_lt}
use Rattle.std.specs.Option.{unwrap_or, option_map}
use Rattle.std.proofs.lemmas.List.{drop_more, length-append}
use Rattle.cli_words.specs.Words.{word_at, here, ◌>>=◌}
use Rattle.live_words.specs.Options.{options_from, unless_given, with_place, with_setting}
use Rattle.live_words.specs.Options.{if_setting, option_taken, live_setting_of}
use Rattle.live_words.specs.Ranges.{AreGivenInRange}
use Rattle.live_words.specs.declared.options.LiveGiven.{LiveGiven}
use Rattle.live_words.specs.declared.options.LiveSetting.{LiveSetting}
use Rattle.live_words.specs.declared.options.LiveSetting.TheVariants.{Stream, Ask, Cut, Vertical}
use Rattle.live_words.specs.declared.options.LiveSetting.TheVariants.{Workers}

abbrev pub has : {A : Type 0} → Option A → ℕ
has None = 0
has (Some x) = 1

has_most : {A : Type 0} (o : Option A) → has o ≤ 1
has_most None = omega arith
has_most (Some x) = omega arith

abbrev pub given_count : LiveGiven → ℕ
given_count g = length g.streams + length g.asks + has g.cut + has g.vertical + has g.workers

pub given_most : (g : LiveGiven) → AreGivenInRange g → given_count g ≤ 35
given_most g h =
    let a = has_most g.cut in
    let b = has_most g.vertical in
    let c = has_most g.workers in
    let d = h.streams.few in
    let e = h.asks.few in
    omega arith

-- a place that is taken is one more
place_if : (b : Bool) (places : List ℕ) (at : ℕ) (more : List ℕ)
    → (if b then Some (places ++ at ∷ []) else None) ≡ Some more
    → length more ≡ length places + 1
place_if true places at more e =
    let same : length (places ++ at ∷ []) ≡ length more =
    ap (λ (o : Option (List ℕ)). length (unwrap_or o [])) e in
    let long = length-append places (at ∷ []) in
    omega arith
place_if false places at more e = absurd (subst (λ (o : Option (List ℕ)). T (is_none o)) e tt)

-- what was not given is one more
given_once : {A : Type 0} (o : Option A) (k h : LiveGiven) (rest : ℕ) → given_count k ≡ rest + 1
    → unless_given o k ≡ Some h → given_count h ≡ has o + rest + 1
given_once None k h rest c e =
    let same : given_count h ≡ given_count k = ap
    (λ (x : Option LiveGiven). given_count (unwrap_or x k)) (sym e) in
    omega arith
given_once (Some x) k h rest c e = absurd (subst (λ (o : Option LiveGiven). T (is_none o)) e tt)

streams_more : (g : LiveGiven) (at : ℕ) (o : Option (List ℕ)) (h : LiveGiven)
    → with_place g.streams at ≡ o
    → option_map (λ places. record g { streams = places }) o ≡ Some h
    → given_count h ≡ given_count g + 1
streams_more g at None h is e = absurd (subst (λ (o : Option LiveGiven). T (is_none o)) e tt)
streams_more g at (Some more) h is e =
    let long = place_if (nat_lt (length g.streams) 16) g.streams at more is in
    let same : given_count h ≡ given_count (record g { streams = more }) = ap
    (λ (x : Option LiveGiven). given_count (unwrap_or x g)) (sym e) in
    omega arith

asks_more : (g : LiveGiven) (at : ℕ) (o : Option (List ℕ)) (h : LiveGiven)
    → with_place g.asks at ≡ o
    → option_map (λ places. record g { asks = places }) o ≡ Some h
    → given_count h ≡ given_count g + 1
asks_more g at None h is e = absurd (subst (λ (o : Option LiveGiven). T (is_none o)) e tt)
asks_more g at (Some more) h is e =
    let long = place_if (nat_lt (length g.asks) 16) g.asks at more is in
    let same : given_count h ≡ given_count (record g { asks = more }) = ap
    (λ (x : Option LiveGiven). given_count (unwrap_or x g)) (sym e) in
    omega arith

setting_more : (g : LiveGiven) (s : LiveSetting) (at : ℕ) (h : LiveGiven)
    → with_setting g s at ≡ Some h → given_count h ≡ given_count g + 1
setting_more g Stream at h e = streams_more g at (with_place g.streams at) h refl e
setting_more g Ask at h e = asks_more g at (with_place g.asks at) h refl e
setting_more g (Cut n) at h e =
    let up = given_once g.cut (record g { cut = Some n }) h
    (length g.streams + length g.asks + has g.vertical + has g.workers) (omega arith) e in
    omega arith
setting_more g (Vertical b) at h e =
    let up = given_once g.vertical (record g { vertical = Some b }) h
    (length g.streams + length g.asks + has g.cut + has g.workers) (omega arith) e in
    omega arith
setting_more g (Workers n) at h e =
    let up = given_once g.workers (record g { workers = Some n }) h
    (length g.streams + length g.asks + has g.cut + has g.vertical) (omega arith) e in
    omega arith

word_more : (g : LiveGiven) (o : Option LiveSetting) (at : ℕ) (h : LiveGiven)
    → if_setting g o at ≡ Some h → given_count h ≡ given_count g + 1
word_more g None at h e = absurd (subst (λ (o : Option LiveGiven). T (is_none o)) e tt)
word_more g (Some s) at h e = setting_more g s at h e

pub taken_more : (g : LiveGiven) (word : List ℕ) (at : ℕ) (h : LiveGiven)
    → option_taken g word at ≡ Some h → given_count h ≡ given_count g + 1
taken_more g word at h e = word_more g (live_setting_of word) at h e

-- the words from a place on begin with the one there
pub options_more : (g h : LiveGiven) (at : ℕ) (words : List (List ℕ)) → 1 ≤ at
    → at ≤ length words → option_taken g (word_at words at) at ≡ Some h
    → options_from h (at + 1) (drop (at + 1 - 1) words)
    ≡ options_from g at (drop (at - 1) words)
options_more g h at words some there taken =
    let k : at + 1 - 1 ≡ at - 1 + 1 = omega arith in
    let rest : List (List ℕ) = drop (at - 1 + 1) words in
    let first = drop_more words (at - 1) [] (omega arith) in
    ap (λ n. options_from h (at + 1) (drop n words)) k
    ∙ sym (ap (options_from g at) first
    ∙ ap (λ (o : Option LiveGiven). here at o >>= λ x. options_from x (at + 1) rest) taken)
