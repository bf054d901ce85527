-- Each option that is taken is one more, and there are four.
use Rattle.std.proofs.Common.{◌≡◌, ℕ, ◌+◌, ◌-◌, ◌≤◌, T, Bool, true, false, List, [], length, drop}
use Rattle.std.proofs.Common.{ap, ◌∙◌, sym, subst, arith, Some, None}
use Rattle.std.specs.Prelude.{Option, is_none, if◌then◌else◌}
use Rattle.std.specs.Option.{unwrap_or}
use Rattle.std.proofs.lemmas.List.{drop_more}
use Rattle.cli_words.specs.Words.{word_at, here, ◌>>=◌}
use Rattle.cli_words.specs.Options.{options_from, unless_given, with_setting, is_offered}
use Rattle.cli_words.specs.Options.{if_offered, option_taken, setting_of}
use Rattle.cli_words.specs.declared.options.Given.{Given}
use Rattle.cli_words.specs.declared.options.Offer.{Offer}
use Rattle.cli_words.specs.declared.options.Setting.{Setting}
use Rattle.cli_words.specs.declared.options.Setting.TheVariants.{Cut, Vertical, Workers, Show}

abbrev pub has : {A : Type 0} → Option A → ℕ
has None = 0
has (Some x) = 1

has_most : {A : Type 0} (o : Option A) → has o ≤ 1
has_most None = omega arith
has_most (Some x) = omega arith

abbrev pub given_count : Given → ℕ
given_count g = has g.cut + has g.vertical + has g.workers + has g.show

pub given_most : (g : Given) → given_count g ≤ 4
given_most g =
    let a = has_most g.cut in
    let b = has_most g.vertical in
    let c = has_most g.workers in
    let d = has_most g.show in
    omega arith

-- what was not given is one more
given_once : {A : Type 0} (o : Option A) (k h : Given) (rest : ℕ) → given_count k ≡ rest + 1
    → unless_given o k ≡ Some h → given_count h ≡ has o + rest + 1
given_once None k h rest c e =
    let same : given_count h ≡ given_count k = ap
    (λ (x : Option Given). given_count (unwrap_or x k)) (sym e) in
    omega arith
given_once (Some x) k h rest c e = absurd (subst (λ (o : Option Given). T (is_none o)) e tt)

setting_more : (g : Given) (s : Setting) (h : Given) → with_setting g s ≡ Some h
    → given_count h ≡ given_count g + 1
setting_more g (Cut n) h e =
    let up = given_once g.cut (record g { cut = Some n }) h
    (has g.vertical + has g.workers + has g.show) (omega arith) e in
    omega arith
setting_more g (Vertical b) h e =
    let up = given_once g.vertical (record g { vertical = Some b }) h
    (has g.cut + has g.workers + has g.show) (omega arith) e in
    omega arith
setting_more g (Workers n) h e =
    let up = given_once g.workers (record g { workers = Some n }) h
    (has g.cut + has g.vertical + has g.show) (omega arith) e in
    omega arith
setting_more g (Show b) h e =
    let up = given_once g.show (record g { show = Some b }) h
    (has g.cut + has g.vertical + has g.workers) (omega arith) e in
    omega arith

offer_more : (b : Bool) (g : Given) (s : Setting) (h : Given)
    → (if b then with_setting g s else None) ≡ Some h → given_count h ≡ given_count g + 1
offer_more true g s h e = setting_more g s h e
offer_more false g s h e = absurd (subst (λ (o : Option Given). T (is_none o)) e tt)

word_more : (offer : Offer) (g : Given) (o : Option Setting) (h : Given)
    → if_offered offer g o ≡ Some h → given_count h ≡ given_count g + 1
word_more offer g None h e = absurd (subst (λ (o : Option Given). T (is_none o)) e tt)
word_more offer g (Some s) h e = offer_more (is_offered offer s) g s h e

pub taken_more : (offer : Offer) (g : Given) (word : List ℕ) (h : Given)
    → option_taken offer g word ≡ Some h → given_count h ≡ given_count g + 1
taken_more offer g word h e = word_more offer g (setting_of word) h e

-- the words from a place on begin with the one there
pub options_more : (offer : Offer) (g h : Given) (at : ℕ) (words : List (List ℕ)) → 1 ≤ at
    → at ≤ length words → option_taken offer g (word_at words at) ≡ Some h
    → options_from offer h (at + 1) (drop (at + 1 - 1) words)
    ≡ options_from offer g at (drop (at - 1) words)
options_more offer g h at words some there taken =
    let k : at + 1 - 1 ≡ at - 1 + 1 = omega arith in
    let rest : List (List ℕ) = drop (at - 1 + 1) words in
    let first = drop_more words (at - 1) [] (omega arith) in
    ap (λ n. options_from offer h (at + 1) (drop n words)) k
    ∙ sym (ap (options_from offer g at) first
    ∙ ap (λ (o : Option Given). here at o >>= λ x. options_from offer x (at + 1) rest) taken)
