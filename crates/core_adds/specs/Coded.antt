-- How the logic stores an amount for a word.
use Rattle.std.specs.Prelude.{ℕ, refl}
use Rattle.std.specs.Coded.{Coded, code_by, coded×, coded_ℕ}
use Rattle.bolt_base.specs.Residue.{Amount}

abbrev pub coded_amount : Coded Amount
coded_amount =
    code_by (ℕ × ℕ) (coded× coded_ℕ coded_ℕ) (λ a. (a.word, a.amount))
    (λ p. record { word = p.0; amount = p.1 }) (λ _. refl)
