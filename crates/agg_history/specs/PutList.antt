-- What is put at one iteration.
use Rattle.std.specs.Prelude.{ℕ, slice_index_or, refl}
use Rattle.std.specs.Coded.{Coded, code_by, coded×, coded_ℕ}
use Rattle.bolt_base.specs.Keep.{Entry, no_entry}
use Rattle.agg_history.specs.Puts.{Round, coded_round}

-- puts of entries of so many lanes
pub record ListedPuts : Type 0 where
  pub lanes : ℕ
  pub puts : Round

-- how the logic stores them
abbrev pub coded_listed : Coded ListedPuts
coded_listed = code_by (ℕ × Round) (coded× coded_ℕ coded_round) (λ l. (l.lanes, l.puts))
    (λ p. record { lanes = p.0; puts = p.1 }) (λ _. refl)

-- the put at a place
abbrev pub put_in : Round → ℕ → ℕ × Entry
put_in puts place = slice_index_or puts place (0, no_entry)
