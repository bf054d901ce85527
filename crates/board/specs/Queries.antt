-- What queries mean.
use Rattle.std.specs.Prelude.{ℕ, ℤ, ◌<◌, int_le, List, Option, Some, None, length, slice_get}
use Rattle.std.specs.List.{count_by}
use Rattle.run_model.specs.Program.{number}
use Rattle.run_model.specs.Rows.{Lists, lane_total}
use Rattle.board.specs.declared.query.Query.{Query}
use Rattle.board.specs.declared.query.Query.TheVariants.{Value, Total, AtLeast, Prefix}
use Rattle.board.specs.declared.query.Body.{Body}
use Rattle.board.specs.declared.query.Body.TheVariants.{Value as Found, Total as Sum, Count}
use Rattle.board.specs.declared.query.Body.TheVariants.{Prefix as Nothing, NoVertex}

-- how many vertices have at least x in a lane
abbrev pub at_least : ℕ → ℤ → Lists → ℕ
at_least l x values = count_by (λ xs. int_le x (number xs l)) values

-- a value that is there, or that it isn't
abbrev pub found_or : Option (List ℤ) → ℕ → Body
found_or (Some xs) n = Found xs
found_or None n = NoVertex n

-- what a query means on an answer
abbrev pub means : Query → Lists → Body
means (Value v) values = found_or (slice_get values v) (length values)
means (Total l) values = Sum (lane_total l values)
means (AtLeast l x) values = Count (at_least l x values)
means Prefix values = Nothing

-- a lane in the query is one of n
abbrev pub HasLane : Query → ℕ → Type 0
HasLane (Total l) n = l < n
HasLane (AtLeast l x) n = l < n
HasLane _ n = Unit {0}
