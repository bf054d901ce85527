-- What contracts see of a desk and a publisher.
use Rattle.std.specs.Prelude.{ℕ, List, [], Option}
use Rattle.logbook.specs.Pages.{Book}
use Rattle.run_model.specs.Logs.{Round}
use Rattle.board.specs.declared.kinds.Origin.{Origin}

-- which board, what it began with, what was seen, and what was learned
pub record Post : Type 0 where
  pub book : Book
  pub origin : Origin
  pub seen : List Round
  pub told : List Round

-- which board, what it began with, how many vertices there may be, the whole log, and the round
-- that is held
pub record Office : Type 0 where
  pub book : Book
  pub origin : Origin
  pub room : ℕ
  pub log : List Round
  pub held : Option Round

-- a desk that has seen the beginning alone
abbrev pub new_post : Book → Origin → Post
new_post b o = record { book = b; origin = o; seen = []; told = [] }
