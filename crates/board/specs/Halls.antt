-- A copy of an answer with a limited number of places.
use Rattle.std.specs.Prelude.{◌≡◌, ℕ, ℤ, zero, suc, pos, ◌*◌, ◌≤◌, ◌&&◌, ◌==◌, nat_le}
use Rattle.std.specs.Prelude.{if◌then◌else◌, List, [], ◌∷◌, fold, length, take, drop, replicate}
use Rattle.bolt_base.specs.declared.answer.AnswerChange.{AnswerChange}
use Rattle.run_model.specs.Logs.{with_value}
use Rattle.run_model.specs.Rows.{Lists}

-- the values of the vertices, how many vertices there may be, and how many lanes a place has
pub record Hall : Type 0 where
  pub values : Lists
  pub room : ℕ
  pub width : ℕ

-- the values of the first n places of flat numbers
abbrev pub values_in : ℕ → ℕ → List ℤ → Lists
values_in width zero words = []
values_in width (suc n) words = take width words ∷ values_in width n (drop width words)

-- one to eight lanes, as many numbers as there is room for, and no more places in use
pub record ArePlaces (width room used : ℕ) (words : List ℤ) : Type 0 where
  pub some : 1 ≤ width
  pub narrow : width ≤ 8
  pub fits : used ≤ room
  pub long : length words ≡ room * width

-- what a place holds of a value: one of another width counts as zeros
abbrev pub fitted : ℕ → List ℤ → List ℤ
fitted width xs = if length xs == width then xs else replicate width (pos 0)

-- a change that finds no place does nothing
abbrev pub with_change_in : ℕ → ℕ → Lists → AnswerChange → Lists
with_change_in width room values c =
    if (c.vertex == length values) && nat_le room (length values) then values
    else with_value values c.vertex (fitted width c.value)

abbrev pub with_changes_in : ℕ → ℕ → Lists → List AnswerChange → Lists
with_changes_in width room values changes = fold (with_change_in width room) values changes
