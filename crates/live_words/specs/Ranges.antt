-- The ranges of the numbers of `live`.
use Rattle.std.specs.Prelude.{◌≡◌, ℕ, ◌≤◌, List, length, IfSome}
use Rattle.std.specs.List.{All}
use Rattle.cli_words.specs.Ranges.{IsBetween, AreInRange}
use Rattle.live_words.specs.declared.command.LiveCommand.{LiveCommand}
use Rattle.live_words.specs.declared.options.LiveGiven.{LiveGiven}
use Rattle.live_words.specs.declared.options.LiveSetting.{LiveSetting}
use Rattle.live_words.specs.declared.options.LiveSetting.TheVariants as live

-- a cut and a number of workers are from 1 to 64
abbrev pub IsInRange : LiveSetting → Type 0
IsInRange live.Stream = Unit {0}
IsInRange live.Ask = Unit {0}
IsInRange (live.Cut n) = IsBetween 1 64 n
IsInRange (live.Vertical b) = Unit {0}
IsInRange (live.Workers n) = IsBetween 1 64 n

-- at most 16 places of words, which are counted from 1
pub record ArePlaces (places : List ℕ) : Type 0 where
  pub few : length places ≤ 16
  pub from_one : All (λ at. 1 ≤ at) places

pub record AreGivenInRange (g : LiveGiven) : Type 0 where
  pub streams : ArePlaces g.streams
  pub asks : ArePlaces g.asks
  pub cut : IfSome g.cut (IsBetween 1 64)
  pub workers : IfSome g.workers (IsBetween 1 64)

-- the program and the graph stand behind the command's word, and then 1 to 16 streams and 0 to 16
-- question files
pub record IsLiveInRange (command : LiveCommand) : Type 0 where
  pub program : command.program.at ≡ 2
  pub graph : command.graph ≡ 3
  pub some : 1 ≤ length command.streams
  pub streams : ArePlaces command.streams
  pub asks : ArePlaces command.asks
  pub options : AreInRange command.options
