-- The ranges of a command's numbers.
use Rattle.std.specs.Prelude.{ℕ, ◌+◌, ◌*◌, ◌≤◌, IfSome}
use Rattle.cli_words.specs.declared.command.Command.{Command}
use Rattle.cli_words.specs.declared.command.Command.TheVariants as command
use Rattle.cli_words.specs.declared.command.MakeForm.{MakeForm}
use Rattle.cli_words.specs.declared.command.MakeForm.TheVariants as form
use Rattle.cli_words.specs.declared.command.RunOptions.{RunOptions}
use Rattle.cli_words.specs.declared.options.Given.{Given}
use Rattle.cli_words.specs.declared.options.Setting.{Setting}
use Rattle.cli_words.specs.declared.options.Setting.TheVariants.{Cut, Vertical, Workers, Show}

abbrev pub IsBetween : (least most n : ℕ) → Type 0
IsBetween least most n = (least ≤ n) × (n ≤ most)

-- a cut and a number of workers are from 1 to 64
abbrev pub IsInRange : Setting → Type 0
IsInRange (Cut n) = IsBetween 1 64 n
IsInRange (Vertical b) = Unit {0}
IsInRange (Workers n) = IsBetween 1 64 n
IsInRange (Show b) = Unit {0}

pub record AreGivenInRange (g : Given) : Type 0 where
  pub cut : IfSome g.cut (IsBetween 1 64)
  pub workers : IfSome g.workers (IsBetween 1 64)

pub record AreInRange (options : RunOptions) : Type 0 where
  pub cut : IfSome options.cut (IsBetween 1 64)
  pub workers : IsBetween 1 64 options.workers

abbrev pub IsFormInRange : MakeForm → Type 0
IsFormInRange form.Graph = Unit {0}
IsFormInRange form.Stream = Unit {0}
IsFormInRange (form.Run options) = AreInRange options

-- the numbers of a made graph and its stream: n vertices, m pairs, and b batches of e edits
pub record AreMade (n m b e : ℕ) : Type 0 where
  pub vertices : IsBetween 1 1000000 n
  pub pairs : IsBetween 1 4000000 m
  pub batches : b ≤ 100000
  pub edits : IsBetween 1 1000000 e
  pub changes : m + b * e ≤ 8000000

abbrev pub IsCommandInRange : Command → Type 0
IsCommandInRange (command.Run program graph stream options) = AreInRange options
IsCommandInRange (command.Once program graph options) = AreInRange options
IsCommandInRange (command.Check program) = Unit {0}
IsCommandInRange (command.Make seed vertices pairs batches edits form) =
    AreMade vertices pairs batches edits × IsFormInRange form
