-- The options of a command.
use Rattle.std.specs.Prelude.{ℕ, ◌+◌, ◌-◌, Bool, true, false, if◌then◌else◌, List, [], ◌∷◌, drop}
use Rattle.std.specs.Prelude.{codes}
use Rattle.std.specs.Prelude.{Option, Some, None, Result, Ok}
use Rattle.std.specs.Option.{option_map, unwrap_or}
use Rattle.std.specs.Str.{bytes_eq}
use Rattle.cli_words.specs.Words.{behind, number_of, here, ◌>>=◌}
use Rattle.cli_words.specs.declared.command.RunOptions.{RunOptions}
use Rattle.cli_words.specs.declared.command.WordsRefusal.{WordsRefusal}
use Rattle.cli_words.specs.declared.options.Given.{Given}
use Rattle.cli_words.specs.declared.options.Offer.{Offer}
use Rattle.cli_words.specs.declared.options.Offer.TheVariants.{Nothing, Once, Run}
use Rattle.cli_words.specs.declared.options.Setting.{Setting}
use Rattle.cli_words.specs.declared.options.Setting.TheVariants.{Cut, Vertical, Workers, Show}

-- the number behind an option's name, from 1 to 64
abbrev pub count_of : List ℕ → Option ℕ
count_of digits = number_of 1 64 digits

abbrev pub workers_of : Option (List ℕ) → Option Setting
workers_of None = None
workers_of (Some digits) = option_map Workers (count_of digits)

abbrev pub cut_of : Option (List ℕ) → Option Setting → Option Setting
cut_of None rest = rest
cut_of (Some digits) rest = option_map Cut (count_of digits)

-- the options that have a number
abbrev pub counted : List ℕ → Option Setting
counted word = cut_of (behind (codes "--cut=") word) (workers_of (behind (codes "--workers=") word))

-- what an option's word says, if it is one
abbrev pub setting_of : List ℕ → Option Setting
setting_of word =
    if bytes_eq word (codes "--vertical=on") then Some (Vertical true)
    else (if bytes_eq word (codes "--vertical=off") then Some (Vertical false)
    else (if bytes_eq word (codes "--show=all") then Some (Show true)
    else (if bytes_eq word (codes "--show=none") then Some (Show false) else counted word)))

-- which options a command has: all, the workers and what is shown, or none
abbrev pub is_offered : Offer → Setting → Bool
is_offered Nothing s = false
is_offered Once (Cut n) = false
is_offered Once (Vertical b) = false
is_offered Once (Workers n) = true
is_offered Once (Show b) = true
is_offered Run s = true

-- no option is given
abbrev pub no_more : Given
no_more = record { cut = None; vertical = None; workers = None; show = None }

abbrev pub unless_given : {A : Type 0} → Option A → Given → Option Given
unless_given None g = Some g
unless_given (Some x) g = None

-- the options with one more; each is given at most once
abbrev pub with_setting : Given → Setting → Option Given
with_setting g (Cut n) = unless_given g.cut (record g { cut = Some n })
with_setting g (Vertical b) = unless_given g.vertical (record g { vertical = Some b })
with_setting g (Workers n) = unless_given g.workers (record g { workers = Some n })
with_setting g (Show b) = unless_given g.show (record g { show = Some b })

abbrev pub if_offered : Offer → Given → Option Setting → Option Given
if_offered offer g None = None
if_offered offer g (Some s) = if is_offered offer s then with_setting g s else None

abbrev pub option_taken : Offer → Given → List ℕ → Option Given
option_taken offer g word = if_offered offer g (setting_of word)

-- the options in words, the first of which stands at a place
abbrev pub options_from : Offer → Given → ℕ → List (List ℕ) → Result Given WordsRefusal
options_from offer g at [] = Ok g
options_from offer g at (word ∷ words) =
    here at (option_taken offer g word) >>= λ h. options_from offer h (at + 1) words

-- the options in the words from a place on
abbrev pub options_at : Offer → List (List ℕ) → ℕ → Result Given WordsRefusal
options_at offer words at = options_from offer no_more at (drop (at - 1) words)

-- the options of a run, with what is taken where one isn't given
abbrev pub filled : Bool → Given → RunOptions
filled show g = record {
  cut = g.cut;
  vertical = unwrap_or g.vertical true;
  workers = unwrap_or g.workers 1;
  show = unwrap_or g.show show;
}
