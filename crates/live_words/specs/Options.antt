-- The options of `live`: its files, and those of a run but for what is shown.
use Rattle.std.specs.Prelude.{ℕ, ◌+◌, ◌-◌, Bool, false, if◌then◌else◌, nat_lt}
use Rattle.std.specs.Prelude.{List, [], ◌∷◌, ◌++◌, length, drop, codes}
use Rattle.std.specs.Prelude.{Option, Some, None, Result}
use Rattle.std.specs.Option.{option_map}
use Rattle.cli_words.specs.Words.{behind, is_file, here, ◌>>=◌}
use Rattle.cli_words.specs.Options.{setting_of}
use Rattle.cli_words.specs.declared.command.WordsRefusal.{WordsRefusal}
use Rattle.cli_words.specs.declared.options.Setting.{Setting}
use Rattle.cli_words.specs.declared.options.Setting.TheVariants as run
use Rattle.live_words.specs.declared.options.LiveSetting.{LiveSetting}
use Rattle.live_words.specs.declared.options.LiveSetting.TheVariants as live
use Rattle.live_words.specs.declared.options.LiveGiven.{LiveGiven}

-- whether what stands behind an option's name is there and can name a file
abbrev pub names_file : Option (List ℕ) → Bool
names_file None = false
names_file (Some name) = is_file name

-- the options of a run that `live` has, too: all but what is shown
abbrev pub shared : Option Setting → Option LiveSetting
shared None = None
shared (Some (run.Cut n)) = Some (live.Cut n)
shared (Some (run.Vertical b)) = Some (live.Vertical b)
shared (Some (run.Workers n)) = Some (live.Workers n)
shared (Some (run.Show b)) = None

-- what an option's word says, if it is one of `live`
abbrev pub live_setting_of : List ℕ → Option LiveSetting
live_setting_of word =
    if names_file (behind (codes "--stream=") word) then Some live.Stream
    else (if names_file (behind (codes "--ask=") word) then Some live.Ask
    else shared (setting_of word))

-- no option is given
abbrev pub none_given : LiveGiven
none_given = record { streams = []; asks = []; cut = None; vertical = None; workers = None }

-- the places of files of a kind with one more; there are at most 16
abbrev pub with_place : List ℕ → ℕ → Option (List ℕ)
with_place places at = if nat_lt (length places) 16 then Some (places ++ at ∷ []) else None

abbrev pub unless_given : {A : Type 0} → Option A → LiveGiven → Option LiveGiven
unless_given None g = Some g
unless_given (Some x) g = None

-- the options with that of the word at a place; those of a run are given at most once
abbrev pub with_setting : LiveGiven → LiveSetting → ℕ → Option LiveGiven
with_setting g live.Stream at =
    option_map (λ places. record g { streams = places }) (with_place g.streams at)
with_setting g live.Ask at =
    option_map (λ places. record g { asks = places }) (with_place g.asks at)
with_setting g (live.Cut n) at = unless_given g.cut (record g { cut = Some n })
with_setting g (live.Vertical b) at = unless_given g.vertical (record g { vertical = Some b })
with_setting g (live.Workers n) at = unless_given g.workers (record g { workers = Some n })

abbrev pub if_setting : LiveGiven → Option LiveSetting → ℕ → Option LiveGiven
if_setting g None at = None
if_setting g (Some s) at = with_setting g s at

abbrev pub option_taken : LiveGiven → List ℕ → ℕ → Option LiveGiven
option_taken g word at = if_setting g (live_setting_of word) at

-- there is at least one stream
abbrev pub if_streamed : LiveGiven → Option LiveGiven
if_streamed g = if nat_lt 0 (length g.streams) then Some g else None

-- the options in words, the first of which stands at a place; a stream that is missing is missing
-- after the last word
abbrev pub options_from : LiveGiven → ℕ → List (List ℕ) → Result LiveGiven WordsRefusal
options_from g at [] = here at (if_streamed g)
options_from g at (word ∷ words) =
    here at (option_taken g word at) >>= λ h. options_from h (at + 1) words

-- the options in the words from a place on
abbrev pub options_at : List (List ℕ) → ℕ → Result LiveGiven WordsRefusal
options_at words at = options_from none_given at (drop (at - 1) words)
