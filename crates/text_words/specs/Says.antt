-- What a function of the code answers, against a definition that knows no memory.
use Rattle.std.specs.Prelude.{◌≡◌, Result, Ok, Err}
use Rattle.text_words.specs.declared.error.LangError.{LangError}
use Rattle.text_words.specs.declared.error.LangError.TheVariants.{Memory, Syntax, Unknown, Repeat}
use Rattle.text_words.specs.declared.error.LangError.TheVariants.{Missing, TooBig}

-- what holds unless memory ran out
abbrev pub Unless : LangError → Type 0 → Type 0
Unless Memory p = Unit {0}
Unless (Syntax at) p = p
Unless (Unknown at) p = p
Unless (Repeat at) p = p
Unless (Missing w) p = p
Unless (TooBig at) p = p

-- the answer, seen by a view, is the one that the definition gives
abbrev pub Says : {A B : Type 0} → (A → B) → Result A LangError → Result B LangError → Type 0
Says view (Ok x) read = read ≡ Ok (view x)
Says view (Err e) read = Unless e (read ≡ Err e)

-- the same of a function that takes no memory: it answers what the definition gives
abbrev pub SaysAlways : {A B : Type 0} → (A → B) → Result A LangError → Result B LangError → Type 0
SaysAlways view (Ok x) read = read ≡ Ok (view x)
SaysAlways view (Err e) read = read ≡ Err e
