-- What a step of the code answers, against the definition.
use Rattle.std.specs.Prelude.{◌≡◌, Result, Ok, Err}
use Rattle.expr_text.specs.declared.reading.Cause.{Cause}
use Rattle.expr_text.specs.declared.reading.Fault.{Fault}
use Rattle.expr_text.specs.declared.reading.Fault.TheVariants.{Memory, Refused}

-- the definition refuses for this cause, unless memory ran out
abbrev pub Fails : {A : Type 0} → Fault → Result A Cause → Type 0
Fails Memory read = Unit {0}
Fails (Refused c) read = read ≡ Err c

-- what the definition gives is what was answered
abbrev pub Gives : {A : Type 0} → Result A Fault → Result A Cause → Type 0
Gives (Ok x) read = read ≡ Ok x
Gives (Err e) read = Fails e read
