-- A slot that is read to its end.
use Rattle.std.specs.Prelude.{◌≡◌, ℕ, ◌<◌, ◌≤◌, [], length, Option, Result, IfSome, OnOk}
use Rattle.std.specs.Prelude.{IsErrOf}
use Rattle.bolt_io.specs.Told.{Told, left}
use Rattle.bolt_io.specs.declared.whole.TheConstants.{MOST_BYTES}
use Rattle.command_files.specs.Reads.{TookTo}
use Rattle.command_files.specs.declared.stop.Stop.{Stop}
use Rattle.command_files.specs.declared.stop.Stop.TheVariants.{TooLong}

-- Bytes of a slot were taken, and nothing else changed on the shelf. With Ok all of a slot was
-- taken that has fewer bytes than are taken at most, and TooLong comes only where it has as many or
-- more.
pub record ReadsToEnd {T : Type 0} (old new : Option Told) (before after slot : ℕ)
    (r : Result T Stop) : Type 0 where
  pub took : TookTo (λ bytes. length bytes) old new slot
  pub short : OnOk r (IfSome old (λ t. length (left t slot) < MOST_BYTES))
  pub end : OnOk r (IfSome new (λ t. left t slot ≡ []))
  pub too_long : IsErrOf r TooLong → IfSome old (λ t. MOST_BYTES ≤ length (left t slot))
  pub opened : after ≡ before
