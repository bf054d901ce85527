-- Names of programs and of params.
use Rattle.std.specs.Prelude.{◌≡◌, ◌<◌, ℕ, ◌==◌, ◌||◌, nat_lt, Bool, true, false, if◌then◌else◌}
use Rattle.std.specs.Prelude.{List, [], length, take, slice_index, slice_index_or, codes}
use Rattle.std.specs.Str.{bytes_eq}
use Rattle.std.specs.Char.{is_ascii_digit, is_ascii_lowercase}
use Rattle.std.specs.List.{list_all, list_any}

-- a to z, 0 to 9, or _
abbrev pub is_name_byte : ℕ → Bool
is_name_byte b = is_ascii_lowercase b || is_ascii_digit b || (b == 95)

-- a letter a to z, then up to 31 of a to z, 0 to 9 and _
unfoldable pub is_name : List ℕ → Bool
is_name w = if length w == 0 then false else if nat_lt 32 (length w) then false else if
    is_ascii_lowercase (slice_index w 0) then list_all is_name_byte w else false

-- a name of the expression table, or a call's
unfoldable pub is_reserved : List ℕ → Bool
is_reserved w =
    bytes_eq w (codes "val") || bytes_eq w (codes "outdeg") || bytes_eq w (codes "weight")
    || bytes_eq w (codes "attr") || bytes_eq w (codes "id") || bytes_eq w (codes "agg")
    || bytes_eq w (codes "old") || bytes_eq w (codes "min") || bytes_eq w (codes "max")
    || bytes_eq w (codes "clamp") || bytes_eq w (codes "if")

-- reserved, or one of these names
unfoldable pub is_taken : List (List ℕ) → List ℕ → Bool
is_taken names w = if is_reserved w then true else list_any (λ n. bytes_eq n w) names

abbrev pub param_name : List (List ℕ) → ℕ → List ℕ
param_name names k = slice_index_or names k []

-- each has the form of a name, and is no name of the table, no call and no earlier one of them
pub record AreNames (names : List (List ℕ)) : Type 0 where
  pub form : (k : ℕ) → k < length names → is_name (param_name names k) ≡ true
  pub free : (k : ℕ) → k < length names → is_taken (take k names) (param_name names k) ≡ false
