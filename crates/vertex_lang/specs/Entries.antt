-- What an entry says behind its word, field by field, and the first refusal.
use Rattle.std.specs.Prelude.{◌≤◌, ℕ, ℤ, pos, neg_ℤ, ◌-◌, ◌^◌, nat_lt, nat_le, if◌then◌else◌, List}
use Rattle.std.specs.Prelude.{[], ◌∷◌, ◌++◌, length, Option, Some, None, Result, Ok, Err, codes}
use Rattle.std.specs.Int.{int_max}
use Rattle.std.specs.Str.{bytes_eq}
use Rattle.lexical.specs.Words.{Word}
use Rattle.text_words.specs.Fields.{◌>>=◌, word_at, word_end, unsigned_of, number_at, signed_at}
use Rattle.text_words.specs.Fields.{name_at}
use Rattle.text_words.specs.declared.error.LangError.{LangError}
use Rattle.text_words.specs.declared.error.LangError.TheVariants.{Syntax, Repeat, Missing, TooBig}
use Rattle.text_words.specs.declared.error.Keyword.{Keyword}
use Rattle.text_words.specs.declared.error.Keyword.TheVariants.{Program, Vertices, Degree, Edges}
use Rattle.text_words.specs.declared.error.Keyword.TheVariants.{Weight, Attr, Rounds}
use Rattle.text_words.specs.declared.error.Keyword.TheVariants.{Combine as CombineWord, Param, Lane}
use Rattle.text_words.specs.declared.error.Keyword.TheVariants.{Init, Contribute, Apply}
use Rattle.vertex_expr.specs.Tree.{Tree}
use Rattle.vertex_expr.specs.Names.{is_taken}
use Rattle.vertex_expr.specs.Writable.{scope_in, names_of}
use Rattle.vertex_expr.specs.declared.expr.Part.{Part}
use Rattle.vertex_expr.specs.declared.expr.Part.TheVariants.{Init as InitPart}
use Rattle.vertex_expr.specs.declared.expr.Part.TheVariants.{Contribute as ContributePart}
use Rattle.vertex_expr.specs.declared.expr.Part.TheVariants.{Apply as ApplyPart}
use Rattle.vertex_expr.specs.declared.program.Combine.{Combine}
use Rattle.vertex_expr.specs.declared.program.Combine.TheVariants.{Sum, Min, Max}
use Rattle.vertex_expr.specs.declared.program.LaneRange.{LaneRange}
use Rattle.vertex_expr.specs.declared.program.NamedParam.{NamedParam}
use Rattle.vertex_expr.specs.declared.program.ProgramEntries.{ProgramEntries}
use Rattle.expr_text.specs.Expressions.{expression_at}

abbrev pub least_i64 : ℤ
least_i64 = neg_ℤ (pos (2 ^ 63))

abbrev pub greatest_i64 : ℤ
greatest_i64 = pos (2 ^ 63 - 1)

-- LO and HI, with the greatest LO and the least HI. LO above HI is too big at HI, since HI is at
-- least LO.
unfoldable pub range_at : List ℕ → ℕ → ℤ → ℤ → Result (LaneRange × ℕ) LangError
range_at line from lo_most hi_least =
    signed_at line from least_i64 lo_most >>= λ lo.
    signed_at line lo.1 (int_max lo.0 hi_least) greatest_i64 >>= λ hi.
    Ok (record { lo = lo.0; hi = hi.0 }, hi.1)

abbrev pub combine_of : List ℕ → Word → Result (Combine × ℕ) LangError
combine_of line w =
    if bytes_eq w.bytes (codes "sum") then Ok (Sum, word_end w)
    else if bytes_eq w.bytes (codes "min") then
    (signed_at line (word_end w) least_i64 greatest_i64 >>= λ e. Ok (Min e.0, e.1))
    else if bytes_eq w.bytes (codes "max") then
    (signed_at line (word_end w) least_i64 greatest_i64 >>= λ e. Ok (Max e.0, e.1))
    else Err (Syntax w.at)

-- `sum`, or `min` or `max` and a number
unfoldable pub combine_at : List ℕ → ℕ → Result (Combine × ℕ) LangError
combine_at line from = word_at line from >>= combine_of line

abbrev pub param : List ℕ → ℤ → NamedParam
param name value = record { name = name; value = value }

-- a name that isn't taken, and its number
unfoldable pub param_at : ProgramEntries → List ℕ → ℕ → Result (ProgramEntries × ℕ) LangError
param_at g line from =
    name_at line from >>= λ w.
    if is_taken (names_of g.params) w.bytes then Err (Repeat w.at)
    else signed_at line (word_end w) least_i64 greatest_i64 >>= λ x.
    Ok (record g { params = g.params ++ param w.bytes x.0 ∷ [] }, x.1)

-- a number that has to be the next one
abbrev pub index_of : Keyword → ℕ → Word → Option ℕ → Result ℕ LangError
index_of k next w None = Err (Syntax w.at)
index_of k next w (Some n) =
    if nat_lt n next then Err (Repeat w.at) else if nat_lt next n then Err (Missing k) else Ok
    (word_end w)

-- K, which counts from 0, and the place behind it
unfoldable pub index_at : List ℕ → ℕ → Keyword → ℕ → Result ℕ LangError
index_at line from k next = word_at line from >>= λ w. index_of k next w (unsigned_of w.bytes)

-- K and the range of a lane
unfoldable pub lane_at : ProgramEntries → List ℕ → ℕ → Result (ProgramEntries × ℕ) LangError
lane_at g line from =
    index_at line from Lane (length g.ranges) >>= λ p.
    range_at line p greatest_i64 least_i64 >>= λ r.
    Ok (record g { ranges = g.ranges ++ r.0 ∷ [] }, r.1)

-- K of an expression is below the number of lanes, before all else
abbrev pub below_lanes : ℕ → Word → Option ℕ → Result (Unit {0}) LangError
below_lanes lanes w None = Err (Syntax w.at)
below_lanes lanes w (Some n) = if nat_le lanes n then Err (TooBig w.at) else Ok tt

unfoldable pub place_at : List ℕ → ℕ → Keyword → ℕ → ℕ → Result ℕ LangError
place_at line from k next lanes =
    word_at line from >>= λ w. below_lanes lanes w (unsigned_of w.bytes) >>= λ u. index_of k next w
    (unsigned_of w.bytes)

-- K and its expression, which takes the line to its end
unfoldable pub tree_at : ProgramEntries → Part → Keyword → ℕ → List ℕ → ℕ → Result Tree LangError
tree_at g part k next line from =
    place_at line from k next (length g.ranges) >>= λ p. expression_at (scope_in g part) line p

-- what stands behind an entry's word, and the place behind that
unfoldable pub entry_at : ProgramEntries → Keyword → List ℕ → ℕ
    → Result (ProgramEntries × ℕ) LangError
entry_at g Program line p = name_at line p >>= λ w. Ok (record g { name = w.bytes }, word_end w)
entry_at g Vertices line p =
    number_at line p 1 1000000 >>= λ n. Ok
    (record g { limits = record g.limits { vertices = n.0 } }, n.1)
entry_at g Degree line p =
    number_at line p 1 1000000 >>= λ n. Ok
    (record g { limits = record g.limits { degree = n.0 } }, n.1)
entry_at g Edges line p =
    number_at line p 1 8000000 >>= λ n. Ok
    (record g { limits = record g.limits { edges = n.0 } }, n.1)
entry_at g Weight line p =
    range_at line p greatest_i64 least_i64 >>= λ r. Ok
    (record g { limits = record g.limits { weight_lo = r.0.lo; weight_hi = r.0.hi } }, r.1)
entry_at g Attr line p =
    range_at line p (pos 0) (pos 0) >>= λ r. Ok
    (record g { limits = record g.limits { attr_lo = r.0.lo; attr_hi = r.0.hi } }, r.1)
entry_at g Rounds line p = number_at line p 1 64 >>= λ n. Ok (record g { rounds = n.0 }, n.1)
entry_at g CombineWord line p = combine_at line p >>= λ c. Ok (record g { combine = c.0 }, c.1)
entry_at g Param line p = param_at g line p
entry_at g Lane line p = lane_at g line p
entry_at g Init line p =
    tree_at g InitPart Init (length g.init) line p >>= λ t. Ok
    (record g { init = g.init ++ t ∷ [] }, length line)
entry_at g Contribute line p =
    tree_at g ContributePart Contribute (length g.contribute) line p >>= λ t. Ok
    (record g { contribute = g.contribute ++ t ∷ [] }, length line)
entry_at g Apply line p =
    tree_at g ApplyPart Apply (length g.apply) line p >>= λ t. Ok
    (record g { apply = g.apply ++ t ∷ [] }, length line)

-- few params and lanes
pub record IsSmall (g : ProgramEntries) : Type 0 where
  pub params : length g.params ≤ 64
  pub ranges : length g.ranges ≤ 8
