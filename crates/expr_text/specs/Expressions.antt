-- The expression of a list of tokens, or the first refusal with its place.
use Rattle.std.specs.Prelude.{ℕ, nat_le, if◌then◌else◌, List, [], ◌∷◌, Result, Ok, Err, drop}
use Rattle.std.specs.Prelude.{length}
use Rattle.text_words.specs.Token.{Token}
use Rattle.text_words.specs.Tokens.{tokens_from}
use Rattle.text_words.specs.declared.error.LangError.{LangError}
use Rattle.text_words.specs.declared.error.LangError.TheVariants.{Syntax, Unknown, TooBig}
use Rattle.vertex_expr.specs.Tree.{Tree, depth}
use Rattle.vertex_expr.specs.Writable.{Scope}
use Rattle.expr_text.specs.Reading.{start, step, product_of}
use Rattle.expr_text.specs.declared.reading.Cause.{Cause}
use Rattle.expr_text.specs.declared.reading.Cause.TheVariants.{Syntax as IsSyntax}
use Rattle.expr_text.specs.declared.reading.Cause.TheVariants.{Unknown as IsUnknown}
use Rattle.expr_text.specs.declared.reading.Cause.TheVariants.{TooBig as IsTooBig}
use Rattle.expr_text.specs.declared.reading.Due.{Due}
use Rattle.expr_text.specs.declared.reading.Due.TheVariants.{Operator}
use Rattle.expr_text.specs.declared.reading.Frame.{Frame}
use Rattle.expr_text.specs.declared.reading.Reading.{Reading}

-- a cause at a place
abbrev pub refusal : Cause → ℕ → LangError
refusal IsSyntax at = Syntax at
refusal IsUnknown at = Unknown at
refusal IsTooBig at = TooBig at

-- a step that is refused is refused at its token
abbrev pub goes_on : {A : Type 0} → ℕ → Result Reading Cause → (Reading → Result A LangError)
    → Result A LangError
goes_on at (Ok r) next = next r
goes_on at (Err c) next = Err (refusal c at)

-- the line ended: nothing may be due and nothing open
abbrev pub closed_whole : Frame → List Frame → Due → ℕ → Result Tree LangError
closed_whole f [] (Operator t) end = Ok (product_of f.sum t)
closed_whole f _ _ end = Err (Syntax end)

abbrev pub read_tokens : Scope → ℕ → Reading → List (Token × ℕ) → Result Tree LangError
read_tokens s end r [] = closed_whole r.top r.below r.due end
read_tokens s end r (k ∷ ks) = goes_on k.1 (step s r k.0) (λ q. read_tokens s end q ks)

abbrev pub first_place : ℕ → List (Token × ℕ) → ℕ
first_place end [] = end
first_place end (k ∷ ks) = k.1

-- a tree deeper than 32 is refused at the expression's first byte
abbrev pub shallow : ℕ → Result Tree LangError → Result Tree LangError
shallow at (Ok t) = if nat_le (depth t) 32 then Ok t else Err (TooBig at)
shallow at (Err e) = Err e

-- the expression that these tokens are, on a line that ends at a place
unfoldable pub expression : Scope → ℕ → List (Token × ℕ) → Result Tree LangError
expression s end ks = shallow (first_place end ks) (read_tokens s end start ks)

-- the expression that stands in a line from a place on
unfoldable pub expression_at : Scope → List ℕ → ℕ → Result Tree LangError
expression_at s line from = expression s (length line) (tokens_from 0 from (drop from line))
