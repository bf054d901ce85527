-- Texts that are judged as they stand or from their first bytes.
use Rattle.std.specs.Prelude.{◌≡◌, ◌<◌, ℕ, nat_lt, true, List, length, take}
use Rattle.std.specs.Prelude.{Err, if◌then◌else◌}
use Rattle.std.proofs.Common.{sym, ◌∙◌, ap, inl, inr, arith}
use Rattle.std.proofs.lemmas.Bool.{cases_lt}
use Rattle.std.proofs.lemmas.Bool.Decides.{nat_tests}
use Rattle.std.proofs.lemmas.List.{length-take, take_all}
use Rattle.text_words.specs.Fields.{◌>>=◌}
use Rattle.text_words.specs.declared.error.LangError.TheVariants.{TooBig}
use Rattle.vertex_lang.specs.ProgramOf.{entries_of, fitting, program_of}
use Rattle.program_files.specs.declared.loading.TheConstants.{MOST_READ}
use Rattle.program_files.specs.Judged.{judged_by, judged}

-- a text with more bytes than one may have
program_of-long : (text : List ℕ) → 65536 < length text → program_of text ≡ Err (TooBig 65536)
unfolding program_of
program_of-long text long =
    let is_long : nat_lt 65536 (length text) ≡ true = grind (arith, nat_tests) in
    ap (λ b. if b then Err (TooBig 65536) else entries_of text >>= fitting) is_long

-- the first bytes of a text say as much as all of it
pub program_of-start : (text : List ℕ) → program_of (take MOST_READ text) ≡ program_of text
program_of-start text = elim (cases_lt 65536 (length text)) [
  | inl long ↦ program_of-long (take MOST_READ text)
      (omega (arith, length-take MOST_READ text, long)) ∙ sym (program_of-long text long)
  | inr short ↦ ap program_of (take_all MOST_READ text (omega (arith, short)))
]

pub judged-start : (text : List ℕ) → judged (take MOST_READ text) ≡ judged text
judged-start text = ap judged_by (program_of-start text)
