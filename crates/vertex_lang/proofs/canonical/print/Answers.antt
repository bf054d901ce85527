use Rattle.std.proofs.Common.{◌≡◌, ◌≤◌, ℕ, List, length, ◌∙◌, ap, subst}
use Rattle.vertex_lang.specs.Canonical.{canonical_text}
use Rattle.vertex_lang.specs.ProgramOf.{program_of}
use Rattle.vertex_lang.proofs.WholeRoundTrip.{program_back}
use Rattle.vertex_lang.proofs.canonical.print.Goals as goal

pub returns-clause-again : goal.returns-clause-again
returns-clause-again c = λ few.
    let g = c.args.program.now in
    let same : c.in_ok-text.text ≡ canonical_text g =
    c.in_ok-text.ensures ∙ ap canonical_text c.entries-entries.ensures.entries in
    let P : List ℕ → Type 0 = λ t. length t ≤ 65536 in
    ap program_of same ∙ program_back g c.entries-entries.ensures.writable (subst P same few)
