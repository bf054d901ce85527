use Rattle.std.proofs.Common.{◌≡◌, ◌++◌, List, ℕ, ◌∙◌, ap, append_assoc}
use Rattle.std.specs.Prelude.{codes}
use Rattle.report_text.specs.Lines.{labelled}
use Rattle.report_text.specs.Refusals.{cause_word}
use Rattle.report_text.proofs.refusals.push_refused_at.Goals as goal

four_pieces : (s a b c d s1 s2 s3 s4 : List ℕ) → s1 ≡ s ++ a → s2 ≡ s1 ++ b → s3 ≡ s2 ++ c
    → s4 ≡ s3 ++ d → s4 ≡ s ++ (a ++ b ++ c ++ d)
four_pieces s a b c d s1 s2 s3 s4 e1 e2 e3 e4 =
    e4 ∙ ap (λ (l : List ℕ). l ++ d)
    (e3 ∙ ap (λ (l : List ℕ). l ++ c) (e2 ∙ ap (λ (l : List ℕ). l ++ b) e1)) ∙ simp append_assoc

pub returns : goal.returns
returns c =
    let bad = c.args.bad in
    four_pieces c.args.out.now (labelled (codes " refused line ") bad.line) (codes " ")
    (cause_word bad.cause) (codes "\n")
    _ _ _ _ c.in_ok-push_labelled.ensures c.in_ok-extend_from_slice.ensures.ok
    (c.in_ok-extend_from_slice-2.ensures.ok
    ∙ ap (λ (w : List ℕ). c.extend_from_slice.new.self ++ w) c.cause_word.ensures)
    c.in_ok-extend_from_slice-3.ensures.ok
