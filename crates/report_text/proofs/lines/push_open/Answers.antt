use Rattle.std.proofs.Common.{◌≡◌, ◌++◌, List, ℕ, ◌∙◌, ap, append_assoc}
use Rattle.std.specs.Prelude.{codes}
use Rattle.report_text.specs.Lines.{labelled, counts}
use Rattle.report_text.proofs.lines.push_open.Goals as goal

three_pieces : (s a b c s1 s2 s3 : List ℕ) → s1 ≡ s ++ a → s2 ≡ s1 ++ b → s3 ≡ s2 ++ c
    → s3 ≡ s ++ (a ++ b ++ c)
three_pieces s a b c s1 s2 s3 e1 e2 e3 =
    e3 ∙ ap (λ (l : List ℕ). l ++ c) (e2 ∙ ap (λ (l : List ℕ). l ++ b) e1) ∙ simp append_assoc

pub returns : goal.returns
returns c =
    let graph = c.args.graph in
    three_pieces c.args.out.now (labelled (codes "open vertices ") graph.vertices)
    (labelled (codes " edges ") graph.edges) (counts graph.kept graph.visits)
    _ _ _
    (c.in_ok-push_labelled.ensures
    ∙ ap (λ (n : ℕ). c.args.out.now ++ labelled (codes "open vertices ") n) c.from.ensures)
    (c.in_ok-push_labelled-2.ensures
    ∙ ap (λ (n : ℕ). c.push_labelled.new.out ++ labelled (codes " edges ") n) c.from-2.ensures)
    c.in_ok-push_counts.ensures
