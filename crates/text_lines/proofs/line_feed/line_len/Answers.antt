use Rattle.std.proofs.Common.{◌∙◌, ℕ, List, ap, length, take}
use Rattle.text_lines.proofs.LineLemmas.{without_carriage_return-take}
use Rattle.text_lines.proofs.line_feed.line_len.Goals as goal

pub returns-clause-line : goal.returns-clause-line
returns-clause-line c =
    ap (λ (l : List ℕ). take (length l) c.args.line.now) c.without_carriage_return.ensures.value
    ∙ without_carriage_return-take c.args.line.now
