-- A batch that isn't refused leads to a good graph.
use Rattle.std.proofs.Common.{◌≡◌, ℕ, List, Option, Some, None, refl}
use Rattle.bolt_base.specs.Edits.{after, bad}
use Rattle.bolt_base.specs.Graph.{Graph, IsGood, vertices, within}
use Rattle.bolt_base.specs.declared.limits.LineCause.{LineCause}
use Rattle.bolt_base.proofs.GoodLemmas.{good_after, good_without}
use Rattle.graph_text.specs.Outcome.{first_refused}
use Rattle.graph_text.specs.declared.bad_line.BadLine.{BadLine}
use Rattle.graph_text.specs.declared.batch_text.BatchText.{BatchText}
use Rattle.core_model.specs.Machine.{refused_on}
use Rattle.core_model.specs.State.{Given}

no_cause : (o : Option (ℕ × LineCause)) (lines : List ℕ) (own : Option BadLine)
    → first_refused o lines own ≡ None → o ≡ None
no_cause None lines own fine = refl
no_cause (Some (k, why)) lines own fine = cc

pub good_round : (c : Given) (g : Graph) (batch : BatchText)
    → IsGood (within c.program.limits (vertices c.opened)) g → refused_on c g batch ≡ None
    → IsGood (within c.program.limits (vertices c.opened)) (after g batch.edits)
good_round c g batch good fine =
    let l = within c.program.limits (vertices c.opened) in
    good_after l g batch.edits good
    (no_cause (bad l g batch.edits) batch.lines batch.bad fine)

pub good_itself : (c : Given) (g : Graph)
    → IsGood (within c.program.limits (vertices c.opened)) g → IsGood c.program.limits g
good_itself c g good = good_without c.program.limits (vertices c.opened) g good
