use Rattle.expr_text.proofs.RoundTrip.{round_trip}
use Rattle.expr_text.proofs.Named.{names_found, forms_found}
use Rattle.expr_text.proofs.laws.reads_back.Goals as goal

pub returns : goal.returns
returns c =
    λ s t line from lanes names tree cut. round_trip s t line from (names_found s names)
    (forms_found s lanes names) tree cut
