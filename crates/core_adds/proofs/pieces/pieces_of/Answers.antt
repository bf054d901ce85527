use Rattle.std.proofs.Common.{◌≡◌, ℕ, ◌-◌, List, take, drop, ap, ◌∙◌}
use Rattle.bolt_base.specs.Pieces.{piece}
use Rattle.bolt_base.specs.Residue.{Amount}
use Rattle.run_model.proofs.Gathering.{table_more}
use Rattle.core_model.specs.Iterations.{all_left}
use Rattle.core_adds.proofs.pieces.pieces_of.Goals as goal

pub loop-k-preserved : goal.loop-k-preserved
loop-k-preserved c =
    let xs : List (List Amount) = c.args.items.now in
    let w : ℕ = c.args.workers in
    let start = c.cut_at-start.ensures.value in
    let end = c.cut_at-end.ensures.value in
    let is : c.in_ok-concatenated.field-0 ≡ all_left (piece xs w c.loop-k.k) =
    c.in_ok-concatenated.ensures
    ∙ ap all_left (λ j. take (end j - start j) (drop (start j) xs)) in
    table_more (λ k. all_left (piece xs w k)) c.loop-k.k c.loop-k.pieces c.push.new.self
    c.in_ok-concatenated.field-0 c.in_ok-push.ensures.ok c.loop-k.invariant is
