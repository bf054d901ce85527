use Rattle.std.proofs.Common.{◌≡◌, ℕ, List, sym, ◌∙◌, inl, inr, arith}
use Rattle.bolt_base.specs.declared.edge.Touched.{Touched}
use Rattle.refine_tasks.specs.Sides.{LacksKey}
use Rattle.refine_tasks.proofs.SearchLemmas.{gap_lacks, tells_less, tells_most}
use Rattle.refine_tasks.proofs.search.is_touched_gap.Goals as goal
use Rattle.refine_tasks.proofs.search.is_touched_gap.Goals.{then-at-touched+then-at-eq0}
use Rattle.refine_tasks.proofs.search.is_touched_gap.Goals.{then-at-touched+else-at-eq0}
use Rattle.refine_tasks.proofs.search.is_touched_gap.Goals.{else-at-touched}

pub returns-else-at-touched-2 : goal.returns-else-at-touched-2
returns-else-at-touched-2 c above =
    let xs : List Touched = c.args.touched.now in
    let none : Touched = record { vertex = 0; old_degree = 0 } in
    let key : Touched → ℕ = λ t. t.vertex in
    let more = tells_less _ _ above in
    let lacks : LacksKey key xs c.args.u = elim c.if-at-touched.branch [
      | then-at-touched+then-at-eq0 w ↦ gap_lacks key xs c.args.u c.args.at none
          w.if-at-touched.true (inl w.if-at-eq0.true) (inr more)
      | then-at-touched+else-at-eq0 w ↦ gap_lacks key xs c.args.u c.args.at none
          w.if-at-touched.true (inr (tells_less _ _ (sym w.value-is ∙ c.if-touched-at.true)))
          (inr more)
      | else-at-touched w ↦ absurd (
          let most = tells_most _ _ (sym w.value-is ∙ c.if-touched-at.true) in
          let past = w.if-at-touched.false in
          omega arith)
    ] in
    lacks
