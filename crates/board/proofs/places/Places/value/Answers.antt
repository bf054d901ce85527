use Rattle.std.proofs.Common.{rules, ◌+◌, ◌∙◌, ℕ, ℤ, [], FitsSigned, w64, sym, subst, get_or}
use Rattle.std.proofs.lemmas.Int.{to_z-of_z}
use Rattle.run_model.specs.Program.{number}
use Rattle.run_model.proofs.ByLane.{IsSoFar, one_more}
use Rattle.board.proofs.Flat.{lanes_are_copied}
use Rattle.board.proofs.places.Places.value.Goals as goal

pub loop-lane-preserved : goal.loop-lane-preserved
loop-lane-preserved c =
    let f : ℕ → ℤ = number (get_or c.args.self.now.values c.args.vertex []) in
    let fits : FitsSigned w64 c.number.result = search rules in
    subst (IsSoFar f _ (c.loop-lane.lane + 1)) (sym c.set.ensures)
    (one_more f _ c.loop-lane.lane c.loop-lane.value _ c.loop-lane.invariant
    c.loop-lane-test.true (to_z-of_z w64 c.number.result fits ∙ c.number.ensures))

pub returns : goal.returns
returns c =
    lanes_are_copied c.width-width.result c.loop-lane.lane c.loop-lane.value
    (get_or c.args.self.now.values c.args.vertex [])
    (c.width-width.ensures.wide c.args.vertex [] c.requires) c.loop-lane.invariant
    c.loop-lane-test.false
