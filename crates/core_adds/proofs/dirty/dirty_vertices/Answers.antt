use Rattle.std.proofs.Common.{ℕ, Bool, sym, ◌∙◌}
use Rattle.run_model.specs.Steps.{is_dirty}
use Rattle.core_adds.specs.Sides.{seen}
use Rattle.core_adds.proofs.ListSteps.{fails, passes}
use Rattle.core_adds.proofs.dirty.dirty_vertices.Goals as goal
use Rattle.core_adds.proofs.dirty.dirty_vertices.Goals.{then-is_dirty+in_ok-push, else-is_dirty}

pub loop-u-preserved : goal.loop-u-preserved
loop-u-preserved g c =
    let test : (ℕ → Bool) = is_dirty c.args.program.now
    (seen (g.A.Adjacency.plain c.args.old.now) (g.A.Adjacency.plain c.args.new.now)
    c.args.was.now c.args.now.now) in
    let u : ℕ = c.loop-u.u in
    elim c.if-is_dirty.branch [
      | then-is_dirty+in_ok-push w ↦ rw w.us-is
          (passes test u c.loop-u.us.items c.loop-u.invariant w.push.new.self.items
          (sym c.is_dirty.ensures ∙ w.if-is_dirty.true) w.in_ok-push.ensures.items)
      | else-is_dirty w ↦ rw w.us-is
          (fails test u c.loop-u.us.items c.loop-u.invariant
          (sym c.is_dirty.ensures ∙ w.if-is_dirty.false))
    ]
