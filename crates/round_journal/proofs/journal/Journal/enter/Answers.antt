use Rattle.std.proofs.Common.{arith, ◌∙◌, sym, length, ◌<◌, ◌+◌, refl, None}
use Rattle.round_journal.specs.declared.entry.Entered.{Entered}
use Rattle.round_journal.proofs.Shapes.{shape_takes_entry, undecided_counts_nothing}
use Rattle.round_journal.proofs.journal.Journal.enter.Goals as goal
use Rattle.round_journal.proofs.journal.Journal.enter.Goals.{in-Ok, in-Err}

pub invariant_of-self : goal.invariant_of-self
invariant_of-self c = elim c.match-push.branch [
  | in-Ok w ↦
      (let e : Entered = record { origin = c.args.origin; batch = c.args.batch; outcome = None } in
      let inv = c.self.invariant in
      let shape = inv.0 in
      let within = shape.within in
      let most = shape.few in
      let few : length c.self.inside.entries.items < c.self.inside.decided + 64 =
      omega (arith, c.len.ensures, c.if-len-self-eq-MOST_PENDING.false, within, most) in
      rw w.in-Ok.ensures.items (
        shape_takes_entry _ _ e shape few refl,
        inv.1 ∙ sym (undecided_counts_nothing _ e refl),
        inv.2,
      ))
  | in-Err w ↦ rw w.in-Err.ensures.items c.self.invariant
]
