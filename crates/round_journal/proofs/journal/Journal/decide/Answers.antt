use Rattle.std.proofs.Common.{arith, ◌≡◌, ◌+◌, ◌-◌, ◌<◌, ◌⊎◌, ◌∙◌, sym, ap, length, List, ℕ}
use Rattle.std.proofs.Common.{Some, None, subst}
use Rattle.std.specs.Prelude.{slice_get}
use Rattle.graph_text.specs.declared.batch_text.BatchText.{BatchText}
use Rattle.round_journal.specs.declared.entry.Entered.{Entered}
use Rattle.round_journal.specs.declared.outcome.Outcome.TheVariants.{Memory as NoMemory}
use Rattle.round_journal.specs.Book.{IsRound, accepted_count, one_if_accepted, Book}
use Rattle.round_journal.specs.Replays.{Replays, outcome_after}
use Rattle.round_journal.proofs.Shapes.{IsOpenFrom, get_is_read, decided_is_counted}
use Rattle.round_journal.proofs.Shapes.{shape_takes_outcome}
use Rattle.round_journal.proofs.Replaying.{replays_with_outcome}
use Rattle.round_journal.proofs.journal.Journal.decide.Goals as goal

pub invariant_of-self : goal.invariant_of-self
invariant_of-self c =
    let inv = c.self.invariant in
    let x : Entered = c.index_mut-entry.result.now in
    let es = c.self.inside.entries.items in
    let d = c.self.inside.decided in
    let v = ap (λ (b : Book). length b.entries) c.self.view_is in
    let u = ap (λ (b : Book). b.decided) c.self.view_is in
    let low : d < length es = omega (arith, c.requires.lowest, c.requires.there) in
    let at : slice_get es d ≡ Some x = get_is_read es d x low c.index_mut-entry.ensures.value in
    let open_ : x.outcome ≡ None = (inv.0.decided_first d x at).1 (omega arith) in
    let round : IsRound (accepted_count es + 1) (Some c.args.outcome) =
    subst (λ (n : ℕ). IsRound (n + 1) (Some c.args.outcome))
    (sym (ap (λ (b : Book). accepted_count b.entries) c.self.view_is)) c.requires.round in (
      shape_takes_outcome es d c.args.outcome x inv.0 at round,
      c.rounds_after-self-inside.ensures
          ∙ ap (λ (n : ℕ). n + one_if_accepted (Some c.args.outcome)) inv.1
          ∙ sym (decided_is_counted es d c.args.outcome x at open_),
      inv.2,
    )

pub returns-clause-replays : goal.returns-clause-replays
returns-clause-replays c p g choice e at due old =
    let inv = c.self.invariant in
    let o = c.args.outcome in
    let x : Entered = c.index_mut-entry.result.now in
    let es = c.self.inside.entries.items in
    let d = c.self.inside.decided in
    let v = ap (λ (b : Book). length b.entries) c.self.view_is in
    let u = ap (λ (b : Book). b.decided) c.self.view_is in
    let low : d < length es = omega (arith, c.requires.lowest, c.requires.there) in
    let here : slice_get es d ≡ Some x = get_is_read es d x low c.index_mut-entry.ensures.value in
    let listed : es ≡ c.args.self.now.entries = ap (λ (b : Book). b.entries) c.self.view_is in
    let place : d ≡ c.args.ticket - 1 = omega (arith, c.requires.lowest) in
    let there : slice_get es d ≡ Some e = (λ i. slice_get (listed i) (place i)) ∙ at in
    let same : e ≡ x = cc (there, here) in
    let late : IsOpenFrom es d = λ k y is le. (inv.0.decided_first k y is).1 le in
    let due_here : (o ≡ NoMemory) ⊎ (o ≡ outcome_after p g choice es e.batch) =
    subst (λ (l : List Entered). (o ≡ NoMemory) ⊎ (o ≡ outcome_after p g choice l e.batch))
    (sym listed) due in
    let due_now : (o ≡ NoMemory) ⊎ (o ≡ outcome_after p g choice es x.batch) =
    subst (λ (b : BatchText). (o ≡ NoMemory) ⊎ (o ≡ outcome_after p g choice es b))
    (ap (λ (z : Entered). z.batch) same) due_here in
    let replayed : Replays p g choice es =
    subst (λ (l : List Entered). Replays p g choice l) (sym listed) old in
    replays_with_outcome p g choice es d o x here late due_now replayed
