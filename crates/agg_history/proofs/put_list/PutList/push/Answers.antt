use Rattle.std.proofs.Common.{ap, ◌∙◌, ◌++◌, ◌∷◌, [], arith}
use Rattle.std.specs.List.{zip}
use Rattle.agg_history.specs.Entries.{Entries}
use Rattle.agg_history.proofs.ListedLemmas.{count_is, lanes_is, more_is}
use Rattle.agg_history.proofs.put_list.PutList.push.Goals as goal

pub push-requires-clause-room : goal.push-requires-clause-room
push-requires-clause-room c = omega
    (arith, count_is c.self.inside c.args.self.now c.self.view_is c.self.invariant, c.requires.room)

pub returns-in-Ok-clause-ok : goal.returns-in-Ok-clause-ok
returns-in-Ok-clause-ok c =
    let cells = c.in_ok-push.ensures.ok in
    let puts = ap (λ xs. zip xs c.push.new.self.all) c.in-Ok.ensures.items
    ∙ ap (λ (e : Entries). zip (c.self.inside.vertices.items ++ c.args.v ∷ []) e.all) cells
    ∙ more_is c.self.inside c.args.self.now c.self.view_is c.self.invariant c.args.v
    (c.args.agg.now, c.args.val.now) in
    let lanes = ap (λ (e : Entries). e.lanes) cells
    ∙ lanes_is c.self.inside c.args.self.now c.self.view_is c.self.invariant in
    λ i. record { lanes = lanes i; puts = puts i }
