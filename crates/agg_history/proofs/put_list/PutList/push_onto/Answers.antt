use Rattle.std.proofs.Common.{◌++◌, ◌∷◌, [], ◌≡◌, OnOk, arith, subst}
use Rattle.bolt_base.specs.Keep.{Entry}
use Rattle.agg_history.proofs.ListedLemmas.{count_is, entry_is}
use Rattle.agg_history.proofs.put_list.PutList.push_onto.Goals as goal

pub push_from-requires-clause-entry : goal.push_from-requires-clause-entry
push_from-requires-clause-entry c = omega (
  arith,
  count_is c.self.inside c.args.self.now c.self.view_is c.self.invariant,
  c.requires.place,
)

pub returns-clause-ok : goal.returns-clause-ok
returns-clause-ok c =
    subst (λ (e : Entry). OnOk c.push_from.result
    (c.push_from.new.self ≡ record c.args.column.now { all = c.args.column.now.all ++ e ∷ [] }))
    (entry_is c.self.inside c.args.self.now c.self.view_is c.self.invariant c.args.place
    c.requires.place) c.push_from.ensures.ok
