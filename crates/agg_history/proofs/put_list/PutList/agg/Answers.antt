use Rattle.std.proofs.Common.{ap, ◌∙◌, pos, get_or, arith, rules, FitsSigned, w64}
use Rattle.std.proofs.lemmas.Int.{to_z-of_z}
use Rattle.bolt_base.specs.Keep.{Entry}
use Rattle.agg_history.proofs.ListedLemmas.{count_is, entry_is}
use Rattle.agg_history.proofs.put_list.PutList.agg.Goals as goal

pub agg-requires-clause-entry : goal.agg-requires-clause-entry
agg-requires-clause-entry c = omega (
  arith,
  count_is c.self.inside c.args.self.now c.self.view_is c.self.invariant,
  c.requires.place,
)

pub returns : goal.returns
returns c =
    let fits : FitsSigned w64 c.agg.result = search rules in
    to_z-of_z w64 c.agg.result fits ∙ c.agg.ensures
    ∙ ap (λ (e : Entry). get_or e.0 c.args.lane (pos 0))
    (entry_is c.self.inside c.args.self.now c.self.view_is c.self.invariant c.args.place
    c.requires.place)
