use Rattle.std.proofs.Common.{sym, ◌∙◌, arith, rules, Fits, w32, pos}
use Rattle.bolt_base.specs.declared.edge.Edit.TheVariants.{Add}
use Rattle.adjacency.proofs.UnderWay.{under_way_more, under_way_all, narrow_rows}
use Rattle.adjacency.proofs.ready.plan_edits.Goals as goal

pub loop-index-preserved : goal.loop-index-preserved
loop-index-preserved g c = record {
  way = under_way_more c.args.limits c.args.attrs.now c.args.out.now c.args.into.now
      c.args.edits.now c.loop-index.plan c.loop-index.index c.loop-index.invariant.way
      (Add (record { src = 0; dst = 0; weight = pos 0 })) c.loop-index-test.true
      c.make.new.self (sym c.cause_of.ensures ∙ c.in_default.is) c.in-Ok.ensures.plan
      (c.in-Ok.ensures.over c.args.attrs.now c.args.out.now c.args.into.now
      c.loop-index.invariant.way.over) c.in-Ok.ensures.made;
}

pub returns-in-Ok-finish-clause-ok : goal.returns-in-Ok-finish-clause-ok
returns-in-Ok-finish-clause-ok g c =
    under_way_all c.args.limits c.args.attrs.now c.args.out.now c.args.into.now c.args.edits.now
    c.loop-index.plan c.loop-index.index c.loop-index.invariant.way c.loop-index-test.false
    c.in-Ok-finish.ready (c.in-Ok-finish.ensures c.args.attrs.now c.args.out.now
    c.args.into.now c.loop-index.invariant.way.over)

pub finish-requires-clause-narrow : goal.finish-requires-clause-narrow
finish-requires-clause-narrow g c = λ u.
    let fits : Fits w32 c.args.limits.degree = search rules in
    narrow_rows c.args.limits c.args.attrs.now c.args.out.now c.args.into.now c.args.edits.now
    c.loop-index.plan c.loop-index.index c.loop-index.invariant.way c.requires.good
    (omega arith) u
