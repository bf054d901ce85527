use Rattle.std.proofs.Common.{◌-◌, ◌∙◌, arith}
use Rattle.bolt_base.specs.Graph.{Graph}
use Rattle.vertex_expr.specs.declared.program.ProgramEntries.{ProgramEntries}
use Rattle.vertex_steps.proofs.Rounds.{before_at}
use Rattle.core_adds.proofs.iteration.adds_due.Goals as goal

pub adds_by_item-requires : goal.adds_by_item-requires
adds_by_item-requires g c =
    let p : ProgramEntries = c.args.program.now in
    let after : Graph = g.A.Adjacency.plain c.args.new.now in
    record {
      sides = record {
        old = before_at p after (c.args.iteration - 2) c.deref.result.now
            (c.deref.ensures.value ∙ c.in_ok-was.ensures) c.requires.safe c.requires.new;
        new = before_at p after (c.args.iteration - 1) c.deref-then-cut-iteration.result.now
            (c.deref-then-cut-iteration.ensures.value ∙ c.in_ok-now.ensures) c.requires.safe
            c.requires.new;
        grown = omega arith;
      };
    }

pub adds_by_item-requires-2 : goal.adds_by_item-requires-2
adds_by_item-requires-2 g c =
    let p : ProgramEntries = c.args.program.now in
    let before : Graph = g.A.Adjacency.plain c.args.old.now in
    let after : Graph = g.A.Adjacency.plain c.args.new.now in
    record {
      sides = record {
        old = before_at p before (c.args.iteration - 1) c.deref-2.result.now
            (c.deref-2.ensures.value ∙ c.in_ok-was-2.ensures) c.requires.safe c.requires.old;
        new = before_at p after (c.args.iteration - 1) c.deref-3.result.now
            (c.deref-3.ensures.value ∙ c.in_ok-now.ensures) c.requires.safe c.requires.new;
        grown = c.requires.grown;
      };
    }
