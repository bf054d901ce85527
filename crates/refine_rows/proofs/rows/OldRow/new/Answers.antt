use Rattle.std.proofs.Common.{◌≡◌, length, ap, sym, ◌∙◌, arith}
use Rattle.bolt_base.specs.Graph.{Graph}
use Rattle.vertex_expr.specs.declared.program.ProgramEntries.{ProgramEntries}
use Rattle.run_model.specs.Program.{lanes}
use Rattle.refine_rows.proofs.ReadLemmas.{old_long, old_row}
use Rattle.refine_rows.proofs.rows.OldRow.new.Goals as goal

pub invariant_of-result : goal.invariant_of-result
invariant_of-result g c =
    let p : ProgramEntries = c.args.program.now in
    let was : Graph = g.O.OldGraph.graph in
    let len : c.len-lanes.result ≡ lanes p = c.len-lanes.ensures
    ∙ ap (λ (x : ProgramEntries). length x.ranges) c.entries.ensures.entries in
    let within = c.entries.ensures.writable.lanes in
    let least = within.least in
    let most = within.most in
    record {
      fits = record {
        some = omega arith;
        narrow = omega arith;
        wide = len ∙ sym c.requires.stands.lanes;
        low = c.requires.iteration;
        each = λ v there. old_long p was c.args.history.now c.requires.stands c.args.iteration
            c.requires.iteration v there ∙ sym len;
      };
    }

pub returns : goal.returns
returns g c = old_row c.args.program.now g.O.OldGraph.graph c.args.history.now c.requires.stands
    c.args.iteration c.requires.iteration
