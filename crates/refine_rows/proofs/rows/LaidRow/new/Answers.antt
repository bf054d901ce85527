use Rattle.std.proofs.Common.{◌≡◌, length, ap, sym, ◌∙◌, arith}
use Rattle.bolt_base.specs.Graph.{Graph}
use Rattle.vertex_expr.specs.declared.program.ProgramEntries.{ProgramEntries}
use Rattle.run_model.specs.Program.{lanes}
use Rattle.refine_rows.proofs.ReadLemmas.{new_long, new_row, news_put}
use Rattle.refine_rows.proofs.rows.LaidRow.new.Goals as goal

pub invariant_of-result : goal.invariant_of-result
invariant_of-result g c =
    let p : ProgramEntries = c.args.program.now in
    let was : Graph = g.O.OldGraph.graph in
    let now : Graph = g.A.Adjacency.plain c.args.graph.now in
    let laid = c.requires.laid in
    let len : c.len-lanes.result ≡ lanes p = c.len-lanes.ensures
    ∙ ap (λ (x : ProgramEntries). length x.ranges) c.entries.ensures.entries in
    let within = c.entries.ensures.writable.lanes in
    let least = within.least in
    let most = within.most in
    let cuts = laid.belongs.cut in
    let low = c.requires.iteration in
    record {
      fits = record {
        some = omega arith;
        narrow = omega arith;
        wide = len ∙ sym (laid.belongs.lanes ∙ laid.stands.lanes);
        low = omega arith;
        belongs = laid.belongs;
        new = λ v past there. news_put p was now c.args.history.now c.args.overlay.now
            c.requires.over laid c.args.iteration c.requires.iteration c.requires.refined v past
            there;
        each = λ v there. new_long p was now c.args.history.now c.args.overlay.now c.requires.over
            laid c.args.iteration c.requires.iteration c.requires.refined v there ∙ sym len;
      };
    }

pub returns : goal.returns
returns g c = new_row c.args.program.now g.O.OldGraph.graph (g.A.Adjacency.plain c.args.graph.now)
    c.args.history.now c.args.overlay.now c.requires.over c.requires.laid c.args.iteration
    c.requires.iteration c.requires.refined
