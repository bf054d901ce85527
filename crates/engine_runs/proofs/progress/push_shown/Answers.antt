use Rattle.std.proofs.Common.{◌∙◌, sym}
use Rattle.run_model.proofs.RowLemmas.{values_whole}
use Rattle.engine_runs.proofs.progress.push_shown.Goals as goal

pub push_values-requires : goal.push_values-requires
push_values-requires c =
    let e = c.args.engine.now in
    record {
      vertices = c.vertices.ensures
          ∙ sym (values_whole e.program e.now e.program.rounds).each_vertex;
    }
