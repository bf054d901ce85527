-- The values of the old graph and of the new one at an iteration, as rows.
use Rattle.run_model.specs.Refined.{laid_values, row_values}
use Rattle.run_model.specs.Rows.{Lists}
use Rattle.agg_history.specs.Pruned.{rows_of, vertices_of}
use Rattle.agg_history.specs.Puts.{put_at}
use Rattle.refine_rows.specs.declared.rows.LaidRow.{LaidRow}
use Rattle.refine_rows.specs.declared.rows.OldRow.{OldRow}

abbrev pub old_values : OldRow → Lists
old_values r = row_values (vertices_of r.history.now) (rows_of r.history.now) r.iteration

abbrev pub new_values : LaidRow → Lists
new_values r = laid_values r.overlay.now.vertices (put_at r.overlay.now.puts)
    (rows_of r.history.now) r.iteration
