use Rattle.std.proofs.Common.{◌≡◌, sym, ap, ◌∙◌, slice_get, w64}
use Rattle.std.proofs.lemmas.Int.{to_z-of_z}
use Rattle.vertex_expr.proofs.SampleLemmas.{damped_evaluable, at_place}
use Rattle.vertex_expr.specs.Samples.{damped}
use Rattle.vertex_expr.specs.Node.{tree_of}
use Rattle.vertex_expr.proofs.tests.rank_of.Goals as goal

pub eval-requires : goal.eval-requires
eval-requires c =
    let entries = c.entries.ensures.entries ∙ c.requires.rank in
    let tree : tree_of c.at.result.now
    ≡ damped = sym (at_place _ _
    (sym (ap (λ p. slice_get p.apply 0) entries) ∙ c.at.ensures.tree)) in
    record {
      safe = rw (
        c.requires.rank,
        tree,
        c.lane_of.ensures.lanes,
        to_z-of_z w64 c.args.agg
            c.ranges.agg,
        c.zeros.ensures,
        c.zeros-2.ensures,
      )
          (damped_evaluable _ c.requires.low c.requires.high);
    }
