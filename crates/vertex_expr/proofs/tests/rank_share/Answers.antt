use Rattle.std.proofs.Common.{◌≡◌, sym, ap, ◌∙◌, slice_get, w64}
use Rattle.std.proofs.lemmas.Int.{to_z-of_z}
use Rattle.vertex_expr.proofs.SampleLemmas.{share_evaluable, at_place}
use Rattle.vertex_expr.specs.Samples.{share}
use Rattle.vertex_expr.specs.Node.{tree_of}
use Rattle.vertex_expr.proofs.tests.rank_share.Goals as goal

pub eval-requires : goal.eval-requires
eval-requires c =
    let entries = c.entries.ensures.entries ∙ c.requires.rank in
    let tree : tree_of c.at.result.now
    ≡ share = sym (at_place _ _ (sym (ap (λ p. slice_get p.contribute 0) entries)
    ∙ c.at.ensures.tree)) in
    record {
      safe = rw (
        c.requires.rank,
        tree,
        c.lane_of.ensures.lanes,
        to_z-of_z w64 c.args.val
            c.ranges.val,
        c.zeros.ensures,
        c.zeros-2.ensures,
      )
          (share_evaluable _ _ c.requires.val_low c.requires.val_high c.requires.outdeg_low
          c.requires.outdeg_high);
    }
