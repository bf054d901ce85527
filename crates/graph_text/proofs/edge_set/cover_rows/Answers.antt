use Rattle.std.proofs.Common.{◌∙◌, List, false, ap}
use Rattle.graph_text.specs.declared.successors.Successors.{Successors}
use Rattle.graph_text.specs.EdgeIndex.{has, has_at, count_at}
use Rattle.graph_text.proofs.IndexLemmas.{row_value_more}
use Rattle.graph_text.proofs.edge_set.cover_rows.Goals as goal

pub rows-preserved : goal.rows-preserved
rows-preserved c = record {
  held =
      λ u v. ap (λ (rows : List Successors). has_at rows u v) c.in_ok-push.ensures.items
      ∙ row_value_more (λ (r : Successors). has r v) false c.rows.rows.items c.new.result
      (c.new.ensures.none v) u ∙ c.rows.invariant.held u v;
  counts =
      λ u. ap (λ (rows : List Successors). count_at rows u) c.in_ok-push.ensures.items
      ∙ row_value_more (λ (r : Successors). r.count) 0 c.rows.rows.items c.new.result
      c.new.ensures.count u ∙ c.rows.invariant.counts u;
}

pub returns-in_err-push-clause-held : goal.returns-in_err-push-clause-held
returns-in_err-push-clause-held c =
    λ u v. ap (λ (rows : List Successors). has_at rows u v) c.in_err-push.ensures.items
    ∙ c.rows.invariant.held u v

pub returns-in_err-push-clause-counts : goal.returns-in_err-push-clause-counts
returns-in_err-push-clause-counts c =
    λ u. ap (λ (rows : List Successors). count_at rows u) c.in_err-push.ensures.items
    ∙ c.rows.invariant.counts u
