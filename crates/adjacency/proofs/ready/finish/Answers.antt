use Rattle.adjacency.specs.Rows.{weights_of}
use Rattle.adjacency.specs.declared.ready.Ready.{Ready}
use Rattle.adjacency.proofs.FinishLemmas.{plan_finished}
use Rattle.adjacency.proofs.ready.finish.Goals as goal

pub returns : goal.returns
returns g c =
    let p = c.args.plan in
    let r : Ready = record {
      attrs = c.in_ok-attrs.attrs;
      extra = c.extra-extra.result;
      out =
          c.into_changes.result;
      into = c.into_changes-2.result;
      edges = c.args.plan.edges;
      net =
          record { edges = c.in_ok-net.field-0; attrs = c.in_ok-changed.field-0 };
    } in
    plan_finished p r (record {
      extra = c.extra-extra.ensures;
      put_attrs = c.in_ok-attrs.ensures.put;
      of_attrs = c.in_ok-attrs.ensures.inside;
      rows_out = c.into_changes.ensures.rows;
      of_out = c.into_changes.ensures.draft;
      rows_into = c.into_changes-2.ensures.rows;
      of_into = c.into_changes-2.ensures.draft;
      edges = λ _. c.args.plan.edges;
      net_edges = λ attrs. c.in_ok-net.ensures attrs p.attrs.now c.requires.even;
      net_attrs = λ out. c.in_ok-changed.ensures (weights_of out) (weights_of p.out.rows);
    })
