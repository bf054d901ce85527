use Rattle.std.proofs.Common.{◌∷◌, [], ap, ◌∙◌, arith, length, length-append, map}
use Rattle.std.proofs.lemmas.List.Elements.{All-push}
use Rattle.bolt_base.specs.RowsOf.{IsFlat, row_of}
use Rattle.bolt_base.specs.declared.rows.FlatRow.{FlatRow}
use Rattle.bolt_base.proofs.RowLemmas.{lanes_is, vertices_is, count_is, fresh_flat, rows_more}
use Rattle.bolt_base.proofs.rows.Rows.add_row.Goals as goal

pub invariant_of-self-2 : goal.invariant_of-self-2
invariant_of-self-2 c =
    let row : FlatRow = record {
      aggs = c.in_ok-numbers_of.field-0;
      vals = c.in_ok-numbers_of-2.field-0;
    } in
    let more = c.in_ok-push.ensures.items in
    record {
      some = c.self.invariant.some;
      narrow = c.self.invariant.narrow;
      few = omega (
        arith,
        ap length more,
        length-append c.self.inside.rows.items (row ∷ []),
        count_is c.self.inside c.args.self.now c.self.view_is,
        c.requires.few,
      );
      flat = rw more (All-push (IsFlat c.self.inside.lanes c.self.inside.vertices)
          c.self.inside.rows.items row c.self.invariant.flat
          (fresh_flat c.self.inside c.args.self.now c.self.view_is row c.args.aggs.now
          c.args.vals.now c.in_ok-numbers_of.ensures c.in_ok-numbers_of-2.ensures
          c.requires.aggs c.requires.vals c.requires.agg_lanes c.requires.val_lanes));
    }

pub returns-clause-ok : goal.returns-clause-ok
returns-clause-ok c =
    let row : FlatRow = record {
      aggs = c.in_ok-numbers_of.field-0;
      vals = c.in_ok-numbers_of-2.field-0;
    } in
    let rows = ap (map (row_of c.self.inside.lanes c.self.inside.vertices))
    c.in_ok-push.ensures.items
    ∙ rows_more c.self.inside c.args.self.now c.self.view_is row c.args.aggs.now c.args.vals.now
    c.in_ok-numbers_of.ensures c.in_ok-numbers_of-2.ensures c.requires.aggs c.requires.vals
    c.requires.agg_lanes c.requires.val_lanes in
    (λ i. record {
      vertices = vertices_is c.self.inside c.args.self.now c.self.view_is i;
      lanes = lanes_is c.self.inside c.args.self.now c.self.view_is i;
      rows = rows i;
    })
