-- What a batch of edits makes of a graph, however its rows are stored.
use Rattle.std.specs.Prelude.{◌≡◌, ℕ, ℤ, List, length, None}
use Rattle.std.specs.BTreeMap.{BTreeMap}
use Rattle.std.specs.FinMap as finite
use Rattle.swaps.specs.Swaps.{put_all, AreInside}
use Rattle.bolt_base.specs.Graph.{IsGood}
use Rattle.bolt_base.specs.Edits.{after, bad}
use Rattle.bolt_base.specs.declared.edge.Edit.{Edit}
use Rattle.bolt_base.specs.declared.limits.Limits.{Limits}
use Rattle.adjacency.specs.Row.{RowMap}
use Rattle.adjacency.specs.Rows.{AreMirrored, weights_of, full_of}
use Rattle.adjacency.specs.DraftedBy.{drafted_by, IsDraft}
use Rattle.adjacency.specs.DraftedAttrs.{full_attrs}
use Rattle.adjacency.specs.PlainOf.{plain_of}
use Rattle.adjacency.specs.ChangeOf.{IsNet}
use Rattle.adjacency.specs.declared.row_change.RowChange.{RowChange}
use Rattle.adjacency.specs.declared.ready.Ready.{Ready}

-- the attributes, with each new one in its place behind so many new vertices
abbrev pub ready_attrs : List ℤ → Ready → List ℤ
ready_attrs attrs r = put_all r.attrs.items (full_attrs attrs r.extra)

-- the rows and so many new ones, with each change made
abbrev pub changed_rows : List RowMap → ℕ → BTreeMap ℕ RowChange → List RowMap
changed_rows rows extra changes = drafted_by (full_of rows extra) (full_of rows extra)
    changes.entries

abbrev pub ready_out : List RowMap → Ready → List RowMap
ready_out out r = changed_rows out r.extra r.out

abbrev pub ready_into : List RowMap → Ready → List RowMap
ready_into into r = changed_rows into r.extra r.into

-- each new attribute has a place, and each changed row is there and has the noted degree
pub record HasPlaces (attrs : List ℤ) (out into : List RowMap) (r : Ready) : Type 0 where
  pub of_attrs : AreInside (length (full_attrs attrs r.extra)) r.attrs.items
  pub of_out : IsDraft (full_of out r.extra) r.out
  pub of_into : IsDraft (full_of into r.extra) r.into

-- no edit is bad, and the attributes and rows are those of the graph after the edits
pub record IsReady (l : Limits) (attrs : List ℤ) (out into : List RowMap) (edits : List Edit)
    (r : Ready) : Type 0 where
  pub fine : bad l (plain_of attrs out) edits ≡ None
  pub places : HasPlaces attrs out into r
  pub is : plain_of (ready_attrs attrs r) (ready_out out r) ≡ after (plain_of attrs out) edits
  pub count : r.edges ≡ finite.len (weights_of (ready_out out r))
  pub mirrored : AreMirrored (length (ready_attrs attrs r)) (ready_out out r) (ready_into into r)
  pub good : IsGood l (plain_of (ready_attrs attrs r) (ready_out out r))
  pub net : IsNet (plain_of attrs out) (plain_of (ready_attrs attrs r) (ready_out out r)) r.net
