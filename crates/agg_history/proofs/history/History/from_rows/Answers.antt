use Rattle.std.proofs.Common.{◌≡◌, ◌<◌, ◌≤◌, ◌+◌, ◌++◌, ◌∷◌, [], ℕ, List, length, map, refl, sym}
use Rattle.std.proofs.Common.{ap, ◌∙◌, None, arith}
use Rattle.std.specs.List.{sum_by, range_with_len}
use Rattle.std.proofs.lemmas.List.FromFn.{length-map-range_with_len, map-range_with_len_more}
use Rattle.std.proofs.lemmas.List.Elements.{All-same, All-map, All-from_get_or}
use Rattle.std.proofs.lemmas.List.Sums.{sum_by_push}
use Rattle.bolt_base.specs.Keep.{Entry, Row, column, stored}
use Rattle.bolt_base.specs.RowTable.{RowTable, entry_at}
use Rattle.bolt_base.proofs.RowColumns.{column_at}
use Rattle.agg_history.specs.Entries.{Entries, entry_in}
use Rattle.agg_history.specs.Pruned.{Pruned, pruned, rows_from}
use Rattle.agg_history.proofs.PrunedLemmas.{stands_for_rows}
use Rattle.agg_history.proofs.MakeLemmas.{track_in, track_cells, track_short, first_wide}
use Rattle.agg_history.proofs.MakeLemmas.{table_made}
use Rattle.agg_history.proofs.history.History.from_rows.Goals as goal

pub push_vertex-requires-clause-room : goal.push_vertex-requires-clause-room
push_vertex-requires-clause-room c =
    let e = ap (λ (x : Entries). length x.all) c.loop-v.invariant.first in
    omega (arith, e, length-map-range_with_len (entry_at c.args.rows.rows 0) 0 c.loop-v.v)

pub loop-v-preserved : goal.loop-v-preserved
loop-v-preserved c =
    let t : RowTable = c.args.rows in
    let rows : List Row = t.rows in
    let v = c.loop-v.v in
    let lanes = c.lanes-lanes.result in
    let some : 0 < length rows = omega (arith, c.requires) in
    let small : length rows ≤ 65 = c.vertices-vertices.ensures.shape.few in
    let entries = c.in_ok-fill_column.ensures
    ∙ ap (λ n. record { lanes = n; all = column rows v }) (sym c.lanes-lanes.ensures.lanes) in
    let all = ap (λ (e : Entries). e.all) entries in
    let track : ℕ → List Entry = track_in c.args.vertical rows in
    let cells : ℕ → Entries = track_cells lanes c.args.vertical rows in
    let kept : c.in_ok-kept.field-0 ≡ length (track v) = c.in_ok-kept.ensures.kept
    ∙ ap (λ es. length (stored c.args.vertical es)) all in
    record {
      first = c.in_ok-kept.ensures.first
          ∙ (λ i. record (c.loop-v.invariant.first i)
          { all = (c.loop-v.invariant.first i).all ++ entry_in (all i) 0 ∷ [] })
          ∙ ap (λ e. record
          { lanes = lanes; all = map (entry_at rows 0) (range_with_len 0 v) ++ e ∷ [] })
          (column_at rows v 0 some)
          ∙ ap (λ es. record { lanes = lanes; all = es })
          (sym (map-range_with_len_more (entry_at rows 0) 0 v v (omega arith)));
      tracks = c.in_ok-kept.ensures.tracks
          ∙ (λ i. c.loop-v.invariant.tracks i
          ++ record { lanes = (entries i).lanes; all = stored c.args.vertical (all i) } ∷ [])
          ∙ sym (map-range_with_len_more cells 0 v v (omega arith));
      kept = ap (λ n. n + c.in_ok-kept.field-0) c.loop-v.invariant.kept
          ∙ ap (λ n. sum_by (λ t. length t) (map track (range_with_len 0 v)) + n) kept
          ∙ sym (sum_by_push (λ (t : List Entry). length t) (map track (range_with_len 0 v))
          (track v)) ∙ ap (sum_by (λ t. length t))
          (sym (map-range_with_len_more track 0 v v (omega arith)));
      few = omega (
        arith,
        c.loop-v.invariant.few,
        kept,
        track_short c.args.vertical rows v some,
        small,
      );
      lanes = ap (λ (e : Entries). e.lanes) entries;
    }

pub invariant_of-result : goal.invariant_of-result
invariant_of-result c =
    let t : RowTable = c.args.rows in
    let shape = c.vertices-vertices.ensures.shape in
    let n = c.vertices-vertices.result in
    let same : n ≡ t.vertices = c.vertices-vertices.ensures.vertices in
    let lanes = c.lanes-lanes.result in
    let vertical = c.args.vertical in
    let some : 0 < length t.rows = omega (arith, c.requires) in
    let small : length t.rows ≤ 65 = shape.few in
    let end : c.loop-v.v ≡ n = omega arith in
    let first = ap (λ (e : Entries). e.all) c.loop-v.invariant.first in
    let tracks = c.loop-v.invariant.tracks in
    let cells : ℕ → Entries = track_cells lanes vertical t.rows in
    let wide = first_wide lanes n c.loop-v.v vertical t c.loop-v.first.all c.loop-v.tracks.items
    shape.full some same end first tracks in
    let is = table_made lanes n c.loop-v.v vertical t c.loop-v.first.all c.loop-v.tracks.items
    shape.full some same end first tracks in
    let stands = stands_for_rows vertical t.rows c.args.cut t.vertices c.requires shape.full in
    record {
      some = c.lanes-lanes.ensures.some;
      narrow = c.lanes-lanes.ensures.narrow;
      short = omega (arith, c.requires, small);
      firsts = omega (
        arith,
        ap length first,
        length-map-range_with_len (entry_at t.rows 0) 0 c.loop-v.v,
      );
      tracks = omega (arith, ap length tracks, length-map-range_with_len cells 0 c.loop-v.v);
      first_lanes = ap (λ (e : Entries). e.lanes) c.loop-v.invariant.first;
      track_lanes = All-same (λ (e : Entries). e.lanes ≡ lanes) c.loop-v.tracks.items _ tracks
          (All-map (λ (e : Entries). e.lanes ≡ lanes) cells (range_with_len 0 c.loop-v.v)
          (All-from_get_or (λ (v : ℕ). (cells v).lanes ≡ lanes) (range_with_len 0 c.loop-v.v) 0
          (λ k h. refl)));
      kept = c.loop-v.invariant.kept
          ∙ ap (λ m. sum_by (λ t. length t) (map (track_in vertical t.rows) (range_with_len 0 m)))
          (end ∙ sym wide)
          ∙ ap (λ (p : Pruned). sum_by (λ t. length t) p.tracks) (sym is);
      lean = ap (λ (p : Pruned). pruned vertical (rows_from c.args.cut p)) is
          ∙ ap (pruned vertical) stands ∙ sym is;
      draft = tt;
    }

pub returns-clause-state : goal.returns-clause-state
returns-clause-state c =
    let t : RowTable = c.args.rows in
    let shape = c.vertices-vertices.ensures.shape in
    let n = c.vertices-vertices.result in
    let some : 0 < length t.rows = omega (arith, c.requires) in
    let end : c.loop-v.v ≡ n = omega arith in
    let first = ap (λ (e : Entries). e.all) c.loop-v.invariant.first in
    let is = table_made c.lanes-lanes.result n c.loop-v.v c.args.vertical t c.loop-v.first.all
    c.loop-v.tracks.items shape.full some c.vertices-vertices.ensures.vertices end first
    c.loop-v.invariant.tracks in
    λ i. record {
      vertical = c.args.vertical;
      cut = c.args.cut;
      lanes = c.lanes-lanes.ensures.lanes i;
      now = is i;
      next = None;
    }

pub returns-clause-rows : goal.returns-clause-rows
returns-clause-rows c =
    let t : RowTable = c.args.rows in
    let shape = c.vertices-vertices.ensures.shape in
    let n = c.vertices-vertices.result in
    let some : 0 < length t.rows = omega (arith, c.requires) in
    let end : c.loop-v.v ≡ n = omega arith in
    let first = ap (λ (e : Entries). e.all) c.loop-v.invariant.first in
    let is = table_made c.lanes-lanes.result n c.loop-v.v c.args.vertical t c.loop-v.first.all
    c.loop-v.tracks.items shape.full some c.vertices-vertices.ensures.vertices end first
    c.loop-v.invariant.tracks in
    ap (rows_from c.args.cut) is
    ∙ stands_for_rows c.args.vertical t.rows c.args.cut t.vertices c.requires shape.full
