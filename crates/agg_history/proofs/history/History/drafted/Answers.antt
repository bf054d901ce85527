use Rattle.std.proofs.Common.{◌≡◌, ◌<◌, ◌≤◌, ◌+◌, ◌++◌, ◌∷◌, [], ℕ, length, get_or, map, take, sym}
use Rattle.std.proofs.Common.{ap, ◌∙◌, arith}
use Rattle.std.proofs.Math.Nat.{mul-le-mul_left}
use Rattle.std.specs.List.{sum_by}
use Rattle.std.proofs.lemmas.List.{take_all, map_more}
use Rattle.std.proofs.lemmas.List.Sums.{sum_by_more}
use Rattle.bolt_base.specs.Keep.{stored}
use Rattle.bolt_base.specs.RowTable.{entry_at}
use Rattle.bolt_base.proofs.RowColumns.{column_at}
use Rattle.agg_history.specs.Entries.{Entries, entry_in}
use Rattle.agg_history.specs.Pruned.{track_of, vertices_of}
use Rattle.agg_history.specs.Belongs.{laid_rows}
use Rattle.agg_history.specs.Drafted.{new_list}
use Rattle.agg_history.proofs.MakeLemmas.{track_in, track_short}
use Rattle.agg_history.proofs.DraftLemmas.{laid_count, kept_laid}
use Rattle.agg_history.proofs.HistoryIs.{cut_is, vertical_is, lean_is, sum_is, kept_few}
use Rattle.agg_history.proofs.history.History.drafted.Goals as goal

pub overflow_add-come : goal.overflow_add-come
overflow_add-come c =
    let laid = laid_rows c.args.overlay.now c.args.self.now in
    let v : ℕ = get_or c.touched-touched.result.now c.loop-k.k 0 in
    let kept = c.in_ok-come.ensures.length
    ∙ ap (λ (e : Entries). length (stored c.self.inside.vertical e.all))
    c.in_ok-fill_laid.ensures in
    let short = track_short c.self.inside.vertical laid v
    (omega (arith, laid_count c.args.overlay.now c.args.self.now)) in
    omega (
      arith,
      c.loop-k.invariant.come_few,
      kept,
      short,
      laid_count c.args.overlay.now c.args.self.now,
      cut_is c.self.inside c.args.self.now c.self.view_is c.self.invariant,
      c.self.invariant.short,
      c.touched-touched.ensures.few,
      c.vertices-vertices.ensures.all,
      c.vertices-vertices.type_inv,
    )

pub loop-k-preserved : goal.loop-k-preserved
loop-k-preserved c =
    let laid = laid_rows c.args.overlay.now c.args.self.now in
    let touched = c.touched-touched.result.now in
    let k = c.loop-k.k in
    let v : ℕ = get_or touched k 0 in
    let below : k < length touched = omega arith in
    let entries = c.in_ok-fill_laid.ensures in
    let vertical = vertical_is c.self.inside c.args.self.now c.self.view_is c.self.invariant in
    let kept : c.in_ok-come.field-0 ≡ length (track_in c.args.self.now.vertical laid v) =
    c.in_ok-come.ensures.length ∙ (λ i. length (stored (vertical i) (entries i).all)) in
    let short = track_short c.args.self.now.vertical laid v
    (omega (arith, laid_count c.args.overlay.now c.args.self.now)) in
    record {
      lists = c.in_ok-come.ensures.lists
          ∙ (λ i. c.loop-k.invariant.lists i
          ++ (v, record { lanes = (entries i).lanes; all = stored (vertical i) (entries i).all })
          ∷ [])
          ∙ sym (map_more (new_list c.args.overlay.now c.args.self.now) touched k 0 below);
      heads = c.in_ok-come.ensures.heads
          ∙ (λ i. record (c.loop-k.invariant.heads i)
          { all = (c.loop-k.invariant.heads i).all ++ entry_in (entries i).all 0 ∷ [] })
          ∙ ap (λ e. record {
            lanes = c.args.self.now.lanes;
            all = map (entry_at laid 0) (take k touched) ++ e ∷ [];
          })
          (column_at laid v 0 (omega (arith, laid_count c.args.overlay.now c.args.self.now)))
          ∙ ap (λ es. record { lanes = c.args.self.now.lanes; all = es })
          (sym (map_more (entry_at laid 0) touched k 0 below));
      come = ap (λ n. n + c.in_ok-come.field-0) c.loop-k.invariant.come
          ∙ ap (λ n. sum_by (λ u. length (track_in c.args.self.now.vertical laid u))
          (take k touched) + n) kept
          ∙ sym (sum_by_more
          (λ u. length (track_in c.args.self.now.vertical laid u)) touched k 0 below);
      gone = ap (λ n. n + c.old_length.result) c.loop-k.invariant.gone
          ∙ ap (λ n. sum_by (λ u. length (track_of c.args.self.now.now.tracks u))
          (take k touched) + n) c.old_length.ensures.length
          ∙ sym (sum_by_more
          (λ u. length (track_of c.args.self.now.now.tracks u)) touched k 0 below);
      come_few = omega (
        arith,
        c.loop-k.invariant.come_few,
        kept,
        short,
        laid_count c.args.overlay.now c.args.self.now,
        cut_is c.self.inside c.args.self.now c.self.view_is c.self.invariant,
        c.self.invariant.short,
      );
      gone_few = omega (arith, c.loop-k.invariant.gone_few, c.old_length.ensures.short);
      lanes = ap (λ (e : Entries). e.lanes) entries;
    }

pub overflow_add-result : goal.overflow_add-result
overflow_add-result c =
    let few = kept_few c.self.inside c.args.self.now c.self.view_is c.self.invariant in
    let cut = cut_is c.self.inside c.args.self.now c.self.view_is c.self.invariant in
    let short : c.args.self.now.cut ≤ 64 = omega (arith, c.self.invariant.short) in
    let most = mul-le-mul_left (vertices_of c.args.self.now) short in
    omega (
      arith,
      few,
      most,
      c.loop-k.invariant.come_few,
      c.touched-touched.ensures.few,
      c.vertices-vertices.ensures.all,
      c.vertices-vertices.ensures.more,
      c.vertices-vertices.type_inv,
      c.requires.belongs.vertices,
    )

pub overflow_sub-result : goal.overflow_sub-result
overflow_sub-result c =
    let laid = laid_rows c.args.overlay.now c.args.self.now in
    let touched = c.touched-touched.result.now in
    let all = take_all c.loop-k.k touched (omega arith) in
    let come = c.loop-k.invariant.come
    ∙ ap (sum_by (λ u. length (track_in c.args.self.now.vertical laid u))) all in
    let gone = c.loop-k.invariant.gone
    ∙ ap (sum_by (λ u. length (track_of c.args.self.now.now.tracks u))) all in
    let more : c.args.overlay.now.old_vertices ≤ c.args.overlay.now.vertices = omega
    (arith, c.vertices-vertices.ensures.all, c.vertices-vertices.ensures.more) in
    let sums = kept_laid c.args.overlay.now c.args.self.now c.requires.belongs c.requires.new more
    touched c.touched-touched.ensures.others
    (lean_is c.self.inside c.args.self.now c.self.view_is c.self.invariant)
    c.touched-touched.ensures.inside c.touched-touched.ensures.distinct in
    omega (
      arith,
      come,
      gone,
      sums,
      sum_is c.self.inside c.args.self.now c.self.view_is c.self.invariant,
    )

pub returns : goal.returns
returns c =
    let laid = laid_rows c.args.overlay.now c.args.self.now in
    let touched = c.touched-touched.result.now in
    let all = take_all c.loop-k.k touched (omega arith) in
    let come = c.loop-k.invariant.come
    ∙ ap (sum_by (λ u. length (track_in c.args.self.now.vertical laid u))) all in
    let gone = c.loop-k.invariant.gone
    ∙ ap (sum_by (λ u. length (track_of c.args.self.now.now.tracks u))) all in
    let more : c.args.overlay.now.old_vertices ≤ c.args.overlay.now.vertices = omega
    (arith, c.vertices-vertices.ensures.all, c.vertices-vertices.ensures.more) in
    let sums = kept_laid c.args.overlay.now c.args.self.now c.requires.belongs c.requires.new more
    touched c.touched-touched.ensures.others
    (lean_is c.self.inside c.args.self.now c.self.view_is c.self.invariant)
    c.touched-touched.ensures.inside c.touched-touched.ensures.distinct in
    record {
      touched = touched;
      inside = c.touched-touched.ensures.inside;
      distinct = c.touched-touched.ensures.distinct;
      others = c.touched-touched.ensures.others;
      more = more;
      vertices = c.vertices-vertices.ensures.all;
      lists = c.loop-k.invariant.lists ∙ ap (map (new_list c.args.overlay.now c.args.self.now)) all;
      heads = c.loop-k.invariant.heads
          ∙ ap (λ vs. record { lanes = c.args.self.now.lanes; all = map (entry_at laid 0) vs }) all;
      kept = omega (
        arith,
        come,
        gone,
        sums,
        sum_is c.self.inside c.args.self.now c.self.view_is c.self.invariant,
      );
    }
