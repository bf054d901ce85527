use Rattle.std.proofs.Common.{rules, ◌≡◌, ◌∙◌, ◌+◌, ◌<◌, ◌≤◌, ◌^◌, ℤ, FitsSigned, w64, sym, subst}
use Rattle.std.proofs.Common.{length, get_or, [], List, ap}
use Rattle.run_model.specs.Program.{number}
use Rattle.run_model.proofs.LaneSums.{IsSumOf, sum_grows, sum_is_exact, lane_total_grows}
use Rattle.report_text.proofs.values.total.Goals as goal

pub loop-v-preserved : goal.loop-v-preserved
loop-v-preserved g c =
    let values = g.V.ValueRow.values c.args.row.now in
    let i = c.loop-v.v in
    let x = c.from-total.result in
    let inside : i < length values = search rules in
    let few : i + 1 ≤ 2 ^ 32 = search rules in
    let narrow : FitsSigned w64 x = search rules in
    let read : x ≡ number (get_or values i []) c.args.lane =
    search (rules, ap (λ (xs : List ℤ). number xs c.args.lane) c.value.ensures.value) in
    let exact = sum_is_exact i _ x few c.loop-v.invariant.bound narrow in
    record {
      sum = exact
          ∙ lane_total_grows values c.args.lane i _ x inside c.loop-v.invariant.sum read;
      bound = subst (λ (s : ℤ). IsSumOf (i + 1) s) (sym exact)
          (sum_grows i _ x c.loop-v.invariant.bound narrow);
    }
