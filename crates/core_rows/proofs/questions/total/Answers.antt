use Rattle.std.proofs.Common.{rules, ◌≡◌, ◌∙◌, ◌+◌, ◌<◌, ◌≤◌, ◌^◌, ℤ, FitsSigned, w64, sym, subst}
use Rattle.std.proofs.Common.{length, get_or, [], List, ap, arith}
use Rattle.std.proofs.lemmas.Int.{to_z-of_z}
use Rattle.std.proofs.lemmas.List.{get_or_read}
use Rattle.run_model.specs.Program.{number}
use Rattle.run_model.proofs.LaneSums.{IsSumOf, sum_grows, sum_is_exact, lane_total_grows}
use Rattle.core_rows.proofs.questions.total.Goals as goal

pub loop-value-preserved : goal.loop-value-preserved
loop-value-preserved c =
    let values = c.args.values.now in
    let i = c.loop-value.value-index in
    let x = c.from-total.result in
    let inside : i < length values = c.loop-value-test.true in
    let most = c.requires.few in
    let few : i + 1 ≤ 2 ^ 32 = omega arith in
    let narrow : FitsSigned w64 x = search rules in
    let item = get_or_read values i c.value-item.result inside c.value-item.is [] in
    let got : FitsSigned w64 c.get.result = search rules in
    let read : x ≡ number (get_or values i []) c.args.lane = c.from-total.ensures
    ∙ to_z-of_z w64 c.get.result got ∙ c.get.ensures
    ∙ ap (λ (xs : List ℤ). number xs c.args.lane) item in
    let exact = sum_is_exact i _ x few c.loop-value.invariant.bound narrow in
    record {
      sum = exact
          ∙ lane_total_grows values c.args.lane i _ x inside c.loop-value.invariant.sum read;
      bound = subst (λ (s : ℤ). IsSumOf (i + 1) s) (sym exact)
          (sum_grows i _ x c.loop-value.invariant.bound narrow);
    }
