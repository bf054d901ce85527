use Rattle.std.proofs.Common.{◌≡◌, ◌∙◌, ◌+◌, ◌<◌, ◌++◌, ◌∷◌, [], ℕ, suc, sym, ap, length, take}
use Rattle.std.proofs.Common.{arith}
use Rattle.std.proofs.Math.Seq.{take-suc}
use Rattle.std.proofs.lemmas.List.{take_all}
use Rattle.run_model.proofs.RowLemmas.{values_whole}
use Rattle.run_model.specs.Rows.{answer}
use Rattle.engine_runs.proofs.answers.answer_of.Goals as goal

pub value-requires : goal.value-requires
value-requires c =
    let e = c.args.engine.now in
    let whole = (values_whole e.program e.now e.program.rounds).each_vertex in
    record { vertex = omega (arith, whole, c.vertices-v-end.ensures, c.loop-v-test.true) }

pub loop-v-preserved : goal.loop-v-preserved
loop-v-preserved c =
    let e = c.args.engine.now in
    let all = answer e.program e.now in
    let v = c.loop-v.v in
    let whole = (values_whole e.program e.now e.program.rounds).each_vertex in
    let inside : v < length all =
    omega (arith, whole, c.vertices-v-end.ensures, c.loop-v-test.true) in
    c.in_ok-push.ensures.ok
    ∙ (λ i. c.loop-v.invariant i ++ c.value.ensures.value i ∷ [])
    ∙ sym (take-suc all v [] inside)
    ∙ ap (λ (n : ℕ). take n all) (let one : suc v ≡ v + 1 = omega arith in one)

pub returns : goal.returns
returns c =
    let e = c.args.engine.now in
    let all = answer e.program e.now in
    let whole = (values_whole e.program e.now e.program.rounds).each_vertex in
    c.loop-v.invariant
    ∙ take_all c.loop-v.v all
    (omega (arith, whole, c.vertices-v-end.ensures, c.loop-v-test.false))
