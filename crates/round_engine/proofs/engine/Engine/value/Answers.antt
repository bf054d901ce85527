use Rattle.std.proofs.Common.{◌≡◌, ◌∙◌, ◌<◌, ℕ, List, [], ℤ, ap, length, get_or, FitsSigned}
use Rattle.std.proofs.Common.{w64, arith, rules}
use Rattle.std.proofs.lemmas.Int.{to_z-of_z}
use Rattle.std.proofs.lemmas.List.{get_or_read}
use Rattle.bolt_base.specs.Graph.{Graph, vertices}
use Rattle.vertex_expr.specs.declared.program.ProgramEntries.{ProgramEntries}
use Rattle.run_model.specs.Program.{number}
use Rattle.run_model.specs.Rows.{Lists, answer, at, val_at}
use Rattle.run_model.proofs.RowLemmas.{values_whole}
use Rattle.refine_rows.proofs.ReadLemmas.{value_long}
use Rattle.round_engine.specs.State.{EngineState}
use Rattle.round_engine.proofs.EngineLemmas.{answer_none, answer_some, count, value_is}
use Rattle.round_engine.proofs.engine.Engine.value.Goals as goal

answer_long : (p : ProgramEntries) (g : Graph) (xs : Lists) → xs ≡ answer p g
    → length xs ≡ vertices g
answer_long p g xs is = ap length is ∙ (values_whole p g p.rounds).each_vertex

answer_at : (p : ProgramEntries) (g : Graph) (xs : Lists) (v : ℕ) (x : List ℤ) → xs ≡ answer p g
    → v < vertices g → x ≡ get_or xs v x → x ≡ at (answer p g) v
answer_at p g xs v x is there read =
    let long = answer_long p g xs is in
    get_or_read xs v x (omega arith) read [] ∙ ap (λ ys. get_or ys v []) is

pub bounds-as_slice-v : goal.bounds-as_slice-v
bounds-as_slice-v c =
    let s = c.args.self.now in
    let is = c.as_slice.ensures ∙ answer_some c.self.inside s c.self.view_is c.self.invariant
    c.in-Some.answer c.in-Some.is in
    let long = answer_long s.program s.now c.as_slice.result.now is in
    let there = c.requires.vertex in
    omega arith

pub get-requires : goal.get-requires
get-requires c =
    let s = c.args.self.now in
    let is = c.as_slice.ensures ∙ answer_some c.self.inside s c.self.view_is c.self.invariant
    c.in-Some.answer c.in-Some.is in
    let here = answer_at s.program s.now c.as_slice.result.now c.args.v c.index-as_slice-v.result is
    c.requires.vertex c.index-as_slice-v.is in
    let wide = ap length here ∙ value_long s.program s.now s.program.rounds c.args.v
    c.requires.vertex in
    let low = c.requires.lane in
    omega arith

pub val-requires-clause-vertex : goal.val-requires-clause-vertex
val-requires-clause-vertex c =
    let there = c.requires.vertex in
    let same = count c.self.inside c.args.self.now c.self.view_is c.self.invariant in
    omega arith

pub returns-in-Some : goal.returns-in-Some
returns-in-Some c =
    let fits : FitsSigned w64 c.get.result = search rules in
    let s = c.args.self.now in
    let is = c.as_slice.ensures ∙ answer_some c.self.inside s c.self.view_is c.self.invariant
    c.in-Some.answer c.in-Some.is in
    let here = answer_at s.program s.now c.as_slice.result.now c.args.v c.index-as_slice-v.result is
    c.requires.vertex c.index-as_slice-v.is in
    to_z-of_z w64 c.get.result fits ∙ c.get.ensures ∙ ap (λ xs. number xs c.args.lane) here

pub returns-in-None : goal.returns-in-None
returns-in-None c =
    let fits : FitsSigned w64 c.val.result = search rules in
    let s = c.args.self.now in
    let cut = answer_none c.self.inside s c.self.view_is c.self.invariant c.in-None.is in
    let same : c.self.inside.choice.cut ≡ s.choice.cut =
    ap (λ (x : EngineState). x.choice.cut) c.self.view_is in
    to_z-of_z w64 c.val.result fits ∙ c.val.ensures
    ∙ value_is c.self.inside s c.self.view_is c.self.invariant c.self.inside.choice.cut c.args.v
    c.args.lane (omega arith) c.requires.vertex
    ∙ ap (λ i. val_at s.program s.now i c.args.v c.args.lane) (same ∙ cut)
