use Rattle.std.proofs.Common.{rules, ◌≡◌, ℕ, ℤ, pos, List, [], length, get_or, replicate}
use Rattle.std.proofs.Common.{sym, ap, ◌∙◌, subst, arith, FitsSigned, w64, to_z, of_z}
use Rattle.std.proofs.lemmas.Int.{to_z-of_z}
use Rattle.std.proofs.lemmas.List.{get_or_read}
use Rattle.bolt_base.specs.Change.{attr_at}
use Rattle.bolt_base.specs.Graph.{Graph, outdeg}
use Rattle.bolt_base.specs.declared.edge.Edge.{Edge}
use Rattle.vertex_expr.specs.Meaning.{ev}
use Rattle.vertex_expr.specs.declared.program.ProgramEntries.{ProgramEntries}
use Rattle.range_check.specs.Laws.{tree_at}
use Rattle.run_model.specs.Program.{lanes, params, by_lane, zeros}
use Rattle.run_model.specs.Rows.{at, contribute_env}
use Rattle.run_model.specs.Evaluable.{AreEvaluable}
use Rattle.run_model.proofs.GivenLemmas.{degrees_long, degree_at}
use Rattle.run_model.proofs.given.contributed.Goals as goal

-- what the code reads is what the definition reads
env_is : (p : ProgramEntries) (g : Graph) (e : Edge) (vals : List (List ℤ)) (val zs : List ℤ)
    (d : ℕ) (w a : ℤ)
    → val ≡ at vals e.src → zs ≡ zeros p → d ≡ outdeg g e.src → w ≡ e.weight → a ≡ attr_at g e.src
    → record { val = val; agg = zs; old = zs; outdeg = d; weight = w; attr = a; id = e.src }
    ≡ contribute_env p g vals e
env_is p g e vals val zs d w a q r s t u = λ j. record {
  val = q j;
  agg = r j;
  old = r j;
  outdeg = s j;
  weight = t j;
  attr = u j;
  id = e.src;
}

pub bounds-degrees-u : goal.bounds-degrees-u
bounds-degrees-u c = let n = degrees_long c.args.graph.now c.args.degrees.now c.requires.degrees in
    let s = c.requires.source in omega arith

pub evaluated-requires : goal.evaluated-requires
evaluated-requires c =
    let p : ProgramEntries = c.args.program.now in
    let g : Graph = c.args.graph.now in
    let e : Edge = c.args.e in
    let len : c.len.result ≡ lanes p = c.len.ensures
    ∙ ap (λ (x : ProgramEntries). length x.ranges) c.entries-entries.ensures.entries in
    let weight : FitsSigned w64 e.weight = search rules in
    let attr : FitsSigned w64 (get_or c.attrs.result.now e.src (pos 0)) = search rules in
    let source = c.requires.source in
    let whole = c.requires.vals in
    let same = env_is p g e c.args.vals.now c.index-vals-u.result c.zeros-zeros.result
    (get_or c.args.degrees.now e.src 0) (to_z w64 (of_z w64 e.weight))
    (to_z w64 (of_z w64 (get_or c.attrs.result.now e.src (pos 0))))
    (get_or_read c.args.vals.now e.src c.index-vals-u.result (omega arith) c.index-vals-u.is [])
    (c.zeros-zeros.ensures ∙ ap (λ n. replicate n (pos 0)) len)
    (degree_at g c.args.degrees.now e.src c.requires.degrees c.requires.source)
    (to_z-of_z w64 e.weight weight)
    (to_z-of_z w64 _ attr ∙ ap (λ xs. get_or xs e.src (pos 0)) c.attrs.ensures.attrs) in
    record {
      evaluable = subst (λ n. AreEvaluable p n c.entries-entries.result.now.contribute) (sym same)
          (subst (λ (x : ProgramEntries). AreEvaluable p (contribute_env p g c.args.vals.now e)
          x.contribute) (sym c.entries-entries.ensures.entries) c.requires.lanes);
    }

pub returns : goal.returns
returns c =
    let p : ProgramEntries = c.args.program.now in
    let g : Graph = c.args.graph.now in
    let e : Edge = c.args.e in
    let len : c.len.result ≡ lanes p = c.len.ensures
    ∙ ap (λ (x : ProgramEntries). length x.ranges) c.entries-entries.ensures.entries in
    let weight : FitsSigned w64 e.weight = search rules in
    let attr : FitsSigned w64 (get_or c.attrs.result.now e.src (pos 0)) = search rules in
    let source = c.requires.source in
    let whole = c.requires.vals in
    let same = env_is p g e c.args.vals.now c.index-vals-u.result c.zeros-zeros.result
    (get_or c.args.degrees.now e.src 0) (to_z w64 (of_z w64 e.weight))
    (to_z w64 (of_z w64 (get_or c.attrs.result.now e.src (pos 0))))
    (get_or_read c.args.vals.now e.src c.index-vals-u.result (omega arith) c.index-vals-u.is [])
    (c.zeros-zeros.ensures ∙ ap (λ n. replicate n (pos 0)) len)
    (degree_at g c.args.degrees.now e.src c.requires.degrees c.requires.source)
    (to_z-of_z w64 e.weight weight)
    (to_z-of_z w64 _ attr ∙ ap (λ xs. get_or xs e.src (pos 0)) c.attrs.ensures.attrs) in
    record {
      numbers = c.evaluated.ensures.numbers
          ∙ (λ j. by_lane p (λ l. ev (params p) (same j)
          (tree_at (ap (λ (x : ProgramEntries). x.contribute) c.entries-entries.ensures.entries
          j) l)));
    }
