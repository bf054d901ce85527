use Rattle.std.proofs.Common.{rules, arith, ◌≡◌, ◌∙◌, ℕ, ℤ, ◌+◌, ◌-◌, ◌<◌, ◌≤◌, length, drop}
use Rattle.std.proofs.Common.{get_or, sym, ap, subst, FitsSigned, w64}
use Rattle.std.proofs.lemmas.Int.{ints, to_z-of_z}
use Rattle.vertex_expr.specs.Writable.{IsRange}
use Rattle.std.proofs.lemmas.List.{get_or_read}
use Rattle.bolt_base.specs.Graph.{IsBetween}
use Rattle.vertex_expr.specs.declared.program.ProgramEntries.{ProgramEntries}
use Rattle.run_model.specs.Evaluable.{AreEvaluable}
use Rattle.run_model.specs.Program.{by_lane}
use Rattle.edge_map.specs.Walks.{from_source}
use Rattle.edge_map.specs.Additions.{no_source, source_at, source_env, was_env, now_env, given}
use Rattle.edge_map.specs.Plans.{AreSides}
use Rattle.edge_map.specs.declared.tasks.Source.{Source}
use Rattle.edge_map.specs.declared.tasks.Tasks.{Tasks}
use Rattle.edge_map.proofs.Prepared.{from_zero, from_later, pushed}
use Rattle.edge_map.proofs.prepare.sides_of.Goals as goal

pub loop-k-init : goal.loop-k-init
loop-k-init c = (
  ap length c.in_ok-sides.ensures.items,
  λ k d h. absurd (omega arith),
  omega arith,
  from_zero c.as_slice-added.result.now,
)

least_between : (lo hi : ℤ) → IsRange lo hi → IsBetween lo hi lo
least_between lo hi f = let e = f.order in (omega (arith, ints), f.order)

pub side-was-requires : goal.side-was-requires
side-was-requires c =
    let p : ProgramEntries = c.args.program.now in
    let t : Tasks = c.args.tasks.now in
    let k : ℕ = c.loop-k.k in
    let x : Source = c.index-sources-k.result in
    let is : x ≡ source_at t k = get_or_read c.as_slice-sources.result.now k x c.loop-k-test.true
    c.index-sources-k.is no_source
    ∙ ap (λ xs. get_or xs k no_source) c.as_slice-sources.ensures in
    let small : k < length t.sources = subst (λ xs. k < length xs) c.as_slice-sources.ensures
    c.loop-k-test.true in
    let attr : FitsSigned w64 x.old_attr = search rules in
    let env = (λ j. source_env p x.old x.old_degree p.limits.weight_lo
    (to_z-of_z w64 x.old_attr attr j) x.vertex) ∙ (λ j. was_env p (is j) p.limits.weight_lo) in
    record {
      evaluable = λ some. subst (λ n. AreEvaluable p n p.contribute) (sym env)
          (c.requires.fit.was k p.limits.weight_lo small
          (subst (λ (y : Source). 1 ≤ y.old_degree) is some)
          (least_between p.limits.weight_lo p.limits.weight_hi
          c.requires.safe.writable.limits.weight));
    }

pub side-now-requires : goal.side-now-requires
side-now-requires c =
    let p : ProgramEntries = c.args.program.now in
    let t : Tasks = c.args.tasks.now in
    let k : ℕ = c.loop-k.k in
    let x : Source = c.index-sources-k.result in
    let is : x ≡ source_at t k = get_or_read c.as_slice-sources.result.now k x c.loop-k-test.true
    c.index-sources-k.is no_source
    ∙ ap (λ xs. get_or xs k no_source) c.as_slice-sources.ensures in
    let small : k < length t.sources = subst (λ xs. k < length xs) c.as_slice-sources.ensures
    c.loop-k-test.true in
    let attr : FitsSigned w64 x.new_attr = search rules in
    let env = (λ j. source_env p x.new x.new_degree p.limits.weight_lo
    (to_z-of_z w64 x.new_attr attr j) x.vertex) ∙ (λ j. now_env p (is j) p.limits.weight_lo) in
    record {
      evaluable = λ some. subst (λ n. AreEvaluable p n p.contribute) (sym env)
          (c.requires.fit.now k p.limits.weight_lo small
          (subst (λ (y : Source). 1 ≤ y.new_degree) is some)
          (least_between p.limits.weight_lo p.limits.weight_hi
          c.requires.safe.writable.limits.weight));
    }

pub loop-k-preserved : goal.loop-k-preserved
loop-k-preserved c =
    let p : ProgramEntries = c.args.program.now in
    let t : Tasks = c.args.tasks.now in
    let k : ℕ = c.loop-k.k in
    let x : Source = c.index-sources-k.result in
    let is : x ≡ source_at t k = get_or_read c.as_slice-sources.result.now k x c.loop-k-test.true
    c.index-sources-k.is no_source
    ∙ ap (λ xs. get_or xs k no_source) c.as_slice-sources.ensures in
    let attr_old : FitsSigned w64 x.old_attr = search rules in
    let attr_new : FitsSigned w64 x.new_attr = search rules in
    let was_env_is = (λ j. source_env p x.old x.old_degree p.limits.weight_lo
    (to_z-of_z w64 x.old_attr attr_old j) x.vertex)
    ∙ (λ j. was_env p (is j) p.limits.weight_lo) in
    let now_env_is = (λ j. source_env p x.new x.new_degree p.limits.weight_lo
    (to_z-of_z w64 x.new_attr attr_new j) x.vertex)
    ∙ (λ j. now_env p (is j) p.limits.weight_lo) in
    let rest : drop c.skip-next.result c.as_slice-added.result.now
    ≡ from_source k c.as_slice-added.result.now =
    c.skip-next.ensures.rest ∙ ap (from_source k) c.loop-k.invariant.3
    ∙ from_later (k - 1) k (omega arith) c.as_slice-added.result.now in
    let one : AreSides p t k (record
    { was = c.side-was.result; now = c.side-now.result; first_added = c.skip-next.result }) =
    record {
      was_wide = c.side-was.ensures.wide;
      now_wide = c.side-now.ensures.wide;
      was = λ none some. c.side-was.ensures.numbers (c.requires.by_edge ∙ none)
          (subst (λ (y : Source). 1 ≤ y.old_degree) (sym is) some)
          ∙ (λ j. by_lane p (given p (was_env_is j)));
      now = λ none some. c.side-now.ensures.numbers (c.requires.by_edge ∙ none)
          (subst (λ (y : Source). 1 ≤ y.new_degree) (sym is) some)
          ∙ (λ j. by_lane p (given p (now_env_is j)));
      added = subst (λ (xs : _). drop c.skip-next.result xs ≡ from_source k xs)
          c.as_slice-added.ensures rest;
    } in
    let same : k + 1 - 1 ≡ k = omega arith in (
      search rules,
      pushed (AreSides p t) c.loop-k.sides.items c.push.new.self.items
          (record {
            was = c.side-was.result;
            now = c.side-now.result;
            first_added =
                c.skip-next.result;
          }) k c.loop-k.invariant.0 c.loop-k.invariant.1 one
          c.in_ok-push.ensures.items,
      c.skip-next.ensures.inside,
      rest ∙ ap (λ n. from_source n c.as_slice-added.result.now) (sym same),
    )
