use Rattle.std.proofs.Common.{◌≡◌, ◌+◌, ◌-◌, ◌<◌, ◌≤◌, ℕ, ℤ, List, [], ◌∷◌, ◌++◌, length, get_or}
use Rattle.std.proofs.Common.{set}
use Rattle.std.proofs.Common.{take, drop, refl, sym, ap, ◌∙◌, subst, arith, add-one, drop-cons}
use Rattle.std.proofs.Common.{append_assoc, append-nil}
use Rattle.std.specs.List.{All}
use Rattle.std.proofs.lemmas.List.{drop_all, get_or_default, take_all}
use Rattle.bolt_base.specs.Graph.{Graph, vertices}
use Rattle.bolt_base.specs.Residue.{Amount}
use Rattle.agg_words.specs.Facts.{SeatFacts}
use Rattle.agg_words.specs.View.{times}
use Rattle.vertex_expr.specs.declared.program.ProgramEntries.{ProgramEntries}
use Rattle.run_model.specs.Additions.{adds_of, items}
use Rattle.run_model.specs.Refined.{with_words}
use Rattle.run_model.specs.Rows.{Lists, at}
use Rattle.run_model.specs.Steps.{Step, is_target, tail_step}
use Rattle.run_model.proofs.RowLemmas.{aggregates_whole}
use Rattle.sum_steps.specs.Taken.{AreLeft, IsTaken, takes_at, takes_of}
use Rattle.sum_steps.proofs.TakenWords.{takes_grow}
use Rattle.refine_rows.proofs.ReadLemmas.{agg_long}
use Rattle.hybrid_tail.specs.Setting.{with_each}
use Rattle.hybrid_tail.proofs.AmountLemmas.{takes_are}
use Rattle.hybrid_tail.proofs.RowLemmas.{all_picked, sums_made}
use Rattle.hybrid_tail.proofs.SetLemmas.{at_next, each_more}
use Rattle.hybrid_tail.proofs.sums.take_targets.Goals as goal

pub loop-place-init : goal.loop-place-init
loop-place-init g c =
    record {
      aggs = refl;
      left = c.requires.spread.left;
      grown = sym (append-nil c.args.seat.now.view.amounts);
      table = refl;
      units = refl;
      marks = refl;
    }

pub bounds-aggs-k : goal.bounds-aggs-k
bounds-aggs-k g c =
    let p : ProgramEntries = c.args.program.now in
    let h : Graph = g.A.Adjacency.plain c.args.graph.now in
    let i : ℕ = c.args.i in
    let s : Step = tail_step p h i in
    let amounts : List Amount = adds_of p s (items p s) in
    let us : List ℕ = c.args.targets.now in
    let k : ℕ = c.loop-place.place in
    let v : ℕ = get_or us k 0 in
    let inv = c.loop-place.invariant in
    let small : k < length us = c.loop-place-test.true in
    let there : v < vertices h = all_picked (vertices h) (is_target p s) us
    c.requires.spread.targets k 0 small in
    let long : length c.args.aggs.now ≡ vertices h = ap length c.requires.aggs
    ∙ (aggregates_whole p h (i - 1)).each_vertex in
    let kept = c.loop-place.auto.aggs in
    omega arith

pub bounds-aggs-k-in-loop-place : goal.bounds-aggs-k-in-loop-place
bounds-aggs-k-in-loop-place g c =
    let p : ProgramEntries = c.args.program.now in
    let h : Graph = g.A.Adjacency.plain c.args.graph.now in
    let i : ℕ = c.args.i in
    let s : Step = tail_step p h i in
    let amounts : List Amount = adds_of p s (items p s) in
    let us : List ℕ = c.args.targets.now in
    let k : ℕ = c.loop-place.place in
    let v : ℕ = get_or us k 0 in
    let inv = c.loop-place.invariant in
    let small : k < length us = c.loop-place-test.true in
    let there : v < vertices h = all_picked (vertices h) (is_target p s) us
    c.requires.spread.targets k 0 small in
    let long : length c.args.aggs.now ≡ vertices h = ap length c.requires.aggs
    ∙ (aggregates_whole p h (i - 1)).each_vertex in
    let kept = c.loop-place.auto.aggs in
    omega arith

pub take_target-requires-clause-words : goal.take_target-requires-clause-words
take_target-requires-clause-words g c =
    let p : ProgramEntries = c.args.program.now in
    let h : Graph = g.A.Adjacency.plain c.args.graph.now in
    let i : ℕ = c.args.i in
    let s : Step = tail_step p h i in
    let amounts : List Amount = adds_of p s (items p s) in
    let us : List ℕ = c.args.targets.now in
    c.requires.spread.words c.loop-place.place 0 c.loop-place-test.true

pub take_target-requires-clause-old : goal.take_target-requires-clause-old
take_target-requires-clause-old g c =
    let p : ProgramEntries = c.args.program.now in
    let h : Graph = g.A.Adjacency.plain c.args.graph.now in
    let i : ℕ = c.args.i in
    let s : Step = tail_step p h i in
    let amounts : List Amount = adds_of p s (items p s) in
    let us : List ℕ = c.args.targets.now in
    let k : ℕ = c.loop-place.place in
    let v : ℕ = get_or us k 0 in
    let inv = c.loop-place.invariant in
    let small : k < length us = c.loop-place-test.true in
    let there : v < vertices h = all_picked (vertices h) (is_target p s) us
    c.requires.spread.targets k 0 small in
    let long : length c.args.aggs.now ≡ vertices h = ap length c.requires.aggs
    ∙ (aggregates_whole p h (i - 1)).each_vertex in
    let kept = c.loop-place.auto.aggs in
    let f : (ℕ → List ℤ) = λ u. with_words p amounts (at c.args.aggs.now u) u in
    let read : List ℤ = get_or c.loop-place.aggs v c.index-aggs-k.result in
    let old : read ≡ at c.args.aggs.now v =
    get_or_default c.loop-place.aggs v c.index-aggs-k.result [] (omega arith)
    ∙ ap (λ (xs : Lists). at xs v) inv.aggs
    ∙ at_next (vertices h) (is_target p s) f us c.args.aggs.now k c.requires.spread.targets small
    (omega arith) in
    ap length (old ∙ ap (λ (xs : Lists). at xs v) c.requires.aggs)
    ∙ agg_long p h (i - 1) v there

pub loop-place-preserved : goal.loop-place-preserved
loop-place-preserved g c =
    let p : ProgramEntries = c.args.program.now in
    let h : Graph = g.A.Adjacency.plain c.args.graph.now in
    let i : ℕ = c.args.i in
    let s : Step = tail_step p h i in
    let amounts : List Amount = adds_of p s (items p s) in
    let us : List ℕ = c.args.targets.now in
    let k : ℕ = c.loop-place.place in
    let v : ℕ = get_or us k 0 in
    let inv = c.loop-place.invariant in
    let small : k < length us = c.loop-place-test.true in
    let there : v < vertices h = all_picked (vertices h) (is_target p s) us
    c.requires.spread.targets k 0 small in
    let long : length c.args.aggs.now ≡ vertices h = ap length c.requires.aggs
    ∙ (aggregates_whole p h (i - 1)).each_vertex in
    let kept = c.loop-place.auto.aggs in
    let f : (ℕ → List ℤ) = λ u. with_words p amounts (at c.args.aggs.now u) u in
    let read : List ℤ = get_or c.loop-place.aggs v c.index-aggs-k.result in
    let old : read ≡ at c.args.aggs.now v =
    get_or_default c.loop-place.aggs v c.index-aggs-k.result [] (omega arith)
    ∙ ap (λ (xs : Lists). at xs v) inv.aggs
    ∙ at_next (vertices h) (is_target p s) f us c.args.aggs.now k c.requires.spread.targets small
    (omega arith) in
    let next : drop k us ≡ v ∷ drop (k + 1) us = rw add-one (drop-cons us k 0 small) in
    let taken : IsTaken p c.args.words.now.layout amounts read v (drop (k + 1) us)
    c.take_target.result c.loop-place.seat.view c.take_target.new.seat.view =
    c.take_target.ensures.left amounts (drop (k + 1) us)
    (subst (λ (l : List ℕ). AreLeft p c.args.words.now.layout amounts l c.loop-place.seat.view)
    next inv.left) in
    let made : c.take_target.result ≡ f v = taken.sum
    ∙ ap (λ (xs : List ℤ). with_words p amounts xs v) old in
    let seat = c.take_target.ensures.seat in
    record {
      aggs = (λ j. set (inv.aggs j) v (made j))
          ∙ sym (each_more f us k c.args.aggs.now small);
      left = taken.left;
      grown = taken.grown ∙ ap (λ (l : List Amount). l ++ takes_at p amounts v) inv.grown
          ∙ append_assoc c.args.seat.now.view.amounts (takes_of p amounts (take k us))
          (takes_at p amounts v)
          ∙ ap (λ (l : List Amount). c.args.seat.now.view.amounts ++ l)
          (sym (takes_grow p amounts us k 0 small));
      table = ap (λ (x : SeatFacts). x.table) seat ∙ inv.table;
      units = ap (λ (x : SeatFacts). x.view.units) seat ∙ inv.units;
      marks = ap (λ (x : SeatFacts). x.view.marks) seat ∙ inv.marks;
    }

pub wipe_marks-requires-clause-marks : goal.wipe_marks-requires-clause-marks
wipe_marks-requires-clause-marks g c =
    let p : ProgramEntries = c.args.program.now in
    let h : Graph = g.A.Adjacency.plain c.args.graph.now in
    let i : ℕ = c.args.i in
    let s : Step = tail_step p h i in
    let amounts : List Amount = adds_of p s (items p s) in
    let us : List ℕ = c.args.targets.now in
    subst (All (λ bit. 0 < times bit us)) (sym c.loop-place.invariant.marks)
    c.requires.spread.marks

pub returns : goal.returns
returns g c =
    let p : ProgramEntries = c.args.program.now in
    let h : Graph = g.A.Adjacency.plain c.args.graph.now in
    let i : ℕ = c.args.i in
    let s : Step = tail_step p h i in
    let amounts : List Amount = adds_of p s (items p s) in
    let us : List ℕ = c.args.targets.now in
    let inv = c.loop-place.invariant in
    let past : length us ≤ c.loop-place.place = c.loop-place-test.false in
    let all : take c.loop-place.place us ≡ us = take_all c.loop-place.place us past in
    let none : drop c.loop-place.place us ≡ [] = drop_all c.loop-place.place us past in
    let f : (ℕ → List ℤ) = λ u. with_words p amounts (at c.args.aggs.now u) u in
    let seat = c.wipe_marks.ensures.seat in
    let on = c.requires.go_on in
    record {
      aggs = sums_made p h i on c.requires.sum c.args.aggs.now c.loop-place.aggs us
          c.requires.aggs c.requires.spread.targets
          (inv.aggs ∙ ap (λ (l : List ℕ). with_each f l c.args.aggs.now) all);
      amounts = ap (λ (x : SeatFacts). x.view.amounts) seat ∙ inv.grown
          ∙ ap (λ (l : List Amount). c.args.seat.now.view.amounts ++ l)
          (ap (takes_of p amounts) all ∙ takes_are p h i us c.requires.spread.targets);
      table = ap (λ (x : SeatFacts). x.table) seat ∙ inv.table;
      units = ap (λ (x : SeatFacts). x.view.units) seat ∙ inv.units;
      clear = c.wipe_marks.ensures.clear p amounts on.safe.writable.lanes.least
          (subst (λ (l : List ℕ). AreLeft p c.args.words.now.layout amounts l
          c.loop-place.seat.view) none inv.left);
    }
