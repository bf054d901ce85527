use Rattle.std.proofs.Common.{◌≡◌, ◌<◌, ◌+◌, ◌-◌, ◌++◌, suc, length, take, drop, ap, sym, ◌∙◌}
use Rattle.std.proofs.Common.{subst, arith, ℕ, Option, ℤ}
use Rattle.std.specs.List.{All}
use Rattle.std.specs.FinMap as finite
use Rattle.std.proofs.lemmas.List.{length-map}
use Rattle.adjacency.specs.Row.{IsRow}
use Rattle.adjacency.specs.Merge.{merged}
use Rattle.adj_pages.specs.Index.{mark_at, IsNextCut}
use Rattle.adj_pages.specs.Marked.{mark, marks}
use Rattle.adj_pages.proofs.SortedLemmas.{sorted_take, sorted_drop}
use Rattle.adj_pages.proofs.IndexLemmas.{index_entries, len_index, some_page}
use Rattle.adj_pages.proofs.EditedLemmas.{IsDone, nothing_done, passed_next, done_step, done_rising}
use Rattle.adj_pages.proofs.EditedLemmas.{all_done}
use Rattle.adj_pages.proofs.pages.Pages.patched.Goals as goal

pub loop-i-init : goal.loop-i-init
loop-i-init g c = nothing_done (marks g.P.Page.arcs c.self.inside.index.items) c.args.edits.now
    c.new-made.result c.new-made.ensures

pub cut_after-upto-requires-clause-passed : goal.cut_after-upto-requires-clause-passed
cut_after-upto-requires-clause-passed g c =
    let ms = marks g.P.Page.arcs c.self.inside.index.items in
    let e = length-map c.self.inside.index.items (mark g.P.Page.arcs) in
    let l : c.loop-i.i < length ms = omega
    (arith, e, c.loop-i-test.true, c.len-i-end.ensures, c.self.inside.index.ok.0) in
    subst (λ es. suc c.loop-i.i < length es
    → All (λ (p : ℕ × Option ℤ). p.0 <
    (mark_at (marks g.P.Page.arcs es) (suc c.loop-i.i)).first)
    (take c.loop-i.from c.args.edits.now)) (sym c.deref.ensures.value)
    (λ more. passed_next ms c.self.inside.count c.self.invariant c.args.edits.now c.loop-i.i
    c.loop-i.from (finite.entries c.loop-i.made) c.loop-i.invariant l (omega (arith, e, more)))

pub add-requires-clause-edits : goal.add-requires-clause-edits
add-requires-clause-edits g c = record {
  rising = sorted_take (c.cut_after-upto.result - c.loop-i.from)
      (drop c.loop-i.from c.args.edits.now)
      (sorted_drop c.loop-i.from c.args.edits.now c.requires.edits.rising);
}

pub add-requires-clause-rising : goal.add-requires-clause-rising
add-requires-clause-rising g c =
    let ms = marks g.P.Page.arcs c.self.inside.index.items in
    let l : c.loop-i.i < length ms = omega (
      arith,
      length-map c.self.inside.index.items (mark g.P.Page.arcs),
      c.loop-i-test.true,
      c.len-i-end.ensures,
      c.self.inside.index.ok.0,
    ) in
    let cut : IsNextCut ms c.loop-i.i c.args.edits.now c.loop-i.from c.cut_after-upto.result =
    subst (λ es. IsNextCut (marks g.P.Page.arcs es) c.loop-i.i c.args.edits.now c.loop-i.from
    c.cut_after-upto.result) c.deref.ensures.value c.cut_after-upto.ensures in
    subst (λ es. IsRow (finite.entries c.loop-i.made
    ++ merged (finite.entries (mark_at (marks g.P.Page.arcs es) c.loop-i.i).arcs)
    (take (c.cut_after-upto.result - c.loop-i.from)
    (drop c.loop-i.from c.args.edits.now)))) (sym c.deref-in-loop-i.ensures.value)
    (done_rising ms c.self.inside.count c.self.invariant c.args.edits.now c.loop-i.i c.loop-i.from
    (finite.entries c.loop-i.made) c.loop-i.invariant l c.cut_after-upto.result cut)

pub loop-i-preserved : goal.loop-i-preserved
loop-i-preserved g c =
    let ms = marks g.P.Page.arcs c.self.inside.index.items in
    let l : c.loop-i.i < length ms = omega (
      arith,
      length-map c.self.inside.index.items (mark g.P.Page.arcs),
      c.loop-i-test.true,
      c.len-i-end.ensures,
      c.self.inside.index.ok.0,
    ) in
    let cut : IsNextCut ms c.loop-i.i c.args.edits.now c.loop-i.from c.cut_after-upto.result =
    subst (λ es. IsNextCut (marks g.P.Page.arcs es) c.loop-i.i c.args.edits.now c.loop-i.from
    c.cut_after-upto.result) c.deref.ensures.value c.cut_after-upto.ensures in
    let e = c.in_ok-add.ensures ∙ ap
    (λ es. finite.entries c.loop-i.made
    ++ merged (finite.entries (mark_at (marks g.P.Page.arcs es) c.loop-i.i).arcs)
    (take (c.cut_after-upto.result - c.loop-i.from)
    (drop c.loop-i.from c.args.edits.now))) c.deref-in-loop-i.ensures.value in
    subst (λ k. IsDone ms c.args.edits.now k c.cut_after-upto.result
    (finite.entries c.add.new.self))
    (let f : suc c.loop-i.i ≡ c.loop-i.i + 1 = omega arith in f)
    (subst (λ xs. IsDone ms c.args.edits.now (suc c.loop-i.i) c.cut_after-upto.result xs) (sym e)
    (done_step ms c.self.inside.count c.self.invariant c.args.edits.now c.loop-i.i c.loop-i.from
    (finite.entries c.loop-i.made) c.loop-i.invariant l c.cut_after-upto.result cut))

pub returns : goal.returns
returns g c =
    let ms = marks g.P.Page.arcs c.self.inside.index.items in
    let more = some_page ms c.self.inside.count c.self.invariant
    (omega (
      arith,
      c.requires.some,
      len_index ms c.self.inside.count c.self.invariant,
      ap
          finite.len c.self.view_is,
    )) in
    let last : c.loop-i.i ≡ length ms = omega (
      arith,
      length-map c.self.inside.index.items (mark g.P.Page.arcs),
      c.loop-i-test.false,
      c.loop-i.auto.i-end,
      c.len-i-end.ensures,
      c.self.inside.index.ok.0,
    ) in
    all_done ms c.self.inside.count c.self.invariant c.args.edits.now c.loop-i.from
    (finite.entries c.loop-i.made) more
    (subst (λ k. IsDone ms c.args.edits.now k c.loop-i.from (finite.entries c.loop-i.made))
    last c.loop-i.invariant)
    ∙ ap (λ xs. merged xs c.args.edits.now)
    (sym (index_entries ms c.self.inside.count c.self.invariant)
    ∙ ap finite.entries c.self.view_is)
