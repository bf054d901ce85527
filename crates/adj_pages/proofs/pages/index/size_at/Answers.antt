use Rattle.std.proofs.Common.{length, arith, refl, ◌+◌}
use Rattle.std.proofs.lemmas.List.{length-map}
use Rattle.adj_pages.specs.Marked.{mark, marks}
use Rattle.adj_pages.proofs.IndexLemmas.{next_before, last_before}
use Rattle.adj_pages.proofs.pages.index.size_at.Goals as goal

pub overflow_sub-result : goal.overflow_sub-result
overflow_sub-result g c =
    let ms = marks g.P.Page.arcs c.args.index.now in
    let more = next_before ms c.args.count c.requires.index c.args.i (c.args.i + 1) refl
    (omega (arith, c.if-i-index.true, length-map c.args.index.now (mark g.P.Page.arcs))) in
    omega (arith, more, c.before_at.ensures, c.before_at-before.ensures)

pub returns-then-i-index : goal.returns-then-i-index
returns-then-i-index g c =
    let ms = marks g.P.Page.arcs c.args.index.now in
    let more = next_before ms c.args.count c.requires.index c.args.i (c.args.i + 1) refl
    (omega (arith, c.if-i-index.true, length-map c.args.index.now (mark g.P.Page.arcs))) in
    omega (arith, more, c.before_at.ensures, c.before_at-before.ensures)

pub overflow_sub-result-else-i-index : goal.overflow_sub-result-else-i-index
overflow_sub-result-else-i-index g c =
    let ms = marks g.P.Page.arcs c.args.index.now in
    let e = length-map c.args.index.now (mark g.P.Page.arcs) in
    let last = last_before ms c.args.count c.requires.index c.args.i
    (omega (arith, e, c.requires.inside)) (omega (arith, e, c.if-i-index.false)) in
    omega (arith, last, c.before_at-before.ensures)

pub returns-else-i-index : goal.returns-else-i-index
returns-else-i-index g c =
    let ms = marks g.P.Page.arcs c.args.index.now in
    let e = length-map c.args.index.now (mark g.P.Page.arcs) in
    let last = last_before ms c.args.count c.requires.index c.args.i
    (omega (arith, e, c.requires.inside)) (omega (arith, e, c.if-i-index.false)) in
    omega (arith, last, c.before_at-before.ensures)
