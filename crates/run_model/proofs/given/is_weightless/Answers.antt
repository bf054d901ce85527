use Rattle.std.proofs.Common.{◌≡◌, pos, false, refl, sym, ap, ◌∙◌, arith, length, below_more}
use Rattle.std.proofs.lemmas.Option.{get_or_from_slice_get}
use Rattle.vertex_expr.specs.Mentions.{mentions_weight}
use Rattle.vertex_expr.specs.Node.{tree_of}
use Rattle.vertex_expr.specs.Tree.{literal}
use Rattle.vertex_expr.specs.declared.program.ProgramEntries.{ProgramEntries}
use Rattle.range_check.specs.Laws.{tree_at}
use Rattle.run_model.specs.Program.{lanes}
use Rattle.run_model.proofs.given.is_weightless.Goals as goal

pub loop-lane-preserved : goal.loop-lane-preserved
loop-lane-preserved c =
    let read : tree_at c.entries-entries.result.now.contribute c.loop-lane.lane
    ≡ tree_of c.at.result.now =
    get_or_from_slice_get c.entries-entries.result.now.contribute c.loop-lane.lane
    (tree_of c.at.result.now) (literal (pos 0)) c.at.ensures.tree in
    let same : tree_at c.args.program.now.contribute c.loop-lane.lane
    ≡ tree_of c.at.result.now = ap
    (λ (x : ProgramEntries). tree_at x.contribute c.loop-lane.lane)
    (sym c.entries-entries.ensures.entries) ∙ read in
    let none : mentions_weight (tree_of c.at.result.now)
    ≡ false = sym c.mentions_weight.ensures.answer ∙ c.if-mentions_weight.false in
    below_more (λ k. mentions_weight (tree_at c.args.program.now.contribute k) ≡ false)
    c.loop-lane.lane c.loop-lane.invariant (ap mentions_weight same ∙ none)

pub returns : goal.returns
returns c =
    let long : length c.args.program.now.contribute
    ≡ lanes c.args.program.now = c.requires.safe.writable.contribute.each_lane in
    let len : c.len-lane-end.result ≡ length c.args.program.now.contribute =
    c.len-lane-end.ensures.value
    ∙ ap (λ (x : ProgramEntries). length x.contribute) c.entries-entries.ensures.entries in
    record {
      answer = (
        λ _ l small. let past = c.loop-lane-test.false in c.loop-lane.invariant l
            (omega arith),
        λ _. refl,
      );
    }
