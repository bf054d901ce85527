use Rattle.std.proofs.Common.{◌≡◌, ◌∙◌, ℕ, List, [], get_or, arith, refl, ap}
use Rattle.std.proofs.lemmas.List.{get_or_read}
use Rattle.bolt_base.specs.declared.edge.Edit.{Edit}
use Rattle.command_course.specs.Still.{made_batch}
use Rattle.made_runs.proofs.RunSteps.{all_taken, one_taken}
use Rattle.made_runs.proofs.run.take_batches.Goals as goal

pub loop-edits-init : goal.loop-edits-init
loop-edits-init g c = record { number = c.requires.fresh; reply = refl }

pub loop-edits-preserved : goal.loop-edits-preserved
loop-edits-preserved g c =
    let counted = c.in_ok-text.ensures.counted in
    let so_far = c.loop-edits.invariant.number in
    let batches : List (List Edit) = c.args.batches.now in
    let k : ℕ = c.loop-edits.edits-index in
    let item : c.edits-item.result ≡ get_or batches k [] =
    get_or_read batches k c.edits-item.result c.loop-edits-test.true c.edits-item.is [] in
    record {
      number = omega arith;
      reply = one_taken batches k [] _ _ _ _ _ _
          c.loop-edits-test.true (c.in_ok-batch.ensures.batch ∙ ap made_batch item)
          (c.as_slice.ensures ∙ c.in_ok-text.ensures.text) c.in_ok-text.ensures.moved
          c.in_ok-extend_from_slice.ensures.ok
          ∙ c.loop-edits.invariant.reply;
    }

pub returns : goal.returns
returns g c =
    let past = c.loop-edits-test.false in
    all_taken c.args.batches.now c.loop-edits.edits-index c.loop-edits.run c.loop-edits.out
    (omega arith)
    ∙ c.loop-edits.invariant.reply
