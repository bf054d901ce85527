use Rattle.std.proofs.Common.{◌≡◌, ◌-◌, ◌≤◌, List, arith}
use Rattle.std.proofs.lemmas.Result.{err_from_is_err_and}
use Rattle.std.specs.Prelude.{Result, Err}
use Rattle.bolt_io.specs.declared.whole.TheConstants.{MOST_BYTES}
use Rattle.command_files.specs.Stops.{feed_stop}
use Rattle.command_files.specs.declared.stop.Stop.{Stop}
use Rattle.command_files.specs.declared.stop.Stop.TheVariants.{TooLong}
use Rattle.live_text.specs.declared.question.Question.{Question}
use Rattle.batch_run.proofs.BatchSteps.{feed_cause}
use Rattle.live_streams.specs.Ends.{ReadsToEnd}
use Rattle.live_streams.proofs.EndSteps.{took_to_end}
use Rattle.live_streams.proofs.QuestionEnds.{few_asked, many_asked}
use Rattle.live_streams.proofs.questions.load_questions.Goals as goal

pub returns-clause-reads : goal.returns-clause-reads
returns-clause-reads g c =
    let before = g.S.Shelf.told c.args.shelf.now in
    let after = g.S.Shelf.told c.read_questions.new.shelf in
    let e = c.in_ok-read_questions.ensures in
    let most = e.reads.reads.most in
    let no_more : e.reads.taken - 0 ≤ MOST_BYTES = omega arith in
    record {
      took = took_to_end before after c.args.slot (e.reads.taken - 0) e.reads.reads.takes no_more;
      short = few_asked before c.args.slot e.reads.taken c.in_ok-read_questions.field-0
          e.reads.as_far;
      end = e.end;
      too_long = λ wrong. cc;
      opened = e.reads.reads.slots;
    }

pub returns-clause-cause : goal.returns-clause-cause
returns-clause-cause g c = c.in_ok-read_questions.ensures.reads.reads.blames

pub returns-in_err-read_questions-clause-reads : goal.returns-in_err-read_questions-clause-reads
returns-in_err-read_questions-clause-reads g c =
    let p = err_from_is_err_and c.from_residual.result c.from_residual.ensures.1 in
    let before = g.S.Shelf.told c.args.shelf.now in
    let after = g.S.Shelf.told c.read_questions.new.shelf in
    let e = c.in_err-read_questions.ensures in
    let most = e.reads.reads.most in
    let no_more : e.reads.taken - 0 ≤ MOST_BYTES = omega arith in
    let why = c.in_err-read_questions.field-0.0 in
    let r : Result (List Question) Stop = Err (feed_stop why) in
    let k : ReadsToEnd before after (g.S.Shelf.opened c.args.shelf.now)
    (g.S.Shelf.opened c.read_questions.new.shelf) c.args.slot r =
    record {
      took = took_to_end before after c.args.slot (e.reads.taken - 0) e.reads.reads.takes no_more;
      short = tt;
      end = tt;
      too_long = λ is.
          let same : feed_stop why ≡ TooLong = cc in
          many_asked before c.args.slot e.reads.taken why e.reads.as_far same;
      opened = e.reads.reads.slots;
    } in
    rw (p.1, p.2) k

pub returns-in_err-read_questions-clause-cause : goal.returns-in_err-read_questions-clause-cause
returns-in_err-read_questions-clause-cause g c =
    let p = err_from_is_err_and c.from_residual.result c.from_residual.ensures.1 in
    rw (p.1, p.2)
    (feed_cause c.in_err-read_questions.field-0.0 _ _
    c.in_err-read_questions.ensures.reads.reads.blames)
