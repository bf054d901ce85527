use Rattle.std.proofs.Common.{length, map}
use Rattle.std.proofs.lemmas.Result.{err_from_is_err_and}
use Rattle.live_streams.proofs.FileLists.{both_read, first_stopped, second_stopped}
use Rattle.live_streams.proofs.texts.read_live_texts.Goals as goal

pub returns-in_err-streams-clause-reads : goal.returns-in_err-streams-clause-reads
returns-in_err-streams-clause-reads g c =
    let p = err_from_is_err_and c.from_residual.result c.from_residual.ensures.1 in
    rw (p.1, p.2)
    (first_stopped (map (λ n. n.now) c.args.streams.now) (map (λ n. n.now) c.args.asks.now)
    (g.S.Shelf.told c.args.shelf.now) (g.S.Shelf.told c.read_stream_files.new.shelf)
    (g.S.Shelf.opened c.args.shelf.now) (g.S.Shelf.opened c.read_stream_files.new.shelf)
    (length c.args.streams.now) (length c.args.asks.now) c.in_err-streams.field-0.0
    c.in_err-streams.ensures.reads)

pub returns-in_err-questions-clause-reads : goal.returns-in_err-questions-clause-reads
returns-in_err-questions-clause-reads g c =
    let p =
    err_from_is_err_and c.from_residual-in_err-questions.result
    c.from_residual-in_err-questions.ensures.1 in
    rw (p.1, p.2)
    (second_stopped (map (λ n. n.now) c.args.streams.now) (map (λ n. n.now) c.args.asks.now)
    (g.S.Shelf.told c.args.shelf.now) (g.S.Shelf.told c.read_stream_files.new.shelf)
    (g.S.Shelf.told c.read_question_files.new.shelf) (g.S.Shelf.opened c.args.shelf.now)
    (g.S.Shelf.opened c.read_stream_files.new.shelf)
    (g.S.Shelf.opened c.read_question_files.new.shelf) (length c.args.streams.now)
    (length c.args.asks.now) c.in_ok-streams.streams c.in_ok-streams.ensures.reads
    c.in_err-questions.field-0.0 c.in_err-questions.ensures.reads)

pub returns-clause-reads : goal.returns-clause-reads
returns-clause-reads g c =
    both_read (map (λ n. n.now) c.args.streams.now) (map (λ n. n.now) c.args.asks.now)
    (g.S.Shelf.told c.args.shelf.now) (g.S.Shelf.told c.read_stream_files.new.shelf)
    (g.S.Shelf.told c.read_question_files.new.shelf) (g.S.Shelf.opened c.args.shelf.now)
    (g.S.Shelf.opened c.read_stream_files.new.shelf)
    (g.S.Shelf.opened c.read_question_files.new.shelf) (length c.args.streams.now)
    (length c.args.asks.now) c.in_ok-streams.streams c.in_ok-streams.ensures.reads
    c.in_ok-questions.questions _ c.in_ok-questions.ensures.reads
