use Rattle.live_text.specs.Questions.{questions}
use Rattle.live_streams.proofs.EndSteps.{Reads-whole, file_says}
use Rattle.live_streams.proofs.questions.read_question_file.Goals as goal

pub returns-clause-questions : goal.returns-clause-questions
returns-clause-questions g c =
    file_says c.args.name.now (g.S.Shelf.told c.args.shelf.now) (g.S.Shelf.told c.open.new.shelf)
    (g.S.Shelf.told c.load_questions.new.shelf) (g.S.Shelf.opened c.args.shelf.now)
    (g.S.Shelf.opened c.open.new.shelf) (g.S.Shelf.opened c.load_questions.new.shelf)
    c.in_ok-slot.slot
    c.load_questions.result (g.met.S.Shelf.tells_slots c.args.shelf.now) c.in_ok-slot.ensures.slot
    c.in_ok-slot.ensures.told c.load_questions.result (questions c.args.lanes)
    c.load_questions.ensures.questions

pub returns-clause-reads : goal.returns-clause-reads
returns-clause-reads g c =
    Reads-whole c.args.name.now (g.S.Shelf.told c.args.shelf.now) (g.S.Shelf.told c.open.new.shelf)
    (g.S.Shelf.told c.load_questions.new.shelf) (g.S.Shelf.opened c.args.shelf.now)
    (g.S.Shelf.opened c.open.new.shelf) (g.S.Shelf.opened c.load_questions.new.shelf)
    c.in_ok-slot.slot
    c.load_questions.result (g.met.S.Shelf.tells_slots c.args.shelf.now) c.in_ok-slot.ensures.slot
    c.in_ok-slot.ensures.told c.in_ok-slot.ensures.opened c.load_questions.ensures.reads
