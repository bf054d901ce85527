use Rattle.std.proofs.Common.{◌≡◌, ◌∙◌, ap, arith, length}
use Rattle.vertex_expr.specs.declared.program.ProgramEntries.{ProgramEntries}
use Rattle.run_model.specs.Program.{lanes}
use Rattle.board.specs.Halls.{Hall}
use Rattle.board.specs.Log.{origin_of, rounds_of}
use Rattle.board.specs.declared.book.Receipt.{Receipt}
use Rattle.board.proofs.Keeping.{answers_are_wide, begins_right, start_fits}
use Rattle.board.proofs.publisher.face_of.Goals as goal

pub new-requires-clause-fits : goal.new-requires-clause-fits
new-requires-clause-fits c =
    start_fits c.args.accepted.now (origin_of c.args.tip.now.seen.log).graph _ _ c.requires.start
    c.requires.room

pub new-requires-clause-wide : goal.new-requires-clause-wide
new-requires-clause-wide c =
    let wide : c.len-lanes.result ≡ lanes c.args.accepted.now = c.len-lanes.ensures
    ∙ ap (λ (p : ProgramEntries). length p.ranges)
    (c.entries.ensures.entries ∙ c.program.ensures.program) in
    answers_are_wide c.args.accepted.now (origin_of c.args.tip.now.seen.log).graph
    c.len-lanes.result c.args.start.now wide c.requires.start

pub returns-clause-answer : goal.returns-clause-answer
returns-clause-answer c =
    let wide : c.len-lanes.result ≡ lanes c.args.accepted.now = c.len-lanes.ensures
    ∙ ap (λ (p : ProgramEntries). length p.ranges)
    (c.entries.ensures.entries ∙ c.program.ensures.program) in
    c.in_ok-answer.ensures
    ∙ (λ i. record { values = c.args.start.now; room = c.args.room; width = wide i })

pub returns-clause-right : goal.returns-clause-right
returns-clause-right c =
    let p = c.args.accepted.now in
    let o = origin_of c.args.tip.now.seen.log in
    let wide : c.len-lanes.result ≡ lanes p = c.len-lanes.ensures
    ∙ ap (λ (q : ProgramEntries). length q.ranges)
    (c.entries.ensures.entries ∙ c.program.ensures.program) in
    let answer = c.in_ok-answer.ensures in
    let front = c.again.ensures in
    begins_right p o.graph _
    (ap (λ (x : Receipt). origin_of x.seen.log) front
    ∙ (λ i. record { program = c.requires.program i; graph = o.graph }))
    (ap (λ (x : Receipt). rounds_of x.seen.log) front ∙ c.requires.rounds)
    (ap (λ (h : Hall). h.values) answer ∙ c.requires.start)
    (omega (arith, ap (λ (h : Hall). h.room) answer, c.requires.room))
    (ap (λ (h : Hall). h.width) answer ∙ wide)
