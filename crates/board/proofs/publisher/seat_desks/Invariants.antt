use Rattle.std.proofs.Common.{◌≡◌, length}
use Rattle.std.specs.List.{All}
use Rattle.left_right.specs.Sides.{view}
use Rattle.board.specs.Post.{new_post}
use Rattle.board.proofs.publisher.seat_desks.Given as goal

abbrev pub invariant-loop : goal.invariant-loop
invariant-loop g l =
    (l.writer.desk.shown ≡ l.initial.writer.desk.shown)
    × (l.writer.log ≡ l.initial.writer.log)
    × (l.writer.behind ≡ l.initial.writer.behind)
    × (view l.writer.desk.place ≡ view l.initial.writer.desk.place)
    × (length l.all ≡ l.counter)
    × All (λ d. d ≡ new_post l.tip.seen.book (view l.initial.writer.desk.place).origin) l.all
