use Rattle.std.proofs.Common.{◌≡◌}
use Rattle.live_works.specs.Shop.{Standing}
use Rattle.live_works.proofs.engine_loop.make_left.Given as goal

abbrev pub invariant-loop : goal.invariant-loop
invariant-loop g l =
    (goal.iterator-loop g).can_next l.iterator'
    × (goal.iterator-loop g).is_finite l.iterator'
    × Standing l.publisher l.works
    × (l.works.files ≡ l.initial.works.files)
    × (l.works.engine.choice ≡ l.initial.works.engine.choice)
    × (l.publisher.origin ≡ l.initial.publisher.origin)
    × (l.publisher.book ≡ l.initial.publisher.book)
