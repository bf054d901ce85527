use Rattle.std.proofs.Common.{ℕ, ◌<◌, ◌≤◌, length}
use Rattle.live_course.specs.Made.{file_of}
use Rattle.live_works.specs.Shop.{made_of}
use Rattle.live_works.proofs.works.Works.first_left.Given as goal

abbrev pub invariant-loop-k : goal.invariant-loop-k
invariant-loop-k l = (k : ℕ) → k < l.k → length (file_of l.self.files k) ≤ made_of l.self k
