use Rattle.std.proofs.Common.{◌≡◌, ◌-◌, ◌++◌}
use Rattle.bolt_make.specs.Generator.{batches_from}
use Rattle.bolt_make.proofs.stream.draw_batches.Given as goal

abbrev pub invariant-loop-batch : goal.invariant-loop-batch
invariant-loop-batch l =
    l.batches ++ batches_from l.vertices l.pairs l.size (l.count - l._batch) l.graph l.draws.last
    ≡ batches_from l.vertices l.pairs l.size l.count l.initial.graph l.initial.draws.last
