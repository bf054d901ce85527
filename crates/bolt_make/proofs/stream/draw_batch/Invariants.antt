use Rattle.std.proofs.Common.{◌≡◌, ◌-◌, ◌++◌}
use Rattle.bolt_base.specs.Edits.{after}
use Rattle.bolt_make.specs.Generator.{edits_from, after_edits}
use Rattle.bolt_make.proofs.stream.draw_batch.Given as goal

abbrev pub invariant-loop-number : goal.invariant-loop-number
invariant-loop-number l = record {
  edits : l.edits ++ edits_from l.vertices l.pairs (l.size - l.number) l.number l.graph l.draws.last
      ≡ edits_from l.vertices l.pairs l.size 0 l.initial.graph l.initial.draws.last;
  graph : after l.graph (edits_from l.vertices l.pairs (l.size - l.number) l.number l.graph
      l.draws.last)
      ≡ after l.initial.graph (edits_from l.vertices l.pairs l.size 0 l.initial.graph
      l.initial.draws.last);
  last : after_edits (l.size - l.number) l.number l.draws.last
      ≡ after_edits l.size 0 l.initial.draws.last;
}
