use Rattle.std.proofs.Common.{◌≡◌, ◌-◌, ◌++◌}
use Rattle.bolt_make.specs.Draws.{drawn_pairs, after_pairs}
use Rattle.bolt_make.proofs.draws.draw_pairs.Given as goal

abbrev pub invariant-loop-pair : goal.invariant-loop-pair
invariant-loop-pair l = record {
  pairs : l.pairs.items ++ drawn_pairs l.vertices (l.count - l._pair) l.draws.last
      ≡ drawn_pairs l.vertices l.count l.initial.draws.last;
  last : after_pairs (l.count - l._pair) l.draws.last ≡ after_pairs l.count l.initial.draws.last;
}
