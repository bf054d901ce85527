use Rattle.std.proofs.Common.{◌≡◌, ℕ, ◌<◌, ◌++◌}
use Rattle.bolt_base.specs.Residue.{sum_at}
use Rattle.agg_words.specs.View.{taken_back}
use Rattle.agg_words.proofs.table.AggWords.clear_words.Given as goal

-- the sums for the words below this one were taken back, they are 0, and only the amounts have
-- changed
abbrev pub invariant-loop-word : goal.invariant-loop-word
invariant-loop-word l =
    (l.seat ≡ record l.initial.seat {
      view = record l.initial.seat.view {
        amounts = l.initial.seat.view.amounts
            ++ taken_back l.word l.initial.seat.view.amounts;
      };
    })
    × ((w : ℕ) → w < l.word → sum_at w l.seat.view.amounts ≡ 0)
