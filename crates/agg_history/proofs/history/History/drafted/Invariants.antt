use Rattle.std.proofs.Common.{◌≡◌, ◌≤◌, ◌*◌, map, take, length}
use Rattle.std.specs.List.{sum_by}
use Rattle.bolt_base.specs.RowTable.{entry_at}
use Rattle.agg_history.specs.Pruned.{track_of}
use Rattle.agg_history.specs.Belongs.{laid_rows}
use Rattle.agg_history.specs.Drafted.{new_list}
use Rattle.agg_history.proofs.MakeLemmas.{track_in}
use Rattle.agg_history.proofs.history.History.drafted.Given as goal

abbrev pub invariant-loop-k : goal.invariant-loop-k
invariant-loop-k l = record {
  lists : l.lists.items ≡ map (new_list l.overlay l.self) (take l.k l.touched);
  heads : l.heads ≡ record {
    lanes = l.self.lanes;
    all = map (entry_at (laid_rows l.overlay l.self) 0) (take l.k l.touched);
  };
  come : l.come ≡ sum_by (λ v. length (track_in l.self.vertical (laid_rows l.overlay l.self) v))
      (take l.k l.touched);
  gone : l.gone ≡ sum_by (λ v. length (track_of l.self.now.tracks v)) (take l.k l.touched);
  come_few : l.come ≤ l.k * 64;
  gone_few : l.gone ≤ l.k * 64;
  lanes : l.entries.lanes ≡ l.self.lanes;
}
