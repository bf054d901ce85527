use Rattle.std.proofs.Common.{◌<◌, ◌≤◌, ◌-◌, length}
use Rattle.adj_pages.specs.Index.{mark_at}
use Rattle.adj_pages.specs.Marked.{marks}
use Rattle.adj_pages.proofs.pages.index.place_for.Given as goal

abbrev pub invariant-loop-high : goal.invariant-loop-high
invariant-loop-high g l = record {
  apart : l.low < l.high;
  within : l.high ≤ length l.index;
  from : 0 < l.low → (mark_at (marks g.P.Page.arcs l.index) l.low).first ≤ l.end;
  upto : l.high < length l.index → l.end < (mark_at (marks g.P.Page.arcs l.index) l.high).first;
}

abbrev pub decreases-loop-high : goal.decreases-loop-high
decreases-loop-high g l = l.high - l.low
