use Rattle.std.proofs.Common.{◌<◌, ◌≤◌, ◌-◌, length}
use Rattle.adj_pages.specs.Index.{mark_at}
use Rattle.adj_pages.specs.Marked.{marks}
use Rattle.adj_pages.proofs.pages.index.place_of.Given as goal

abbrev pub invariant-loop-high : goal.invariant-loop-high
invariant-loop-high g l = record {
  apart : l.low < l.high;
  within : l.high ≤ length l.index;
  from : (mark_at (marks g.P.Page.arcs l.index) l.low).before ≤ l.k;
  upto : l.high < length l.index → l.k < (mark_at (marks g.P.Page.arcs l.index) l.high).before;
}

abbrev pub decreases-loop-high : goal.decreases-loop-high
decreases-loop-high g l = l.high - l.low
