-- Limits within which what is made is good.
use Rattle.std.specs.Prelude.{ℕ, pos, ◌≤◌}
use Rattle.bolt_base.specs.Graph.{IsBetween}
use Rattle.bolt_base.specs.declared.limits.Limits.{Limits}

-- limits that are met by n vertices of attribute 0 and by `count` edges of weight 1
pub record AreWide (l : Limits) (n count : ℕ) : Type 0 where
  pub vertices : n ≤ l.vertices
  pub degree : n ≤ l.degree
  pub edges : count ≤ l.edges
  pub weight : IsBetween l.weight_lo l.weight_hi (pos 1)
  pub attr : IsBetween l.attr_lo l.attr_hi (pos 0)
