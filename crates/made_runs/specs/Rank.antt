-- The limits of the shipped program `rank`.
use Rattle.std.specs.Prelude.{pos, negsuc}
use Rattle.bolt_base.specs.declared.limits.Limits.{Limits}

abbrev pub rank_limits : Limits
rank_limits = record {
  vertices = 1000000;
  degree = 1000000;
  edges = 8000000;
  weight_lo = negsuc 999999;
  weight_hi = pos 1000000;
  attr_lo = negsuc 999999;
  attr_hi = pos 1000000;
}
