-- What the tests evaluate.
use Rattle.std.specs.Prelude.{ℤ, pos, neg_ℤ, [], ◌∷◌, codes, Some, None}
use Rattle.vertex_expr.specs.Box.{Bounds}
use Rattle.vertex_expr.specs.Span.{Span}
use Rattle.vertex_expr.specs.Tree.{Tree, literal, val, outdeg, weight, attr, id, agg, old, plus}
use Rattle.vertex_expr.specs.Tree.{minus, times, over, least, clamp, choose}
use Rattle.vertex_expr.specs.declared.expr.Compare.TheVariants.{AtMost}
use Rattle.vertex_expr.specs.declared.program.Combine.TheVariants.{Sum}
use Rattle.vertex_expr.specs.declared.program.ProgramEntries.{ProgramEntries}

-- val[0] / outdeg
abbrev pub share : Tree
share = over (val 0) outdeg

-- clamp(150000 + agg[0] * 17 / 20, 0, 1000000000000)
abbrev pub damped : Tree
damped = clamp (plus (literal (pos 150000))
    (over (times (agg 0) (literal (pos 17))) (literal (pos 20)))) (literal (pos 0))
    (literal (pos 1000000000000))

-- a program that gives each vertex a rank, where 1000000 stands for 1
abbrev pub rank : ProgramEntries
rank = record {
  name = codes "rank";
  limits = record {
    vertices = 1000000;
    degree = 1000000;
    edges = 8000000;
    weight_lo = neg_ℤ (pos 1000000);
    weight_hi = pos 1000000;
    attr_lo = neg_ℤ (pos 1000000);
    attr_hi = pos 1000000;
  };
  rounds = 10;
  combine = Sum;
  params = [];
  ranges = record { lo = pos 0; hi = pos 1000000000000 } ∷ [];
  init = literal (pos 1000000) ∷ [];
  contribute = share ∷ [];
  apply = damped ∷ [];
}

-- if(old[0] <= id, old[0] - weight, min(id, attr))
abbrev pub mixed : Tree
mixed = choose AtMost (old 0) id (minus (old 0) weight) (least id attr)

-- from -n to n
abbrev pub around : ℤ → Span
around n = record { low = neg_ℤ n; high = n }

-- where the numbers of its environments lie
abbrev pub hand_bounds : Bounds
hand_bounds = record {
  val = [];
  agg = [];
  old = around (pos 1000) ∷ [];
  outdeg = None;
  weight = Some (around (pos 1000));
  attr = around (pos 1000);
  id = record { low = pos 0; high = pos 1000 };
}
