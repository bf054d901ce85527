-- What the tests check.
use Rattle.std.specs.Prelude.{ℕ, ℤ, pos, [], ◌∷◌, codes}
use Rattle.vertex_expr.specs.Tree.{Tree, literal}
use Rattle.vertex_expr.specs.Writable.{Scope}
use Rattle.vertex_expr.specs.declared.expr.Part.TheVariants.{Apply, Contribute}
use Rattle.vertex_expr.specs.declared.program.Combine.TheVariants.{Sum}
use Rattle.vertex_expr.specs.declared.program.ProgramEntries.{ProgramEntries}

-- a program of one lane up to this value, with this degree, least weight, contribution and apply
abbrev pub base : ℕ → ℤ → ℤ → Tree → Tree → ProgramEntries
base degree weight_lo most contribution apply = record {
  name = codes "base";
  limits = record {
    vertices = 1000;
    degree = degree;
    edges = 1000;
    weight_lo = weight_lo;
    weight_hi = pos 10;
    attr_lo = pos 0;
    attr_hi = pos 100;
  };
  rounds = 1;
  combine = Sum;
  params = [];
  ranges = record { lo = pos 0; hi = most } ∷ [];
  init = literal (pos 0) ∷ [];
  contribute = contribution ∷ [];
  apply = apply ∷ [];
}

-- where a contribution of that program stands, and where its apply does
abbrev pub contribute_scope : Scope
contribute_scope = record { part = Contribute; lanes = 1; params = [] }

abbrev pub apply_scope : Scope
apply_scope = record { part = Apply; lanes = 1; params = [] }
