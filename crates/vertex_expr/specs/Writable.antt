-- What a program's text can have.
use Rattle.std.specs.Prelude.{◌≡◌, ◌<◌, ◌≤◌, ◌≤ℤ◌, ◌^◌, ℕ, ℤ, pos, negsuc, suc, true, List, length}
use Rattle.std.specs.Prelude.{map, All, FitsSigned}
use mir.Syntax.{w64}
use Rattle.bolt_base.specs.declared.limits.Limits.{Limits}
use Rattle.vertex_expr.specs.Tree.{Tree, literal, param, val, outdeg, weight, attr, id, agg, old}
use Rattle.vertex_expr.specs.Tree.{plus, minus, times, over, least, greatest, clamp, choose, nodes}
use Rattle.vertex_expr.specs.Tree.{depth}
use Rattle.vertex_expr.specs.Names.{is_name, AreNames}
use Rattle.vertex_expr.specs.declared.expr.Part.{Part}
use Rattle.vertex_expr.specs.declared.expr.Part.TheVariants.{Init, Contribute, Apply}
use Rattle.vertex_expr.specs.declared.program.Combine.{Combine}
use Rattle.vertex_expr.specs.declared.program.Combine.TheVariants.{Sum, Min, Max}
use Rattle.vertex_expr.specs.declared.program.NamedParam.{NamedParam}
use Rattle.vertex_expr.specs.declared.program.ProgramEntries.{ProgramEntries}

-- where an expression stands: its part, how many lanes the program has, and the names of its params
pub record Scope : Type 0 where
  pub part : Part
  pub lanes : ℕ
  pub params : List (List ℕ)

-- every literal fits, every param and lane that it names is there, and it mentions only what its
-- part may mention
abbrev pub IsPrintable : Scope → Tree → Type 0
IsPrintable s (literal (pos n)) = n < 2 ^ 63
IsPrintable s (literal (negsuc n)) = suc n ≤ 2 ^ 63
IsPrintable s (param k) = k < length s.params
IsPrintable s (val k) = (s.part ≡ Contribute) × (k < s.lanes)
IsPrintable s outdeg = s.part ≡ Contribute
IsPrintable s weight = s.part ≡ Contribute
IsPrintable s attr = Unit {0}
IsPrintable s id = Unit {0}
IsPrintable s (agg k) = (s.part ≡ Apply) × (k < s.lanes)
IsPrintable s (old k) = (s.part ≡ Apply) × (k < s.lanes)
IsPrintable s (plus a b) = IsPrintable s a × IsPrintable s b
IsPrintable s (minus a b) = IsPrintable s a × IsPrintable s b
IsPrintable s (times a b) = IsPrintable s a × IsPrintable s b
IsPrintable s (over a b) = IsPrintable s a × IsPrintable s b
IsPrintable s (least a b) = IsPrintable s a × IsPrintable s b
IsPrintable s (greatest a b) = IsPrintable s a × IsPrintable s b
IsPrintable s (clamp x a b) = IsPrintable s x × IsPrintable s a × IsPrintable s b
IsPrintable s (choose c a b x y) = IsPrintable s a × IsPrintable s b × IsPrintable s x
    × IsPrintable s y

-- a tree that a text can have in this place
pub record IsTextTree (s : Scope) (t : Tree) : Type 0 where
  pub fits : IsPrintable s t
  pub few : nodes t ≤ 256
  pub shallow : depth t ≤ 32

-- from lo to hi
pub record IsWithin (lo hi n : ℕ) : Type 0 where
  pub least : lo ≤ n
  pub most : n ≤ hi

-- two numbers that fit, the first at most the second
pub record IsRange (lo hi : ℤ) : Type 0 where
  pub lo_fits : FitsSigned w64 lo
  pub hi_fits : FitsSigned w64 hi
  pub order : lo ≤ℤ hi

-- limits that a text can have
pub record AreLimits (l : Limits) : Type 0 where
  pub vertices : IsWithin 1 1000000 l.vertices
  pub degree : IsWithin 1 1000000 l.degree
  pub edges : IsWithin 1 8000000 l.edges
  pub weight : IsRange l.weight_lo l.weight_hi
  pub attr : IsRange l.attr_lo l.attr_hi
  pub attr_least : l.attr_lo ≤ℤ pos 0
  pub attr_most : pos 0 ≤ℤ l.attr_hi

-- the number of an empty aggregate fits
abbrev pub IsCombination : Combine → Type 0
IsCombination Sum = Unit {0}
IsCombination (Min e) = FitsSigned w64 e
IsCombination (Max e) = FitsSigned w64 e

-- the names and the numbers of params, in their order
abbrev pub names_of : List NamedParam → List (List ℕ)
names_of params = map (λ p. p.name) params

abbrev pub values_of : List NamedParam → List ℤ
values_of params = map (λ p. p.value) params

-- where the expressions of a part stand
abbrev pub scope_in : ProgramEntries → Part → Scope
scope_in p part = record { part = part; lanes = length p.ranges; params = names_of p.params }

-- one expression for each lane, each of which can stand there
pub record AreExprs (s : Scope) (trees : List Tree) : Type 0 where
  pub each_lane : length trees ≡ s.lanes
  pub fit : All (IsTextTree s) trees

-- a text can have these entries; how long that text is, is left out
pub record IsWritable (p : ProgramEntries) : Type 0 where
  pub name : is_name p.name ≡ true
  pub limits : AreLimits p.limits
  pub rounds : IsWithin 1 64 p.rounds
  pub combine : IsCombination p.combine
  pub few_params : length p.params ≤ 64
  pub names : AreNames (names_of p.params)
  pub values : All (FitsSigned w64) (values_of p.params)
  pub lanes : IsWithin 1 8 (length p.ranges)
  pub ranges : All (λ r. IsRange r.lo r.hi) p.ranges
  pub init : AreExprs (scope_in p Init) p.init
  pub contribute : AreExprs (scope_in p Contribute) p.contribute
  pub apply : AreExprs (scope_in p Apply) p.apply
