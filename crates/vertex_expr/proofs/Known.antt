-- What a program's expressions name is known.
use Rattle.std.proofs.Common.{◌≡◌, ℤ, ◌<◌, List, length, refl, sym, ◌∙◌, subst}
use Rattle.std.specs.Prelude.{IsSome}
use Rattle.std.specs.List.{All}
use Rattle.std.proofs.lemmas.List.{length-map}
use Rattle.std.proofs.lemmas.List.Elements.{All-nil}
use Rattle.vertex_expr.specs.Box.{Bounds, box}
use Rattle.vertex_expr.specs.ProgramBounds.{bounds_in, trees_in, lane_spans, contribute_bounds}
use Rattle.vertex_expr.specs.ProgramBounds.{contributed, combined, aggregated}
use Rattle.vertex_expr.specs.Safe.{EachNode, IsKnown}
use Rattle.vertex_expr.specs.Tree.{Tree, literal, param, val, outdeg, weight, attr, id, agg, old}
use Rattle.vertex_expr.specs.Tree.{plus, minus, times, over, least, greatest, clamp, choose}
use Rattle.vertex_expr.specs.Writable.{Scope, IsPrintable, IsTextTree, IsWritable, scope_in}
use Rattle.vertex_expr.specs.Writable.{names_of, values_of}
use Rattle.vertex_expr.specs.declared.expr.Part.{Part}
use Rattle.vertex_expr.specs.declared.expr.Part.TheVariants.{Init, Contribute, Aggregate, Apply}
use Rattle.vertex_expr.specs.declared.program.ProgramEntries.{ProgramEntries}

-- what may stand in the scope has a number or an interval
record Covers (s : Scope) (ps : List ℤ) (b : Bounds) : Type 0 where
  pub params : length ps ≡ length s.params
  pub val : s.part ≡ Contribute → length b.val ≡ s.lanes
  pub outdeg : s.part ≡ Contribute → IsSome b.outdeg
  pub weight : s.part ≡ Contribute → IsSome b.weight
  pub agg : s.part ≡ Apply → length b.agg ≡ s.lanes
  pub old : s.part ≡ Apply → length b.old ≡ s.lanes

printable_is_known : (s : Scope) (ps : List ℤ) (b : Bounds) → Covers s ps b → (t : Tree)
    → IsPrintable s t
    → EachNode (IsKnown ps b) t
printable_is_known s ps b c (literal x) h = tt
printable_is_known s ps b c (param k) h = subst (λ n. k < n) (sym c.params) h
printable_is_known s ps b c (val k) h = subst (λ n. k < n) (sym (c.val h.0)) h.1
printable_is_known s ps b c outdeg h = c.outdeg h
printable_is_known s ps b c weight h = c.weight h
printable_is_known s ps b c attr h = tt
printable_is_known s ps b c id h = tt
printable_is_known s ps b c (agg k) h = subst (λ n. k < n) (sym (c.agg h.0)) h.1
printable_is_known s ps b c (old k) h = subst (λ n. k < n) (sym (c.old h.0)) h.1
printable_is_known s ps b c (plus x y) h =
    (printable_is_known s ps b c x h.0, printable_is_known s ps b c y h.1, tt)
printable_is_known s ps b c (minus x y) h =
    (printable_is_known s ps b c x h.0, printable_is_known s ps b c y h.1, tt)
printable_is_known s ps b c (times x y) h =
    (printable_is_known s ps b c x h.0, printable_is_known s ps b c y h.1, tt)
printable_is_known s ps b c (over x y) h =
    (printable_is_known s ps b c x h.0, printable_is_known s ps b c y h.1, tt)
printable_is_known s ps b c (least x y) h =
    (printable_is_known s ps b c x h.0, printable_is_known s ps b c y h.1, tt)
printable_is_known s ps b c (greatest x y) h =
    (printable_is_known s ps b c x h.0, printable_is_known s ps b c y h.1, tt)
printable_is_known s ps b c (clamp x y z) h = (
  printable_is_known s ps b c x h.0,
  printable_is_known s ps b c y h.1,
  printable_is_known s ps b c z h.2,
  tt,
)
printable_is_known s ps b c (choose o u v x y) h = (
  printable_is_known s ps b c u h.0,
  printable_is_known s ps b c v h.1,
  printable_is_known s ps
      b c x h.2,
  printable_is_known s ps b c y h.3,
  tt,
)

-- ---- the three parts

same_params : (p : ProgramEntries) → length (values_of p.params) ≡ length (names_of p.params)
same_params p = length-map p.params (λ q. q.value) ∙ sym (length-map p.params (λ q. q.name))

each_lane : (p : ProgramEntries) → length (lane_spans p.ranges) ≡ length p.ranges
each_lane p = length-map p.ranges (λ r. record { low = r.lo; high = r.hi })

each_aggregate : (p : ProgramEntries) → IsWritable p → length (aggregated p) ≡ length p.ranges
each_aggregate p w =
    length-map (contributed p) (combined p.combine p.limits.degree)
    ∙ length-map p.contribute (box (values_of p.params) (contribute_bounds p))
    ∙ w.contribute.each_lane

scope_is_covered : (p : ProgramEntries) (part : Part) → IsWritable p
    → Covers (scope_in p part) (values_of p.params) (bounds_in p part)
scope_is_covered p Init w = record {
  params = same_params p;
  val = λ e. absurd (cc e);
  outdeg = λ e. absurd (cc e);
  weight = λ e. absurd (cc e);
  agg = λ e. absurd (cc e);
  old = λ e. absurd (cc e);
}
scope_is_covered p Aggregate w = record {
  params = same_params p;
  val = λ e. absurd (cc e);
  outdeg = λ e. absurd (cc e);
  weight = λ e. absurd (cc e);
  agg = λ e. absurd (cc e);
  old = λ e. absurd (cc e);
}
scope_is_covered p Contribute w = record {
  params = same_params p;
  val = λ e. each_lane p;
  outdeg = λ e. refl;
  weight = λ e. refl;
  agg = λ e. absurd (cc e);
  old = λ e. absurd (cc e);
}
scope_is_covered p Apply w = record {
  params = same_params p;
  val = λ e. absurd (cc e);
  outdeg = λ e. absurd (cc e);
  weight = λ e. absurd (cc e);
  agg = λ e. each_aggregate p w;
  old = λ e. each_lane p;
}

all_known : (p : ProgramEntries) (part : Part) (trees : List Tree) → IsWritable p
    → All (IsTextTree (scope_in p part)) trees
    → All (EachNode (IsKnown (values_of p.params) (bounds_in p part))) trees
all_known p part trees w a = λ k d h. let f = a k d h in printable_is_known (scope_in p part)
    (values_of p.params) (bounds_in p part) (scope_is_covered p part w) _ f.fits

pub program_known : (p : ProgramEntries) (part : Part) → IsWritable p
    → All (EachNode (IsKnown (values_of p.params) (bounds_in p part))) (trees_in p part)
program_known p Init w = all_known p Init p.init w w.init.fit
program_known p Contribute w = all_known p Contribute p.contribute w w.contribute.fit
program_known p Aggregate w = All-nil _
program_known p Apply w = all_known p Apply p.apply w w.apply.fit
