-- What edits make of a graph, and why an edit is bad.
use Rattle.std.specs.Prelude.{ℕ, ℤ, ◌+◌, ◌++◌, ◌==◌, Bool, ◌&&◌, ◌||◌, not, nat_lt, int_le, length}
use Rattle.std.specs.Prelude.{cond, if◌then◌else◌, fold, slice_set, List, [], ◌∷◌, Option, Some}
use Rattle.std.specs.Prelude.{None, is_some}
use Rattle.std.specs.FinMap as finite
use Rattle.bolt_base.specs.Graph.{Graph, edges, outdeg, indeg}
use Rattle.bolt_base.specs.declared.edge.Edit.{Edit}
use Rattle.bolt_base.specs.declared.edge.Edit.TheVariants.{Add, Cut, Attr}
use Rattle.bolt_base.specs.declared.limits.Limits.{Limits}
use Rattle.bolt_base.specs.declared.limits.LineCause.{LineCause}
use Rattle.bolt_base.specs.declared.limits.LineCause.TheVariants.{Vertex, Weight, Attribute}
use Rattle.bolt_base.specs.declared.limits.LineCause.TheVariants.{Present, Absent, Degree, Edges}

-- the attributes with that of vertex v set, or with v added where it is the next one
abbrev pub with_attr : List ℤ → ℕ → ℤ → List ℤ
with_attr attrs v a = if v == length attrs then attrs ++ a ∷ [] else slice_set attrs v a

-- an addition gives the pair a weight, a cut takes it away, and an attribute edit sets an attribute
-- or adds a vertex
abbrev pub edited : Graph → Edit → Graph
edited g (Add e) = record g { weights = finite.insert g.weights (e.src, e.dst) e.weight }
edited g (Cut s d) = record g { weights = finite.remove g.weights (s, d) }
edited g (Attr v a) = record g { attrs = with_attr g.attrs v a }

-- the graph after edits, in order
abbrev pub after : Graph → List Edit → Graph
after g edits = fold edited g edits

-- the first test that fails has the cause
abbrev pub unless : Bool → LineCause → Option LineCause → Option LineCause
unless holds cause rest = cond holds rest (Some cause)

abbrev pub has_vertices : Graph → ℕ → ℕ → Bool
has_vertices g u v = nat_lt u (length g.attrs) && nat_lt v (length g.attrs)

abbrev pub has_edge : Graph → ℕ → ℕ → Bool
has_edge g u v = is_some (finite.get g.weights (u, v))

-- a vertex that is there, or the next one where there is room for it
abbrev pub may_be_set : Limits → Graph → ℕ → Bool
may_be_set l g v = nat_lt v (length g.attrs)
    || ((v == length g.attrs) && nat_lt (length g.attrs) l.vertices)

abbrev pub is_between : ℤ → ℤ → ℤ → Bool
is_between lo hi x = int_le lo x && int_le x hi

-- neither end is at the limit of degrees
abbrev pub has_degrees : Limits → Graph → ℕ → ℕ → Bool
has_degrees l g u v = nat_lt (outdeg g u) l.degree && nat_lt (indeg g v) l.degree

-- one more edge is within the limit
abbrev pub has_room : Limits → Graph → Bool
has_room l g = nat_lt (length (edges g)) l.edges

-- the cause for which an edit is bad on a graph, or none
abbrev pub one : Limits → Graph → Edit → Option LineCause
one l g (Add e) =
    unless (has_vertices g e.src e.dst) Vertex
    (unless (is_between l.weight_lo l.weight_hi e.weight) Weight
    (unless (not (has_edge g e.src e.dst)) Present
    (unless (has_degrees l g e.src e.dst) Degree
    (unless (has_room l g) Edges None))))
one l g (Cut s d) = unless (has_vertices g s d) Vertex (unless (has_edge g s d) Absent None)
one l g (Attr v a) =
    unless (may_be_set l g v) Vertex (unless (is_between l.attr_lo l.attr_hi a) Attribute None)

-- a cause at place k, or what comes later
abbrev pub bad_or : Option LineCause → ℕ → Option (ℕ × LineCause) → Option (ℕ × LineCause)
bad_or None k later = later
bad_or (Some cause) k later = Some (k, cause)

-- the first bad edit of those from place k on, with its cause
abbrev pub bad_from : Limits → Graph → ℕ → List Edit → Option (ℕ × LineCause)
bad_from l g k [] = None
bad_from l g k (e ∷ es) = bad_or (one l g e) k (bad_from l (edited g e) (k + 1) es)

-- the first edit that is bad on the graph that the edits before it leave, with its cause
abbrev pub bad : Limits → Graph → List Edit → Option (ℕ × LineCause)
bad l g edits = bad_from l g 0 edits
