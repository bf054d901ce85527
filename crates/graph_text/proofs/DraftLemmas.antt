-- An edge that is taken into a draft.
use Rattle.std.proofs.Common.{◌≡◌, ℕ, ℤ, pos, ◌+◌, max, Bool, true, false, ◌&&◌, length, refl, sym}
use Rattle.std.proofs.Common.{ap, ◌∙◌, Option, Some, None}
use Rattle.std.specs.Prelude.{nat_lt, is_none, is_some, unwrap_or}
use Rattle.std.specs.FinMap as finite
use Rattle.std.proofs.lemmas.List.FromFn.{length-map-range_with_len}
use Rattle.bolt_base.specs.declared.edge.Edge.{Edge}
use Rattle.bolt_base.specs.declared.limits.Limits.{Limits}
use Rattle.bolt_base.specs.declared.limits.LineCause.{LineCause}
use Rattle.bolt_base.specs.declared.limits.LineCause.TheVariants.{Vertex, Weight, Present, Degree}
use Rattle.bolt_base.specs.declared.limits.LineCause.TheVariants.{Edges}
use Rattle.bolt_base.specs.Graph.{Weights}
use Rattle.bolt_base.specs.Edits.{unless, is_between, has_degrees, has_room}
use Rattle.graph_text.specs.GraphText.{Draft, bound, drafted, cause, taken_in}
use Rattle.graph_text.specs.declared.graph_lines.GraphLine.TheVariants.{Edge as EdgeLine}
use Rattle.graph_text.specs.declared.graph_draft.GraphDraft.{GraphDraft}
use Rattle.graph_text.specs.DraftCode.{attr_at, draft_of, named_in}
use Rattle.graph_text.specs.EdgeIndex.{edges_alone}

-- why the ends or the weight are bad, and why there is no room for one edge more
abbrev pub ends_of : Limits → Draft → Edge → Option LineCause
ends_of l d e =
    unless (nat_lt e.src (bound l d) && nat_lt e.dst (bound l d)) Vertex
    (unless (is_between l.weight_lo l.weight_hi e.weight) Weight None)

abbrev pub room_of : Limits → Weights → Edge → Option LineCause
room_of l w e =
    unless (has_degrees l (edges_alone w) e.src e.dst) Degree
    (unless (has_room l (edges_alone w)) Edges None)

length_drafted : (d : Draft) (n : ℕ) → length (drafted d n).attrs ≡ n
length_drafted d n = length-map-range_with_len (λ v. unwrap_or (d.attr v) (pos 0)) 0 n

abbrev in_parts : Limits → Draft → Edge → ℕ → Option LineCause → Option LineCause
in_parts l d e n rest =
    unless (nat_lt e.src n && nat_lt e.dst n) Vertex
    (unless (is_between l.weight_lo l.weight_hi e.weight) Weight rest)

cause_parts : (l : Limits) (d : Draft) (e : Edge)
    → cause l d (EdgeLine e) ≡ in_parts l d e (bound l d)
    (unless (is_none (finite.get d.weights (e.src, e.dst))) Present (room_of l d.weights e))
unfolding cause
cause_parts l d e =
    ap (λ n. in_parts l d e n (unless (is_none (finite.get d.weights (e.src, e.dst))) Present
    (room_of l d.weights e))) (length_drafted d (bound l d))

unless-stops : (a b : Bool) (x y c : LineCause) (rest : Option LineCause)
    → Some c ≡ unless a x (unless b y None) → Some c ≡ unless a x (unless b y rest)
unless-stops true true x y c rest e = absurd (cc)
unless-stops true false x y c rest e = e
unless-stops false b x y c rest e = e

unless-passes : (a b : Bool) (x y : LineCause) (rest : Option LineCause)
    → None ≡ unless a x (unless b y None) → unless a x (unless b y rest) ≡ rest
unless-passes true true x y rest e = refl
unless-passes true false x y rest e = absurd (cc)
unless-passes false b x y rest e = absurd (cc)

-- the ends or the weight are bad
pub ends_bad : (l : Limits) (d : Draft) (e : Edge) (c : LineCause) → Some c ≡ ends_of l d e
    → Some c ≡ cause l d (EdgeLine e)
ends_bad l d e c is = unless-stops _ _ Vertex Weight c _ is ∙ sym (cause_parts l d e)

-- they are good, and what is bad else
ends_good : (l : Limits) (d : Draft) (e : Edge) → None ≡ ends_of l d e
    → cause l d (EdgeLine e) ≡ unless (is_none (finite.get d.weights (e.src, e.dst))) Present
    (room_of l d.weights e)
ends_good l d e is = cause_parts l d e ∙ unless-passes _ _ Vertex Weight _ is

-- the edge is there already, or it isn't
present_cause : (o : Option ℤ) (rest : Option LineCause) → is_some o ≡ true
    → Some Present ≡ unless (is_none o) Present rest
present_cause (Some x) rest h = refl
present_cause None rest h = absurd (cc)

not_there : (o : Option ℤ) (rest : Option LineCause) → is_some o ≡ false
    → rest ≡ unless (is_none o) Present rest
not_there None rest h = refl
not_there (Some x) rest h = absurd (cc)

pub is_present : (l : Limits) (d : Draft) (e : Edge) → None ≡ ends_of l d e
    → is_some (finite.get d.weights (e.src, e.dst)) ≡ true → Some Present ≡ cause l d (EdgeLine e)
is_present l d e is h =
    present_cause (finite.get d.weights (e.src, e.dst)) (room_of l d.weights e) h
    ∙ sym (ends_good l d e is)

pub is_absent : (l : Limits) (d : Draft) (e : Edge) → None ≡ ends_of l d e
    → is_some (finite.get d.weights (e.src, e.dst)) ≡ false
    → room_of l d.weights e ≡ cause l d (EdgeLine e)
is_absent l d e is h =
    not_there (finite.get d.weights (e.src, e.dst)) (room_of l d.weights e) h
    ∙ sym (ends_good l d e is)

some_from_none : (o : Option ℤ) → false ≡ is_none o → is_some o ≡ true
some_from_none (Some x) e = refl
some_from_none None e = absurd (cc)

none_from_none : (o : Option ℤ) → true ≡ is_none o → is_some o ≡ false
none_from_none None e = refl
none_from_none (Some x) e = absurd (cc)

pub not_fresh : (w : Weights) (e : Edge) (fresh : Bool)
    → fresh ≡ is_none (finite.get w (e.src, e.dst)) → fresh ≡ false
    → is_some (finite.get w (e.src, e.dst)) ≡ true
not_fresh w e fresh is stays = some_from_none _ (sym stays ∙ is)

pub is_fresh : (w : Weights) (e : Edge) (fresh : Bool)
    → fresh ≡ is_none (finite.get w (e.src, e.dst)) → fresh ≡ true
    → is_some (finite.get w (e.src, e.dst)) ≡ false
is_fresh w e fresh is goes = none_from_none _ (sym goes ∙ is)

-- an edge that is taken in
pub edge_taken : (c : GraphDraft) (e : Edge) (weights : Weights)
    → weights ≡ finite.insert c.edges (e.src, e.dst) e.weight
    → draft_of (named_in (record {
      begun = c.begun;
      counted = c.counted;
      named = c.named;
      attrs = c.attrs;
      edges = weights;
    }) (max e.src e.dst)) ≡ taken_in (draft_of c) (EdgeLine e)
unfolding taken_in
edge_taken c e weights put = λ i. record {
  begun = true;
  counted = c.counted;
  named = max c.named (max e.src e.dst + 1);
  attr = λ v. attr_at c.attrs.items v;
  weights = put i;
}
